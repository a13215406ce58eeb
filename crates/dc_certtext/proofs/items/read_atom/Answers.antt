use Rattle.std.proofs.Common.{◌<◌, ◌≤◌, sym, subst, SFits, rules, arith}
use Rattle.std.specs.Int.{w64}
use Rattle.std.proofs.lemmas.Int.{to_z-of_z}
use Rattle.std.specs.Prelude.{List, ℤ}
use Rattle.dc_lines.proofs.Cutting.{some_is}
use Rattle.dc_certtext.proofs.Counted.{Counted, counted_start, counted_step, counted_refuse, counted_wide, no_constant}
use Rattle.dc_certtext.proofs.items.read_atom.Goals as goal

pub returns-in_default : goal.returns-in_default
returns-in_default c = no_constant c.args.text.now c.in_default.ensures

pub coefs-init : goal.coefs-init
coefs-init c =
    let a : SFits w64 c.in-Some.c0 = search rules in
    simp to_z-of_z
    (subst (λ (x : List ℤ). Counted c.args.text.now c.in-Some.c0 x c.in-Some.more.now) (sym c.new-coefs.ensures) (counted_start c.args.text.now c.in-Some.c0 c.in-Some.more.now c.in-Some.ensures.0 c.in-Some.ensures.1 c.in-Some.ensures.2))

pub returns-in_default-next_number : goal.returns-in_default-next_number
returns-in_default-next_number c = counted_refuse c.args.text.now _ c.coefs.coefs c.coefs.rest.now (some_is c.coefs.rest.now c.coefs-test.ensures) c.in_default-next_number.ensures c.coefs.invariant

pub returns-then-unsigned_abs-gt-MOST_COEFFICIENT : goal.returns-then-unsigned_abs-gt-MOST_COEFFICIENT
returns-then-unsigned_abs-gt-MOST_COEFFICIENT c =
    let a : SFits w64 c.in-Some-next_number.coef = search rules in
    let v = simp to_z-of_z at c.unsigned_abs.ensures.value in
    counted_wide c.args.text.now _ c.coefs.coefs c.coefs.rest.now c.in-Some-next_number.coef c.in-Some-next_number.more.now c.in-Some-next_number.ensures.0 c.in-Some-next_number.ensures.1 c.in-Some-next_number.ensures.2
    (subst (λ n. 2147483647 < n) v c.if-unsigned_abs-gt-MOST_COEFFICIENT.true) c.coefs.invariant

pub coefs-preserved : goal.coefs-preserved
coefs-preserved c =
    let a : SFits w64 c.in-Some-next_number.coef = search rules in
    let v = simp to_z-of_z at c.unsigned_abs.ensures.value in
    let p = simp to_z-of_z at c.in_ok-push.ensures.ok in
    counted_step c.args.text.now _ c.coefs.coefs c.push.new.self c.coefs.rest.now c.in-Some-next_number.coef c.in-Some-next_number.more.now (subst (λ n. n ≤ 2147483647) v c.if-unsigned_abs-gt-MOST_COEFFICIENT.false) c.in-Some-next_number.ensures.1
    c.in-Some-next_number.ensures.2 (let e = c.len.ensures in let f = c.if-len-ge-MOST_COEFFICIENTS.false in omega arith) p c.coefs.invariant
