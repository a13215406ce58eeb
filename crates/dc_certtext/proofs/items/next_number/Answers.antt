use Rattle.std.proofs.Common.{◌<◌, ◌≤◌, subst, SFits, rules}
use Rattle.std.specs.Int.{w64}
use Rattle.std.proofs.lemmas.Int.{to_z-of_z}
use Rattle.dc_certtext.proofs.Counted.{no_number, wide_number}
use Rattle.dc_certtext.proofs.items.next_number.Goals as goal

pub returns-in_default : goal.returns-in_default
returns-in_default c = no_number c.args.text.now c.in_default.ensures

pub returns-then-unsigned_abs-gt-MOST_CONSTANT : goal.returns-then-unsigned_abs-gt-MOST_CONSTANT
returns-then-unsigned_abs-gt-MOST_CONSTANT c =
    let a : SFits w64 c.in-Some.next = search rules in
    let v = simp to_z-of_z at c.unsigned_abs.ensures.value in
    wide_number c.args.text.now c.in-Some.next c.in-Some.more.now c.in-Some.ensures.0 c.in-Some.ensures.1 c.in-Some.ensures.2 (subst (λ n. 2147483648 < n) v c.if-unsigned_abs-gt-MOST_CONSTANT.true)

pub returns : goal.returns
returns c =
    let a : SFits w64 c.in-Some.next = search rules in
    let v = simp to_z-of_z at c.unsigned_abs.ensures.value in
    simp to_z-of_z (subst (λ n. n ≤ 2147483648) v c.if-unsigned_abs-gt-MOST_CONSTANT.false, c.in-Some.ensures.1, c.in-Some.ensures.2)
