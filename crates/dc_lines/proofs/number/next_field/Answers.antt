use Rattle.std.proofs.Common.{◌<◌, subst, SFits, rules}
use Rattle.std.specs.Int.{w64, w128}
use Rattle.std.proofs.lemmas.Int.{to_z-of_z}
use Rattle.dc_lines.proofs.Fields.{refuse_number, refuse_wide, number_end}
use Rattle.dc_lines.proofs.number.next_field.Goals as goal

pub returns-in_default-whole : goal.returns-in_default-whole
returns-in_default-whole c = refuse_number c.args.text.now c.in-Some.inside.now _ c.in-Some.ensures c.cut.ensures.front c.in_default-whole.ensures

pub returns-then-unsigned_abs-gt-MOST_FIELD : goal.returns-then-unsigned_abs-gt-MOST_FIELD
returns-then-unsigned_abs-gt-MOST_FIELD c =
    let a : SFits w128 c.in-Some-whole.next = search rules in
    let v = simp to_z-of_z at c.unsigned_abs.ensures.value in
    refuse_wide c.args.text.now c.in-Some.inside.now _ c.in-Some-whole.next c.in-Some.ensures c.cut.ensures.front c.in-Some-whole.ensures.0 c.in-Some-whole.ensures.1 (subst (λ n. 9223372036854775807 < n) v c.if-unsigned_abs-gt-MOST_FIELD.true)

pub returns : goal.returns
returns c =
    let a : SFits w128 c.in-Some-whole.next = search rules in
    let b : SFits w64 c.narrow.result = search rules in
    let v = simp to_z-of_z at c.unsigned_abs.ensures.value in
    let n = simp to_z-of_z at c.narrow.ensures in
    simp to_z-of_z (number_end c.args.text.now c.in-Some.inside.now _ c.cut.result.1.now c.in-Some-whole.next c.narrow.result c.unsigned_abs.result n v c.if-unsigned_abs-gt-MOST_FIELD.false c.in-Some.ensures c.cut.ensures.front c.cut.ensures.rest
    c.in-Some-whole.ensures.1)
