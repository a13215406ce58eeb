use Rattle.std.proofs.Common.{refl}
use Rattle.std.proofs.lemmas.Int.{to_z-of_z}
use Rattle.dc_frac.proofs.Values.{parts_value, whole_parts}
use Rattle.dc_frac.proofs.Frac.whole.Goals as goal

pub invariant_of-result : goal.invariant_of-result
invariant_of-result c =
    let fn = c.ranges.num in
    let p = whole_parts c.args.num c.requires in
    record { positive = p.positive; reduced = simp to_z-of_z p.reduced; small = simp to_z-of_z p.small }

pub returns : goal.returns
returns c =
    let fn = c.ranges.num in
    parts_value _ _ _ _ (whole_parts c.args.num c.requires) (simp to_z-of_z refl) refl
