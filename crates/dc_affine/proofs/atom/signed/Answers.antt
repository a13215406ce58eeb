use Rattle.std.proofs.Common.{SFits, ◌-ℤ◌, pos}
use Rattle.std.specs.Int.{w64, w128}
use Rattle.std.proofs.lemmas.Int.{to_z-of_z}
use Rattle.dc_affine.proofs.Fits.{small_64, turned_value, turned_small, kept_value}
use Rattle.dc_affine.proofs.atom.signed.Goals as goal
use Rattle.std.specs.Prelude.{refl}

pub overflow_cast-number : goal.overflow_cast-number
overflow_cast-number c =
    let f : SFits w128 c.args.number = c.ranges.number in
    let g : SFits w64 c.args.number = small_64 c.args.number c.requires in
    simp to_z-of_z g

pub overflow_sub-result : goal.overflow_sub-result
overflow_sub-result c =
    let f : SFits w128 c.args.number = c.ranges.number in
    let g : SFits w64 c.args.number = small_64 c.args.number c.requires in
    let h : SFits w64 (pos 0 -ℤ c.args.number) = small_64 (pos 0 -ℤ c.args.number) (turned_small c.args.number c.requires) in
    simp to_z-of_z h

pub returns-then-turned-clause-value : goal.returns-then-turned-clause-value
returns-then-turned-clause-value c =
    let f : SFits w128 c.args.number = c.ranges.number in
    let g : SFits w64 c.args.number = small_64 c.args.number c.requires in
    let h : SFits w64 (pos 0 -ℤ c.args.number) = small_64 (pos 0 -ℤ c.args.number) (turned_small c.args.number c.requires) in
    simp to_z-of_z (turned_value c.args.turned c.args.number _ c.if-turned.true refl)

pub returns-then-turned-clause-small : goal.returns-then-turned-clause-small
returns-then-turned-clause-small c =
    let f : SFits w128 c.args.number = c.ranges.number in
    let g : SFits w64 c.args.number = small_64 c.args.number c.requires in
    let h : SFits w64 (pos 0 -ℤ c.args.number) = small_64 (pos 0 -ℤ c.args.number) (turned_small c.args.number c.requires) in
    simp to_z-of_z (turned_small c.args.number c.requires)

pub returns-else-turned-clause-value : goal.returns-else-turned-clause-value
returns-else-turned-clause-value c =
    let f : SFits w128 c.args.number = c.ranges.number in
    let g : SFits w64 c.args.number = small_64 c.args.number c.requires in
    simp to_z-of_z (kept_value c.args.turned c.args.number _ c.if-turned.false refl)

pub returns-else-turned-clause-small : goal.returns-else-turned-clause-small
returns-else-turned-clause-small c =
    let f : SFits w128 c.args.number = c.ranges.number in
    let g : SFits w64 c.args.number = small_64 c.args.number c.requires in
    simp to_z-of_z c.requires
