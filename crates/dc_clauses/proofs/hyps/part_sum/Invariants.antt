use Rattle.std.proofs.Common.{◌≡◌, Some, drop, pos}
use Rattle.dc_math.specs.Rational.{of_ℤ}
use Rattle.dc_frac.specs.Value.{value}
use Rattle.dc_clauses.specs.Hyps.{atoms_of}
use Rattle.dc_clauses.specs.Items.{items_sum}
use Rattle.dc_clauses.proofs.Parts.{row}
use Rattle.dc_clauses.proofs.hyps.part_sum.Given as goal

abbrev pub invariant-loop-item : goal.invariant-loop-item
invariant-loop-item l =
    items_sum (row (atoms_of l.hyps) l.places l.place) (Some (value l.sum)) (drop l.item-index l.items) ≡ items_sum (row (atoms_of l.hyps) l.places l.place) (Some (of_ℤ (pos 0))) l.items
