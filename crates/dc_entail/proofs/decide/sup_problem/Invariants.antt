use Rattle.std.proofs.Common.{◌≡◌, map, length, take}
use Rattle.dc_points.specs.Stated.{atom_number}
use Rattle.dc_entail.specs.Columns.{AreColumnsOf, place_numbers}
use Rattle.dc_entail.proofs.decide.sup_problem.Given as goal

abbrev pub invariant-loop-atom : goal.invariant-loop-atom
invariant-loop-atom l = record {
  columns : AreColumnsOf l.atom-index (length l.form) (λ i j. place_numbers (length l.form) (atom_number l.hyps j) i) (map (λ v. v.items) l.columns.items);
  costs : l.cost.items ≡ map (λ a. a.c0) (take l.atom-index l.hyps);
}
