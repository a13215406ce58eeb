use Rattle.std.proofs.Common.{◌+◌, map}
use Rattle.dc_points.specs.Stated.{atom_number}
use Rattle.dc_entail.specs.Columns.{AreColumnsOf, column_numbers}
use Rattle.dc_entail.proofs.decide.empty_problem.Given as goal

abbrev pub invariant-loop-atom : goal.invariant-loop-atom
invariant-loop-atom l = AreColumnsOf l.atom-index (l.places + 1) (λ i j. column_numbers l.places (atom_number l.hyps j) i) (map (λ v. v.items) l.columns.items)
