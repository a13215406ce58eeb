use Rattle.std.proofs.Common.{◌≡◌, drop}
use Rattle.std.specs.List.{list_all}
use Rattle.dc_clauses.specs.Sides.{is_full}
use Rattle.dc_clauses.proofs.shape.are_full.Given as goal

abbrev pub invariant-loop-atoms : goal.invariant-loop-atoms
invariant-loop-atoms l = list_all (is_full l.s) (drop l.atoms-index l.x.families) ≡ list_all (is_full l.s) l.x.families
