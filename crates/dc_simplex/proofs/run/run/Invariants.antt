use Rattle.std.proofs.Common.{◌-◌}
use Rattle.dc_lp.specs.Problems.{linear_of}
use Rattle.dc_simplex.proofs.Steps.{IsHere}
use Rattle.dc_simplex.proofs.run.run.Given as goal

abbrev pub invariant-loop-ending : goal.invariant-loop-ending
invariant-loop-ending g l = IsHere (linear_of l.p) l.budget l.m l.n l.pivots l.phase (g.T.Tableau.meaning l.tableau)

abbrev pub decreases-loop-ending : goal.decreases-loop-ending
decreases-loop-ending g l = l.budget - l.pivots
