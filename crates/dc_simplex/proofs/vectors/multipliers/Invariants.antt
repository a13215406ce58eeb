use Rattle.dc_lp.specs.Problems.{linear_of}
use Rattle.dc_simplex.specs.Outcomes.{IsVector, multiplier_at}
use Rattle.dc_simplex.proofs.vectors.multipliers.Given as goal

abbrev pub invariant-loop-row : goal.invariant-loop-row
invariant-loop-row g l = IsVector l.row (multiplier_at (linear_of l.p) (g.T.Tableau.meaning l.tableau).table l.cost_row) l.y.items
