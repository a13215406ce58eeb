use Rattle.dc_simplex.specs.Outcomes.{IsVector, solution_at}
use Rattle.dc_simplex.proofs.vectors.solution.Given as goal

abbrev pub invariant-loop-col : goal.invariant-loop-col
invariant-loop-col g l = IsVector l.col (solution_at (g.T.Tableau.meaning l.tableau).table) l.x.items
