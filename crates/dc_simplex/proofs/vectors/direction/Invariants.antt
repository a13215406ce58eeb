use Rattle.dc_simplex.specs.Outcomes.{IsVector, direction_at}
use Rattle.dc_simplex.proofs.vectors.direction.Given as goal

abbrev pub invariant-loop-col : goal.invariant-loop-col
invariant-loop-col g l = IsVector l.col (direction_at (g.T.Tableau.meaning l.tableau).table l.along) l.ray.items
