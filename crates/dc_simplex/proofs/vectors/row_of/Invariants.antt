use Rattle.std.proofs.Common.{◌≡◌, None}
use Rattle.dc_simplex.proofs.Readings.{basic_below}
use Rattle.dc_simplex.proofs.vectors.row_of.Given as goal

abbrev pub invariant-loop-row : goal.invariant-loop-row
invariant-loop-row g l = basic_below (g.T.Tableau.meaning l.tableau).table l.col l.row ≡ None
