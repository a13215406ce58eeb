use Rattle.std.proofs.Common.{◌≡◌, None}
use Rattle.dc_lp.specs.Tables.{first_some}
use Rattle.dc_simplex.proofs.Dues.{cell_in}
use Rattle.dc_simplex.proofs.next.cell_to_drive.Given as goal

abbrev pub invariant-loop-row : goal.invariant-loop-row
invariant-loop-row g l = first_some (cell_in (g.T.Tableau.meaning l.tableau).table) l.row ≡ None
