use Rattle.std.proofs.Common.{◌≡◌, None}
use Rattle.dc_simplex.proofs.Dues.{entry_below}
use Rattle.dc_simplex.proofs.next.real_entry.Given as goal

abbrev pub invariant-loop-col : goal.invariant-loop-col
invariant-loop-col g l = entry_below (g.T.Tableau.meaning l.tableau).table l.row l.col ≡ None
