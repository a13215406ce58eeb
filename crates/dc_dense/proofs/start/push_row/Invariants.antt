use Rattle.dc_dense.specs.Rows.{HasRows}
use Rattle.dc_dense.proofs.start.push_row.Given as goal

abbrev pub invariant-loop-col : goal.invariant-loop-col
invariant-loop-col l = HasRows l.p l.row l.col l.items.items
