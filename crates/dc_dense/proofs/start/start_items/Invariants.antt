use Rattle.dc_dense.specs.Rows.{HasRows}
use Rattle.dc_dense.proofs.start.start_items.Given as goal

abbrev pub invariant-loop-row : goal.invariant-loop-row
invariant-loop-row l = HasRows l.p l.row 0 l.items.items
