use Rattle.std.proofs.Common.{◌≡◌, [], replicate}
use Rattle.dc_table.specs.Tables.{lists}
use Rattle.dc_table.proofs.table.empty_columns.Given as goal

abbrev pub invariant-loop-column : goal.invariant-loop-column
invariant-loop-column l = lists l.columns.items ≡ replicate l._column []
