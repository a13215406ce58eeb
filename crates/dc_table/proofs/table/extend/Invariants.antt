use Rattle.std.proofs.Common.{◌≡◌, flat_map, length, take}
use Rattle.dc_table.specs.Tables.{lists, extended, both_entries}
use Rattle.dc_table.proofs.table.extend.Given as goal

abbrev pub invariant-loop-k : goal.invariant-loop-k
invariant-loop-k l = record {
  long : length l.columns.items ≡ length l.initial.columns.items;
  so_far : lists l.columns.items ≡ extended (lists l.initial.columns.items) (flat_map (both_entries l.row l.monos) (take l.k l.parts));
}
