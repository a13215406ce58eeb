use Rattle.std.proofs.Common.{◌≡◌, ◌+◌, ◌≤◌, length, vec_len}
use Rattle.std.specs.Prelude.{vec_capacity}
use Rattle.dc_sparse.specs.Entries.{KeepsAll}
use Rattle.dc_sparse.proofs.web.Web.reserve.Given as goal

abbrev pub invariant-loop : goal.invariant-loop
invariant-loop l = record {
  kept : KeepsAll l.fn.self.nodes.items l.self.nodes.items;
  arena : length l.self.nodes.items ≡ length l.fn.self.nodes.items + l.counter;
  spare : l.self.spare ≡ l.fn.self.spare + l.counter;
  room : vec_len l.self.nodes + l.more ≤ vec_capacity l.self.nodes + l.counter;
  rows : l.self.row_heads.items ≡ l.fn.self.row_heads.items;
  columns : l.self.col_heads.items ≡ l.fn.self.col_heads.items;
}
