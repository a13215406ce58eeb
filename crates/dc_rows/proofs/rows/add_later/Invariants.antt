use Rattle.std.proofs.Common.{◌≡◌, ◌-◌, flat_map}
use Rattle.std.specs.List.{range_with_len}
use Rattle.dc_rows.specs.Rows.{rows_of_two, later_rows, with_rows}
use Rattle.dc_rows.proofs.rows.add_later.Given as goal

abbrev pub invariant-loop-k : goal.invariant-loop-k
invariant-loop-k l = with_rows l.rows (flat_map (rows_of_two l.vars l.j) (range_with_len l.k (l.vars - l.k))) ≡ with_rows l.initial.rows (later_rows l.vars l.j)
