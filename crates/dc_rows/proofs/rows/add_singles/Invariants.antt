use Rattle.std.proofs.Common.{◌≡◌, ◌-◌, flat_map}
use Rattle.std.specs.List.{range_with_len}
use Rattle.dc_rows.specs.Rows.{rows_of_one, single_rows, with_rows}
use Rattle.dc_rows.proofs.rows.add_singles.Given as goal

abbrev pub invariant-loop-k : goal.invariant-loop-k
invariant-loop-k l = with_rows l.rows (flat_map (rows_of_one l.vars) (range_with_len l.k (l.vars - l.k))) ≡ with_rows l.initial.rows (single_rows l.vars)
