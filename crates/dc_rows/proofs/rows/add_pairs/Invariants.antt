use Rattle.std.proofs.Common.{◌≡◌, ◌-◌, flat_map}
use Rattle.std.specs.List.{range_with_len}
use Rattle.dc_rows.specs.Rows.{later_rows, pair_rows, with_rows}
use Rattle.dc_rows.proofs.rows.add_pairs.Given as goal

abbrev pub invariant-loop-j : goal.invariant-loop-j
invariant-loop-j l = with_rows l.rows (flat_map (later_rows l.vars) (range_with_len l.j (l.vars - l.j))) ≡ with_rows l.initial.rows (pair_rows l.vars)
