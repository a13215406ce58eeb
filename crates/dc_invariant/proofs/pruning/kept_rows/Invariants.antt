use Rattle.std.proofs.Common.{◌≡◌, is_some, filter, slice_index_or, None}
use Rattle.std.specs.List.{range_with_len}
use Rattle.dc_invariant.proofs.pruning.kept_rows.Given as goal

abbrev pub invariant-loop-row : goal.invariant-loop-row
invariant-loop-row l = l.rows.items ≡ filter (λ r. is_some (slice_index_or l.least r None)) (range_with_len 0 l.row)
