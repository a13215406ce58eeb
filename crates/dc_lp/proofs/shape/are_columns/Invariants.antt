use Rattle.std.proofs.Common.{ℕ, ◌<◌}
use Rattle.dc_lp.specs.Problems.{IsColumn, entries}
use Rattle.dc_lp.proofs.shape.are_columns.Given as goal

abbrev pub invariant-loop-j : goal.invariant-loop-j
invariant-loop-j l = (k : ℕ) → k < l.j → IsColumn l.p.rows (entries l.p k)
