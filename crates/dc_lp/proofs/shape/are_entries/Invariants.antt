use Rattle.std.proofs.Common.{◌≡◌, take}
use Rattle.dc_lp.specs.Problems.{AreEntries}
use Rattle.dc_lp.proofs.Columns.{row_after}
use Rattle.dc_lp.proofs.shape.are_entries.Given as goal

abbrev pub invariant-loop-e : goal.invariant-loop-e
invariant-loop-e l = record { low : l.low ≡ row_after 0 l.column l.e-index; entries : AreEntries 0 l.rows (take l.e-index l.column) }
