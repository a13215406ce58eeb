use Rattle.std.proofs.Common.{◌≡◌, drop}
use Rattle.dc_frac.specs.Value.{value}
use Rattle.dc_cert.specs.Vectors.{entry_after, entry_of}
use Rattle.dc_mainlines.proofs.steps.entry.Given as goal

abbrev pub invariant-loop-item : goal.invariant-loop-item
invariant-loop-item l = entry_after (value l.found) (drop l.item-index l.items) l.index ≡ entry_of l.items l.index
