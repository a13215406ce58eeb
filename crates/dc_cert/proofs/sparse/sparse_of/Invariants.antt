use Rattle.std.proofs.Common.{◌≡◌, ◌≤◌, ◌++◌, length, drop}
use Rattle.dc_cert.specs.Vectors.{nonzero_from}
use Rattle.dc_cert.proofs.VectorLaws.{AreWithin}
use Rattle.dc_cert.proofs.sparse.sparse_of.Given as goal

abbrev pub invariant-loop-index : goal.invariant-loop-index
invariant-loop-index l = record { items : l.items ++ nonzero_from l.index (drop l.index l.v) ≡ nonzero_from 0 l.v; within : length l.v ≤ 8192 → AreWithin 0 l.index l.items }
