use Rattle.std.proofs.Common.{◌≡◌, take}
use Rattle.dc_cert.proofs.certificate.copy_vectors.Given as goal

abbrev pub invariant-loop-s : goal.invariant-loop-s
invariant-loop-s l = l.copies ≡ take l.s-index l.list
