use Rattle.std.proofs.Common.{◌≡◌, take}
use Rattle.dc_cert.proofs.certificate.copy_atoms.Given as goal

abbrev pub invariant-loop-a : goal.invariant-loop-a
invariant-loop-a l = l.copies ≡ take l.a-index l.list
