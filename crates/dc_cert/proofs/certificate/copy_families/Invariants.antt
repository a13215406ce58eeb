use Rattle.std.proofs.Common.{◌≡◌, take}
use Rattle.dc_cert.proofs.certificate.copy_families.Given as goal

abbrev pub invariant-loop-atoms : goal.invariant-loop-atoms
invariant-loop-atoms l = l.copies ≡ take l.atoms-index l.list
