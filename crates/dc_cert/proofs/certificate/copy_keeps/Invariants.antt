use Rattle.std.proofs.Common.{◌≡◌, take}
use Rattle.dc_cert.proofs.certificate.copy_keeps.Given as goal

abbrev pub invariant-loop-keeps : goal.invariant-loop-keeps
invariant-loop-keeps l = l.copies ≡ take l.keeps-index l.list
