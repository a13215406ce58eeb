use Rattle.std.proofs.Common.{◌≡◌, take}
use Rattle.dc_cert.proofs.certificate.copy_edges.Given as goal

abbrev pub invariant-loop-e : goal.invariant-loop-e
invariant-loop-e l = l.copies ≡ take l.e-index l.list
