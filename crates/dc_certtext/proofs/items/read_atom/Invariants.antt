use Rattle.std.proofs.Common.{length}
use Rattle.dc_certtext.proofs.Counted.{Counted}
use Rattle.dc_certtext.proofs.items.read_atom.Given as goal

abbrev pub invariant-coefs : goal.invariant-coefs
invariant-coefs l = Counted l.text l.c0 l.coefs l.rest

abbrev pub decreases-coefs : goal.decreases-coefs
decreases-coefs l = length l.rest
