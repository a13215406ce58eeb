use Rattle.std.proofs.Common.{◌≡◌, ◌+◌}
use Rattle.dc_lp.specs.Tables.{made}
use Rattle.dc_start.proofs.start.start_basis.Given as goal

abbrev pub invariant-loop-i : goal.invariant-loop-i
invariant-loop-i l = l.basis.items ≡ made l.i (λ i. l.n + i)
