use Rattle.std.proofs.Common.{◌≡◌, ℕ, ◌<◌, None}
use Rattle.dc_system.specs.Folded.{fold_at}
use Rattle.dc_system.proofs.folding.least.Given as goal

abbrev pub invariant-loop-location : goal.invariant-loop-location
invariant-loop-location l = (j : ℕ) → j < l.location → fold_at l.vars l.exit l.edges j ≡ None
