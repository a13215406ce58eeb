use Rattle.std.proofs.Common.{◌≡◌, ℕ, ◌<◌, [], map, get_or, false}
use Rattle.std.specs.Str.{bytes_eq}
use Rattle.std.specs.String.{string_bytes}
use Rattle.dc_descent.proofs.scope.place_of.Given as goal

abbrev pub invariant-loop-place : goal.invariant-loop-place
invariant-loop-place l = (k : ℕ) → k < l.place → bytes_eq l.name (get_or (map string_bytes l.names) k []) ≡ false
