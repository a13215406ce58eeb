-- The quotients of right side by entry, as an arena of nodes has them.
use Rattle.std.specs.Prelude.{◌≡◌, ℕ, ◌+◌, ◌<◌, true, List, length}
use Rattle.dc_math.specs.Rational.{ℚ}
use Rattle.dc_math.specs.Inverse.{◌/ℚ◌}
use Rattle.dc_math.specs.Tests.{is_positive}
use Rattle.dc_frac.specs.Fits.{quotient_fits}
use Rattle.dc_lp.specs.Tables.{Table}
use Rattle.dc_lp.specs.Meanings.{at, right}
use Rattle.dc_sparse.specs.declared.web.Node.{Node}
use Rattle.dc_sparse.specs.Entries.{entry_at}

-- a table has these basic columns, in each equation's row the sign in column j of what the arena
-- holds, and where that is positive its quotient
pub record HasRatios (t : Table ℚ) (real : ℕ) (basis : List ℕ) (xs : List Node) (j : ℕ) : Type 0 where
  pub basic : basis ≡ t.basis
  pub sign : (i : ℕ) → i < length basis → is_positive (at t i j) ≡ is_positive (entry_at xs i j)
  pub fits : (i : ℕ) → i < length basis → is_positive (entry_at xs i j) ≡ true
      → quotient_fits (at t i (right t)) (at t i j)
      ≡ quotient_fits (entry_at xs i (real + length basis)) (entry_at xs i j)
  pub ratio : (i : ℕ) → i < length basis → is_positive (entry_at xs i j) ≡ true
      → at t i (right t) /ℚ at t i j
      ≡ entry_at xs i (real + length basis) /ℚ entry_at xs i j
