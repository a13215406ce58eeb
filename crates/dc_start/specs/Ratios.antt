-- The search for the row that leaves, as far as it has come.
use Rattle.std.specs.Prelude.{◌≡◌, ℕ, ◌<◌, Bool, true, length, Option, Some, None}
use Rattle.std.specs.Option.{option_map}
use Rattle.dc_math.specs.Rational.{ℚ}
use Rattle.dc_math.specs.RationalField.{rationals}
use Rattle.dc_frac.specs.Value.{value}
use Rattle.dc_lp.specs.Tables as tables
use Rattle.dc_lp.specs.Tables.{Table}
use Rattle.dc_lp.specs.Meanings.{at, ratios_fit_below}
use Rattle.dc_start.specs.declared.ratio.Candidate.{Candidate}

-- a row of an equation, with its quotient for column j
pub record IsCandidate (t : Table ℚ) (j : ℕ) (c : Candidate) : Type 0 where
  pub row : c.row < length t.basis
  pub ratio : value c.ratio ≡ tables.ratio_of ℚ rationals t j c.row

abbrev pub AreCandidates : Table ℚ → ℕ → Option Candidate → Type 0
AreCandidates t j None = Unit {0}
AreCandidates t j (Some c) = IsCandidate t j c

abbrev pub AreWithin : ℕ → Option Candidate → Type 0
AreWithin n None = Unit {0}
AreWithin n (Some c) = c.row < n

abbrev pub row_of : Option Candidate → Option ℕ
row_of o = option_map (λ (c : Candidate). c.row) o

abbrev pub goes_before : Table ℚ → ℕ → ℕ → ℕ → Bool
goes_before t j i k = tables.goes_before ℚ rationals t j i k

abbrev pub better : Table ℚ → ℕ → ℕ → Option ℕ → Option ℕ
better t j i o = tables.better ℚ rationals t j i o

-- c is the better of the next row and the best before it
pub record IsBetter (t : Table ℚ) (j : ℕ) (next : Candidate) (best : Option Candidate)
    (c : Candidate) : Type 0 where
  pub candidate : IsCandidate t j c
  pub row : Some c.row ≡ better t j next.row (row_of best)

-- the best of the first n rows
pub record IsBestOf (t : Table ℚ) (j n : ℕ) (best : Option Candidate) : Type 0 where
  pub fit : ratios_fit_below t j n ≡ true
  pub row : row_of best ≡ tables.best_below ℚ rationals t j n
  pub candidates : AreCandidates t j best
