-- A whole pivot, by entries.
use Rattle.std.specs.Prelude.{◌≡◌, ℕ, ◌<◌, Bool, ◌&&◌, ◌||◌, ◌==◌, cond, List}
use Rattle.dc_math.specs.Rational.{ℚ, ◌-ℚ◌, ◌*ℚ◌}
use Rattle.dc_math.specs.Inverse.{◌/ℚ◌}
use Rattle.dc_math.specs.Tests.{is_zero}
use Rattle.dc_frac.specs.Fits.{quotient_fits}
use Rattle.dc_lp.specs.Tables.{made}
use Rattle.dc_lp.specs.Meanings.{all_below}
use Rattle.dc_start.specs.Changes.{step_fits}

-- h rows of w numbers
unfoldable pub grid : ℕ → ℕ → (ℕ → ℕ → ℚ) → List (List ℚ)
grid h w e = made h (λ i. made w (λ k. e i k))

-- what must fit in row `row`: the quotients by its entry in column col
abbrev pub quotients_fit : (ℕ → ℕ → ℚ) → ℕ → ℕ → ℕ → Bool
quotients_fit e w row col = all_below w (λ k. quotient_fits (e row k) (e row col))

unfoldable pub entries_fit : (ℕ → ℕ → ℚ) → ℕ → ℕ → ℕ → ℕ → Bool
entries_fit e w h row col =
    quotients_fit e w row col
    && all_below h (λ i. i == row || is_zero (e i col)
    || all_below w (λ k. k == col || step_fits (e i col) (e row k /ℚ e row col) (e i k)))

-- what a pivot leaves in row i and column k
abbrev pub pivoted_at : (ℕ → ℕ → ℚ) → ℕ → ℕ → ℕ → ℕ → ℚ
pivoted_at e row col i k =
    cond (i == row) (e row k /ℚ e row col)
    (cond (is_zero (e i col)) (e i k)
    (e i k -ℚ e i col *ℚ (e row k /ℚ e row col)))

pub record ArePivoted (old new : ℕ → ℕ → ℚ) (w h row col : ℕ) : Type 0 where
  pub each : (i k : ℕ) → i < h → k < w → new i k ≡ pivoted_at old row col i k
