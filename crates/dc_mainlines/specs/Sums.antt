-- Sums row by row, as a certificate's vectors are swept through the columns.
use Rattle.std.specs.Prelude.{◌≡◌, ℕ, ◌+◌, ◌-◌, ◌<◌, ltb, if◌then◌else◌, eqb, cond, List, [], ◌∷◌, ◌++◌, length, slice_index_or, ℤ, pos, Option, Some, None}
use Rattle.std.specs.Option.{option_map, option_and_then}
use Rattle.dc_math.specs.Rational.{ℚ}
use Rattle.dc_math.specs.Tests.{is_positive}
use Rattle.dc_frac.specs.declared.Frac.{Frac}
use Rattle.dc_frac.specs.Value.{value}
use Rattle.dc_lp.specs.declared.Entry.{Entry}
use Rattle.dc_lp.specs.declared.Problem.{Problem}
use Rattle.dc_lp.specs.Linear.{Linear}
use Rattle.dc_lp.specs.Folds.{added, folded}
use Rattle.dc_lp.specs.Problems.{entries}
use Rattle.dc_cert.specs.declared.sparse.Item.{Item}
use Rattle.dc_cert.specs.declared.certificate.Body.{Body}
use Rattle.dc_clauses.specs.declared.step.Step.{Step}
use Rattle.dc_clauses.specs.Steps.{Test, step, counted}
use Rattle.dc_clauses.specs.Lines.{is, is_at_most}
use Rattle.dc_clauses.specs.Mains.{whole_problem, short_column, short_coefficient, sign_steps, equation_tests, price_tests, threshold_tests, ray_tests, fall_tests}

-- a sum, or none where it doesn't fit
abbrev pub sum_of : Option Frac → Option ℚ
sum_of s = option_map value s

-- the sum of a row
abbrev pub sum_at : List (Option Frac) → ℕ → Option ℚ
sum_at sums i = sum_of (slice_index_or sums i None)

-- a sum with a * x more
abbrev pub with_term : Option ℚ → ℤ → ℚ → Option ℚ
with_term s a x = option_and_then (λ t. added t a x) s

-- a row's sum with its entry of a column times x more, as it is where there is no entry
abbrev pub with_entry : Option ℚ → List Entry → ℕ → ℚ → Option ℚ
with_entry s [] i x = s
with_entry s (e ∷ es) i x = cond (eqb e.row i) (with_term s e.value x) (with_entry s es i x)

-- with the entries of a vector's columns more, each times its value; item k belongs to short column
-- start + k
abbrev pub with_items : Problem → ℕ → ℕ → ℕ → Option ℚ → List Item → Option ℚ
with_items p u start i s [] = s
with_items p u start i s (k ∷ ks) =
    with_items p u start i
    (with_entry s (entries p (short_column (whole_problem p) u (start + k.index))) i (value k.value)) ks

-- the sums of rows, each as told
pub record AreSums (sums : List (Option Frac)) (rows : ℕ) (sum : ℕ → Option ℚ) : Type 0 where
  pub one_each : length sums ≡ rows
  pub each : (i : ℕ) → i < rows → sum_at sums i ≡ sum i

-- the short columns for which a problem has room
abbrev pub short_columns : Problem → ℕ → ℕ
short_columns p u = length p.columns.items - u

-- a column's price under y: that of an unknown is its cost, that of a multiplier at most 0
abbrev pub priced : Linear ℤ → ℕ → (ℕ → ℤ) → (ℕ → ℚ) → ℕ → Test
priced m u cost y k =
    if ltb k u then is (folded m.equations (λ i. short_coefficient m u i k) y)
    (cost (short_column m u k))
    else is_at_most (folded m.equations (λ i. short_coefficient m u i k) y) (pos 0)

-- a row's sum is the number on the right
abbrev pub solved : List (Option Frac) → (ℕ → ℤ) → ℕ → Test
solved sums right i = is (sum_at sums i) (right i)

-- an item is positive
abbrev pub signed : Item → Step
signed k = step 8 k.index (Some (is_positive (value k.value)))

-- the steps behind those of the ranges
abbrev pub later_steps : Linear ℤ → ℕ → Body → List Step
later_steps m u b =
    sign_steps m u b
    ++ (counted 9 0 (equation_tests m u b)
    ++ (counted 10 0 (price_tests m u b)
    ++ (counted 11 0 (threshold_tests m u b)
    ++ (counted 12 0 (ray_tests m u b)
    ++ counted 13 0 (fall_tests m u b)))))
