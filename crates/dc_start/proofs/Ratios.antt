-- The row that leaves.
use Rattle.std.proofs.Common.{◌≡◌, ℕ, ◌+◌, ◌<◌, Bool, true, false, cond, not, ◌&&◌, ◌||◌, length, slice_index, nat_lt, Option, Some, None, Ok, Err, refl, sym, ◌∙◌, ap, ap₂, add-one}
use Rattle.dc_math.specs.Rational.{ℚ, ◌<ℚ◌, <ℚ-≤ℚ, ≤ℚ_refl, le_ℚ, of_ℤ}
use Rattle.std.specs.Prelude.{pos}
use Rattle.dc_math.specs.RationalField.{rationals}
use Rattle.dc_math.specs.Inverse.{◌/ℚ◌}
use Rattle.dc_math.specs.Tests as tests
use Rattle.dc_math.specs.Tests.{lt_ℚ, lt_ℚ-true, lt_ℚ-false}
use Rattle.dc_frac.specs.Fits.{quotient_fits}
use Rattle.dc_frac.specs.Value.{value}
use Rattle.dc_lp.specs.Tables as tables
use Rattle.dc_lp.specs.Tables.{Table}
use Rattle.dc_lp.specs.Meanings.{at, right, ratio_answer, ratio_row, ratios_fit, ratios_fit_below}
use Rattle.dc_start.specs.declared.ratio.Candidate.{Candidate}
use Rattle.dc_start.specs.Ratios.{IsCandidate, AreCandidates, AreWithin, row_of, goes_before, better, IsBestOf}
use Rattle.dc_lp.proofs.Belows.{all_below-fails}

-- a positive number isn't 0
pub positive-nonzero : (x : ℚ) → tests.is_positive x ≡ true → tests.is_zero x ≡ false
positive-nonzero x h = by (le_ℚ x (of_ℤ (pos 0))) h
  where
    by : (b : Bool) → not b ≡ true → b && le_ℚ (of_ℤ (pos 0)) x ≡ false
    by true e = absurd (cc)
    by false e = refl

-- ---- which of two rows goes first

module _ (t : Table ℚ) (j : ℕ) (c d : Candidate) (h : IsCandidate t j c) (k : IsCandidate t j d) where
  abbrev judged : ℚ → ℚ → Bool
  judged x y = lt_ℚ x y || not (lt_ℚ y x) && nat_lt (slice_index t.basis c.row) (slice_index t.basis d.row)

  by_values : goes_before t j c.row d.row ≡ judged (value c.ratio) (value d.ratio)
  unfolding tables.goes_before
  by_values =
      ap (λ x. judged x (tables.ratio_of ℚ rationals t j d.row)) (sym h.ratio)
      ∙ ap (λ y. judged (value c.ratio) y) (sym k.ratio)

  pub before-less : value c.ratio <ℚ value d.ratio → true ≡ goes_before t j c.row d.row
  before-less l = sym (by_values ∙ ap (λ b. b || not (lt_ℚ (value d.ratio) (value c.ratio)) && nat_lt (slice_index t.basis c.row) (slice_index t.basis d.row)) (lt_ℚ-true _ _ l))

  pub before-equal : (b : Bool) → value c.ratio ≡ value d.ratio → b ≡ nat_lt (slice_index t.basis c.row) (slice_index t.basis d.row) → b ≡ goes_before t j c.row d.row
  before-equal b e f =
      let n : (x : ℚ) → lt_ℚ x x ≡ false = λ x. lt_ℚ-false x x (≤ℚ_refl x) in
      f ∙ sym (by_values ∙ ap (λ x. judged x (value d.ratio)) e ∙ ap (λ v. v || not v && nat_lt (slice_index t.basis c.row) (slice_index t.basis d.row)) (n (value d.ratio)))

  pub before-greater : value d.ratio <ℚ value c.ratio → false ≡ goes_before t j c.row d.row
  before-greater l = sym (
      by_values
      ∙ ap (λ b. b || not (lt_ℚ (value d.ratio) (value c.ratio)) && nat_lt (slice_index t.basis c.row) (slice_index t.basis d.row)) (lt_ℚ-false _ _ (<ℚ-≤ℚ _ _ l))
      ∙ ap (λ b. not b && nat_lt (slice_index t.basis c.row) (slice_index t.basis d.row)) (lt_ℚ-true _ _ l))

pub better-then : (t : Table ℚ) (j i k : ℕ) → true ≡ goes_before t j i k → Some i ≡ better t j i (Some k)
better-then t j i k e = rw (← e) refl

pub better-else : (t : Table ℚ) (j i k : ℕ) → false ≡ goes_before t j i k → Some k ≡ better t j i (Some k)
better-else t j i k e = rw (← e) refl

-- ---- row after row

pub best-start : (t : Table ℚ) (j : ℕ) → IsBestOf t j 0 None
unfolding ratios_fit_below
best-start t j = record { fit = refl; row = refl; candidates = tt }

module _ (t : Table ℚ) (j n : ℕ) (best : Option Candidate) (h : IsBestOf t j n best) where
  pub best-skip : tests.is_positive (at t n j) ≡ false → IsBestOf t j (n + 1) best
  unfolding ratios_fit_below
  best-skip e =
      record {
        fit = rw (add-one, h.fit, e) refl;
        row = rw (add-one, e) h.row;
        candidates = h.candidates;
      }

  pub best-more : (c : Candidate) → tests.is_positive (at t n j) ≡ true → quotient_fits (at t n (right t)) (at t n j) ≡ true → IsCandidate t j c → Some c.row ≡ better t j n (row_of best) → IsBestOf t j (n + 1) (Some c)
  unfolding ratios_fit_below
  best-more c e q k b =
      record {
        fit = rw (add-one, h.fit, e) q;
        row = rw (add-one, e) (b ∙ ap (better t j n) h.row);
        candidates = k;
      }

  pub best-past : tests.is_positive (at t n j) ≡ true → quotient_fits (at t n (right t)) (at t n j) ≡ false → n < length t.basis → Err (record {}) ≡ ratio_answer t j
  unfolding ratios_fit_below
  best-past e q lt =
      let no : ratios_fit t j ≡ false = all_below-fails (λ i. not (tests.is_positive (at t i j)) || quotient_fits (at t i (right t)) (at t i j)) n (length t.basis) (rw e q) lt in
      sym (ap (λ b. cond b (Ok (ratio_row t j)) (Err (record {}))) no)

  pub best-all : n ≡ length t.basis → Ok (row_of best) ≡ ratio_answer t j
  unfolding ratios_fit_below tables.ratio_row
  best-all same =
      let yes : ratios_fit t j ≡ true = ap (ratios_fit_below t j) (sym same) ∙ h.fit in
      let row : row_of best ≡ ratio_row t j = h.row ∙ ap (tables.best_below ℚ rationals t j) same in
      ap (λ o. Ok o) row ∙ sym (ap (λ b. cond b (Ok (ratio_row t j)) (Err (record {}))) yes)

pub candidates-within : (t : Table ℚ) (j : ℕ) (best : Option Candidate) → AreCandidates t j best → AreWithin (length t.basis) best
candidates-within t j None h = tt
candidates-within t j (Some c) h = h.row

-- a row with its quotient
pub candidate-is : (t : Table ℚ) (j : ℕ) (c : Candidate) (x y : ℚ) → c.row < length t.basis → value c.ratio ≡ x /ℚ y → x ≡ at t c.row (right t) → y ≡ at t c.row j
    → IsCandidate t j c
candidate-is t j c x y l e f g = record { row = l; ratio = e ∙ ap₂ ◌/ℚ◌ f g }
