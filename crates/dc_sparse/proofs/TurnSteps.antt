-- The pivot's row, and two rows of fractions, by what is held of them.
use Rattle.std.proofs.Common.{◌≡◌, ℕ, false, cond, ◌&&◌, ◌||◌, ◌==◌, pos, List, [], ◌∷◌, None, refl, sym, ◌∙◌, ap}
use Rattle.dc_math.specs.Rational.{ℚ, of_ℤ, ◌-ℚ◌, ◌*ℚ◌}
use Rattle.dc_math.specs.Inverse.{inverse, ◌/ℚ◌}
use Rattle.dc_math.specs.RationalRing.{ring, reads, same_form}
use Rattle.dc_math.specs.Tests.{is_zero}
use Rattle.dc_frac.specs.Fits.{fits, quotient_fits, difference_fits}
use Rattle.dc_lp.proofs.Belows.{all_below-same}
use Rattle.dc_start.specs.Changes.{step_fits}
use Rattle.dc_sparse.specs.declared.web.Node.{Node}
use Rattle.dc_sparse.specs.declared.scaled.Scaled.{Scaled}
use Rattle.dc_sparse.specs.Entries.{entry_at, KeepsCells}
use Rattle.dc_sparse.specs.Rows.{reductions_fit, row_gaps, entry_after, steps_fit, stepped_at, gaps_in_row, divisions_fit, KeepsRows}
use Rattle.dc_sparse.specs.Pivots.{quotients_fit}
use Rattle.dc_sparse.specs.Scales.{scale_at, den_of, scaled_at}
use Rattle.dc_sparse.specs.Held.{held_at, KeepsSizes, KeepsOthers}
use Rattle.dc_lp.proofs.Counts.{count_below-same}
use Rattle.dc_sparse.proofs.Wholes.{both_parted}
use Rattle.dc_sparse.proofs.Scaling.{den_of-nonzero}
use Rattle.dc_sparse.proofs.HeldEntries.{held-zero, held-none, held-kept}

-- ---- the pivot's row

module _ (s : Scaled) (row col : ℕ) (nz : is_zero (held_at s row col) ≡ false) where
  pub entry_nonzero : is_zero (entry_at s.web.nodes.items row col) ≡ false
  entry_nonzero = sym (held-zero s row col) ∙ nz

  -- the denominator falls out of quotients
  pub held_quotient : (k : ℕ) → held_at s row k /ℚ held_at s row col ≡ entry_at s.web.nodes.items row k /ℚ entry_at s.web.nodes.items row col
  unfolding held_at scaled_at
  held_quotient k = both_parted (entry_at s.web.nodes.items row k) (entry_at s.web.nodes.items row col) (den_of (scale_at s.dens.items row))
      (den_of-nonzero (scale_at s.dens.items row) (entry_at s.web.nodes.items row) (s.scaled.rows row)) entry_nonzero

  pub divisions-held : (by : ℚ) (w : ℕ) → by ≡ entry_at s.web.nodes.items row col → divisions_fit s.web.nodes.items row by w ≡ quotients_fit (held_at s) w row col
  unfolding divisions_fit
  divisions-held by w e = all_below-same w _ _ (λ k lk. ap (quotient_fits (entry_at s.web.nodes.items row k)) e ∙ sym (ap fits (held_quotient k)))

  pub divided-held : (by : ℚ) (k : ℕ) → by ≡ entry_at s.web.nodes.items row col → entry_at s.web.nodes.items row k /ℚ by ≡ held_at s row k /ℚ held_at s row col
  divided-held by k e = ap (λ x. entry_at s.web.nodes.items row k /ℚ x) e ∙ sym (held_quotient k)

-- a row whose denominator stays
pub others_kept : (s t : Scaled) (i : ℕ) → t.dens.items ≡ s.dens.items → KeepsRows s.web.nodes.items t.web.nodes.items i → KeepsCells s.web.nodes.items t.web.nodes.items → KeepsSizes s.web t.web → KeepsOthers s t i
others_kept s t i e rows cells sizes = record {
  entries = λ a b ne. held-kept s t a b (ap (λ ds. scale_at ds a) e) (rows.entries a b ne);
  scales = λ a ne. ap (λ ds. scale_at ds a) e;
  cells = cells;
  sizes = sizes;
}

-- ---- two rows, where those are 0 that were

pub gaps-same : (s : Scaled) (xs : List Node) (row pivot w : ℕ) → ((k : ℕ) → is_zero (entry_at xs row k) ≡ is_zero (held_at s row k)) → ((k : ℕ) → is_zero (entry_at xs pivot k) ≡ is_zero (held_at s pivot k))
    → row_gaps xs row pivot w ≡ gaps_in_row (held_at s) row pivot w
unfolding row_gaps
gaps-same s xs row pivot w h k = count_below-same _ _ w (λ j lj. rw (h j, k j) refl)

-- ---- a row of fractions, and the pivot's row as it is held

-- t holds what s does, and `factor` times what it holds in row `pivot` is the product of the entries
module _ (s t : Scaled) (row pivot col : ℕ) (same : (a b : ℕ) → held_at t a b ≡ held_at s a b) (one : scale_at t.dens.items row ≡ None)
    (factor : ℚ) (product : (k : ℕ) → factor *ℚ entry_at t.web.nodes.items pivot k ≡ held_at s row col *ℚ held_at s pivot k) where
  pub at_row : (k : ℕ) → entry_at t.web.nodes.items row k ≡ held_at s row k
  at_row k = sym (held-none t row k one) ∙ same row k

  pub pivot_zero : (k : ℕ) → is_zero (entry_at t.web.nodes.items pivot k) ≡ is_zero (held_at s pivot k)
  pivot_zero k = sym (held-zero t pivot k) ∙ ap is_zero (same pivot k)

  pub fractions_gaps : (w : ℕ) → row_gaps t.web.nodes.items row pivot w ≡ gaps_in_row (held_at s) row pivot w
  fractions_gaps w = gaps-same s t.web.nodes.items row pivot w (λ k. ap is_zero (at_row k)) pivot_zero

  step_same : (k : ℕ) → step_fits factor (entry_at t.web.nodes.items pivot k) (entry_at t.web.nodes.items row k) ≡ step_fits (held_at s row col) (held_at s pivot k) (held_at s row k)
  step_same k =
      ap (λ b. b || fits (factor *ℚ entry_at t.web.nodes.items pivot k) && difference_fits (entry_at t.web.nodes.items row k) (factor *ℚ entry_at t.web.nodes.items pivot k)) (pivot_zero k)
      ∙ ap (λ x. is_zero (held_at s pivot k) || fits x && difference_fits (entry_at t.web.nodes.items row k) x) (product k)
      ∙ ap (λ y. is_zero (held_at s pivot k) || fits (held_at s row col *ℚ held_at s pivot k) && difference_fits y (held_at s row col *ℚ held_at s pivot k)) (at_row k)

  pub fractions_fit : (w : ℕ) → reductions_fit t.web.nodes.items row pivot col factor w ≡ steps_fit (held_at s) w pivot col row
  unfolding reductions_fit
  fractions_fit w = all_below-same w _ _ (λ k lk. ap (λ b. k == col || b) (step_same k))

  pub fractions_after : (k : ℕ) → entry_after t.web.nodes.items row pivot col factor k ≡ stepped_at (held_at s) pivot col row k
  fractions_after k =
      ap (λ x. cond (k == col) (of_ℤ (pos 0)) (entry_at t.web.nodes.items row k -ℚ x)) (product k)
      ∙ ap (λ y. cond (k == col) (of_ℤ (pos 0)) (y -ℚ held_at s row col *ℚ held_at s pivot k)) (at_row k)

-- a quotient by a denominator times what the row holds
pub over_den : (x y d : ℚ) → (x /ℚ d) *ℚ y ≡ x *ℚ (y /ℚ d)
over_den x y d = plain x y (inverse d)
  where
    plain : (x y i : ℚ) → (x *ℚ i) *ℚ y ≡ x *ℚ (y *ℚ i)
    plain x y i = ring (x ∷ y ∷ i ∷ []) (λ ρ p q r. simp (p, q, r, reads) (same_form _ _ _ refl))
