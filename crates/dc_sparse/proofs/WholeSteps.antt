-- A row of whole numbers from which a multiple of the pivot's row is taken: the same step of the
-- entries.
use Rattle.std.proofs.Common.{◌≡◌, ℕ, ◌<◌, ◌≤◌, ◌^◌, true, false, ◌||◌, ◌==◌, nat_lt, pos, unsigned_abs, [], ◌∷◌, length, Some, refl, sym, ◌∙◌, ap, subst, arith, inl, inr}
use Rattle.std.proofs.lemmas.Bool.{cases_Bool, ltb-true, ltb-false}
use Rattle.dc_math.specs.Rational.{ℚ, Fraction, of_ℤ, neg_ℚ, ◌-ℚ◌, ◌*ℚ◌}
use Rattle.dc_math.specs.RationalRing.{ring, reads, read_nat, same_form, linear₂}
use Rattle.dc_math.specs.Inverse.{inverse, *ℚ-inverse, ◌/ℚ◌}
use Rattle.dc_math.specs.Order.{ratio-*ℚ-den, *ℚ_zero}
use Rattle.dc_math.specs.Tests.{is_zero}
use Rattle.dc_frac.specs.declared.Frac.{Frac}
use Rattle.dc_frac.specs.Value.{value, fraction}
use Rattle.dc_frac.specs.Fits.{fits, quotient_fits, IsWithin}
use Rattle.dc_frac.proofs.ValueLaws.{lowest-value}
use Rattle.dc_frac.proofs.ZeroSums.{fits-zero}
use Rattle.dc_frac.proofs.SmallSizes.{lowest_num_below, lowest_den_below}
use Rattle.dc_lp.proofs.Belows.{or_true}
use Rattle.dc_start.specs.Changes.{step_fits}
use Rattle.dc_sparse.specs.declared.web.Web.{Web}
use Rattle.dc_sparse.specs.declared.scaled.Scaled.{Scaled}
use Rattle.dc_sparse.specs.Entries.{entry_at}
use Rattle.dc_sparse.specs.Rows.{AreCombined, steps_fit, stepped_at}
use Rattle.dc_sparse.specs.Scales.{scale_at}
use Rattle.dc_sparse.specs.Held.{held_at}
use Rattle.dc_lp.proofs.Counts.{all_below-on}
use Rattle.dc_sparse.proofs.Quotients.{zero_by}
use Rattle.dc_sparse.proofs.Wholes.{nonzero, zero_test, whole_nonzero, is_zero-zero, over_within, steps_within, stepped_fits, den_nonzero}
use Rattle.dc_sparse.proofs.Scaling.{beyond}
use Rattle.dc_sparse.proofs.HeldEntries.{held-some, held-within, whole_row}

-- ---- numbers

pub parted_step : (y s x d e m f q : ℚ) → is_zero d ≡ false → is_zero (d *ℚ m) ≡ false → q *ℚ m ≡ f → q ≡ s /ℚ e
    → (y *ℚ m -ℚ f *ℚ x) /ℚ (d *ℚ m) ≡ y /ℚ d -ℚ (s /ℚ d) *ℚ (x /ℚ e)
parted_step y s x d e m f q nd nm ef eq =
    ap (λ v. (y *ℚ m -ℚ v *ℚ x) /ℚ (d *ℚ m)) (sym ef ∙ ap (λ v. v *ℚ m) eq)
    ∙ plain y s x d (inverse d) (inverse e) m (inverse (d *ℚ m)) (*ℚ-inverse d (nonzero d nd)) (*ℚ-inverse (d *ℚ m) (nonzero (d *ℚ m) nm))
  where
    plain : (y s x d i j m n : ℚ) → d *ℚ i ≡ of_ℤ (pos 1) → (d *ℚ m) *ℚ n ≡ of_ℤ (pos 1)
        → (y *ℚ m -ℚ (s *ℚ j *ℚ m) *ℚ x) *ℚ n ≡ y *ℚ i -ℚ (s *ℚ i) *ℚ (x *ℚ j)
    plain y s x d i j m n e f = linear₂ (neg_ℚ ((y -ℚ s *ℚ j *ℚ x) *ℚ m *ℚ n)) _ _ _ _ ((y -ℚ s *ℚ j *ℚ x) *ℚ i) _ _ e f
        (ring (y ∷ s ∷ x ∷ d ∷ i ∷ j ∷ m ∷ n ∷ []) (λ ρ p q r t u v w z. simp (p, q, r, t, u, v, w, z, read_nat ρ, reads) (same_form _ _ _ refl)))

-- ---- the parts of a quotient of small numbers

module _ (ratio : Frac) (within : IsWithin 41 (value ratio)) where
  pub num_small : unsigned_abs ratio.num < 2 ^ 41
  num_small = subst (λ (p : Fraction). unsigned_abs p.num < 2 ^ 41) (lowest-value ratio) (lowest_num_below 41 (value ratio) within)

  pub den_small : unsigned_abs ratio.den < 2 ^ 41
  den_small = subst (λ (p : Fraction). unsigned_abs p.den < 2 ^ 41) (lowest-value ratio) (lowest_den_below 41 (value ratio) within)

pub num_is : (ratio : Frac) → value ratio *ℚ of_ℤ ratio.den ≡ of_ℤ ratio.num
unfolding value
num_is ratio = ratio-*ℚ-den (fraction ratio)

-- ---- the step

module _ (s : Scaled) (row pivot col : ℕ) (mine other : Frac) (em : scale_at s.dens.items row ≡ Some mine) (eo : scale_at s.dens.items pivot ≡ Some other)
    (ratio : Frac) (er : value ratio ≡ entry_at s.web.nodes.items row col /ℚ value other) where
  pub ratio_within : IsWithin 41 (value ratio)
  ratio_within = subst (IsWithin 41) (sym er) (over_within (entry_at s.web.nodes.items row col) (value other) ((whole_row s row mine em).1 col) (whole_row s pivot other eo).0)

  -- the entries fit
  pub held_steps : (w : ℕ) → steps_fit (held_at s) w pivot col row ≡ true
  held_steps w = all_below-on (λ k. k == col || step_fits (held_at s row col) (held_at s pivot k) (held_at s row k)) 0 w (omega arith) refl
      (λ k l u. rw (steps_within (held_at s row col) (held_at s pivot k) (held_at s row k) (held-within s row col mine em) (held-within s pivot k other eo) (held-within s row k mine em)) (or_true (k == col)))

  module _ (by : Frac) (eb : value by ≡ value mine *ℚ of_ℤ ratio.den) where
    by_nonzero : is_zero (value mine *ℚ of_ℤ ratio.den) ≡ false
    by_nonzero = zero_test (value mine *ℚ of_ℤ ratio.den) (λ e. nonzero (of_ℤ ratio.den) (whole_nonzero ratio.den ratio.positive) (*ℚ_zero (value mine) (of_ℤ ratio.den) e (nonzero (value mine) (den_nonzero (value mine) (whole_row s row mine em).0))))

    pub by_fine : is_zero (value by) ≡ false
    by_fine = ap is_zero eb ∙ by_nonzero

    module _ (new : Web) (wide : length new.col_heads.items ≡ length s.web.col_heads.items)
        (combined : AreCombined s.web.nodes.items new.nodes.items row pivot col (of_ℤ ratio.den) (of_ℤ ratio.num) (length s.web.col_heads.items)) where
      difference : (k : ℕ) → (entry_at s.web.nodes.items row k *ℚ of_ℤ ratio.den -ℚ of_ℤ ratio.num *ℚ entry_at s.web.nodes.items pivot k) /ℚ value by ≡ held_at s row k -ℚ held_at s row col *ℚ held_at s pivot k
      difference k =
          ap (λ x. (entry_at s.web.nodes.items row k *ℚ of_ℤ ratio.den -ℚ of_ℤ ratio.num *ℚ entry_at s.web.nodes.items pivot k) /ℚ x) eb
          ∙ parted_step (entry_at s.web.nodes.items row k) (entry_at s.web.nodes.items row col) (entry_at s.web.nodes.items pivot k) (value mine) (value other) (of_ℤ ratio.den) (of_ℤ ratio.num) (value ratio)
          (den_nonzero (value mine) (whole_row s row mine em).0) by_nonzero (num_is ratio) er
          ∙ sym (ap (λ x. x -ℚ held_at s row col *ℚ held_at s pivot k) (held-some s row k mine em)
          ∙ ap (λ x. entry_at s.web.nodes.items row k /ℚ value mine -ℚ x *ℚ held_at s pivot k) (held-some s row col mine em)
          ∙ ap (λ x. entry_at s.web.nodes.items row k /ℚ value mine -ℚ (entry_at s.web.nodes.items row col /ℚ value mine) *ℚ x) (held-some s pivot k other eo))

      nothing : of_ℤ (pos 0) /ℚ value by ≡ of_ℤ (pos 0)
      nothing = zero_by (of_ℤ (pos 0)) (value by) is_zero-zero

      pub whole_step : (k : ℕ) → k < length s.web.col_heads.items → entry_at new.nodes.items row k /ℚ value by ≡ stepped_at (held_at s) pivot col row k
      whole_step k lk = ap (λ x. x /ℚ value by) (combined k lk) ∙ elim (cases_Bool (k == col)) [
        | inl e ↦ rw e nothing
        | inr e ↦ rw e (difference k)
      ]

      stepped_whole : (k : ℕ) → fits (stepped_at (held_at s) pivot col row k) ≡ true
      stepped_whole k = elim (cases_Bool (k == col)) [
        | inl e ↦ rw e fits-zero
        | inr e ↦ rw e (stepped_fits (held_at s row col) (held_at s pivot k) (held_at s row k) (held-within s row col mine em) (held-within s pivot k other eo) (held-within s row k mine em))
      ]

      pub whole_quotients : (k : ℕ) → quotient_fits (entry_at new.nodes.items row k) (value by) ≡ true
      whole_quotients k = elim (cases_Bool (nat_lt k (length s.web.col_heads.items))) [
        | inl q ↦ ap fits (whole_step k (ltb-true k (length s.web.col_heads.items) q)) ∙ stepped_whole k
        | inr q ↦
            (let le : length s.web.col_heads.items ≤ k = ltb-false k (length s.web.col_heads.items) q in
            ap (λ x. fits (x /ℚ value by)) (beyond new row k (omega arith)) ∙ ap fits nothing ∙ fits-zero)
      ]
