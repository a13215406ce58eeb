-- A whole pivot: mid is old with row `row` divided, new is mid with the other rows reduced.
use Rattle.std.proofs.Common.{◌≡◌, ◌≢◌, ℕ, ◌<◌, Bool, true, false, cond, ◌&&◌, ◌||◌, ◌==◌, pos, [], ◌∷◌, refl, sym, ◌∙◌, ap, inl, inr}
use Rattle.std.proofs.lemmas.Bool.{cases_Bool, ne_eqb, eqb-true, eqb-false}
use Rattle.dc_math.specs.Rational.{ℚ, of_ℤ, ◌-ℚ◌, ◌*ℚ◌, ◌+ℚ◌, neg_ℚ}
use Rattle.dc_math.specs.RationalRing.{ring, reads, read_nat, same_form, linear₁}
use Rattle.dc_math.specs.Inverse.{inverse, ◌/ℚ◌, *ℚ-inverse}
use Rattle.dc_math.specs.Tests.{is_zero, eq_ℚ_false, eq_ℚ-true}
use Rattle.dc_lp.specs.Meanings.{all_below}
use Rattle.dc_lp.proofs.Belows.{all_below-same}
use Rattle.dc_start.specs.Changes.{step_fits}
use Rattle.dc_sparse.specs.Rows.{row_fits, rows_fit, reduced_at, RowsAreReduced, gaps_in_rows}
use Rattle.dc_sparse.specs.Pivots.{quotients_fit, entries_fit, ArePivoted}
use Rattle.dc_lp.proofs.Counts.{count_cells-same}
use Rattle.dc_sparse.proofs.Quotients.{zero_by, quotient-nonzero}

nothing_left : (y p i : ℚ) → p *ℚ i ≡ of_ℤ (pos 1) → y +ℚ neg_ℚ (y *ℚ (p *ℚ i)) ≡ of_ℤ (pos 0)
nothing_left y p i e = linear₁ (neg_ℚ y) _ _ _ _ e (ring (y ∷ p ∷ i ∷ []) (λ ρ p₁ p₂ p₃. simp (p₁, p₂, p₃, read_nat ρ, reads) (same_form _ _ _ refl)))

difference-same : (y p : ℚ) → is_zero p ≡ false → y -ℚ y *ℚ (p /ℚ p) ≡ of_ℤ (pos 0)
difference-same y p h = nothing_left y p (inverse p) (*ℚ-inverse p (eq_ℚ_false p (of_ℤ (pos 0)) h))

module _ (old mid : ℕ → ℕ → ℚ) (w h row col : ℕ) (lc : col < w) (nz : is_zero (old row col) ≡ false)
    (divided : (k : ℕ) → k < w → mid row k ≡ old row k /ℚ old row col) (keeps : (a b : ℕ) → a ≢ row → mid a b ≡ old a b) where
  -- a quotient is 0 exactly where its entry is
  zero_same : (k : ℕ) → k < w → is_zero (mid row k) ≡ is_zero (old row k)
  zero_same k lk = elim (cases_Bool (is_zero (old row k))) [
    | inl e ↦ ap is_zero (divided k lk ∙ zero_by (old row k) (old row col) e) ∙ eq_ℚ-true (of_ℤ (pos 0)) (of_ℤ (pos 0)) refl ∙ sym e
    | inr e ↦ ap is_zero (divided k lk) ∙ quotient-nonzero (old row k) (old row col) e nz ∙ sym e
  ]

  pub mid_nonzero : is_zero (mid row col) ≡ false
  mid_nonzero = zero_same col lc ∙ nz

  zero_at : (i k : ℕ) → k < w → is_zero (mid i k) ≡ is_zero (old i k)
  zero_at i k lk = elim (cases_Bool (i == row)) [
    | inl e ↦ (let same : i ≡ row = eqb-true i row e in ap (λ x. is_zero (mid x k)) same ∙ zero_same k lk ∙ ap (λ x. is_zero (old x k)) (sym same))
    | inr e ↦ ap is_zero (keeps i k (eqb-false i row e))
  ]

  pub mid_gaps : gaps_in_rows mid w row col h ≡ gaps_in_rows old w row col h
  mid_gaps = count_cells-same _ _ h w (λ i k li lk. rw (zero_at i k lk, zero_at i col lc, zero_at row k lk) refl)

  -- what must fit in row i, by what stands in old
  abbrev fits_row : ℕ → Bool
  fits_row i = i == row || is_zero (old i col) || all_below w (λ k. k == col || step_fits (old i col) (old row k /ℚ old row col) (old i k))

  row_fits-mid : (i : ℕ) → row_fits mid w row col i ≡ fits_row i
  row_fits-mid i = elim (cases_Bool (i == row)) [
    | inl e ↦ rw e refl
    | inr e ↦ (let ne : i ≢ row = eqb-false i row e in
        ap (λ x. i == row || is_zero x || all_below w (λ k. k == col || step_fits x (mid row k) (mid i k))) (keeps i col ne)
        ∙ ap (λ b. i == row || is_zero (old i col) || b) (all_below-same w _ _
        (λ k lk. ap (λ x. k == col || step_fits (old i col) x (mid i k)) (divided k lk) ∙ ap (λ x. k == col || step_fits (old i col) (old row k /ℚ old row col) x) (keeps i k ne))))
  ]

  pub fit-divided : quotients_fit old w row col ≡ true → rows_fit mid w row col h ≡ entries_fit old w h row col
  unfolding rows_fit entries_fit
  fit-divided e = all_below-same h (row_fits mid w row col) fits_row (λ i l. row_fits-mid i) ∙ sym (ap (λ b. b && all_below h fits_row) e)

  abbrev lower : ℕ → ℕ → ℚ
  lower i k = cond (is_zero (old i col)) (old i k) (old i k -ℚ old i col *ℚ (old row k /ℚ old row col))

  -- in the pivot's column the difference is 0
  in_column : (i k : ℕ) → cond (k == col) (of_ℤ (pos 0)) (old i k -ℚ old i col *ℚ (old row k /ℚ old row col)) ≡ old i k -ℚ old i col *ℚ (old row k /ℚ old row col)
  in_column i k = elim (cases_Bool (k == col)) [
    | inl e ↦ (let same : k ≡ col = eqb-true k col e in
        ap (λ b. cond b (of_ℤ (pos 0)) (old i k -ℚ old i col *ℚ (old row k /ℚ old row col))) e
        ∙ sym (ap (λ x. old i x -ℚ old i col *ℚ (old row x /ℚ old row col)) same ∙ difference-same (old i col) (old row col) nz))
    | inr e ↦ rw e refl
  ]

  other_rows : (i k : ℕ) → i ≢ row → k < w → reduced_at mid row col i k ≡ lower i k
  other_rows i k ne lk = elim (cases_Bool (is_zero (old i col))) [
    | inl z ↦ rw (ne_eqb i row ne, keeps i col ne, z) (keeps i k ne)
    | inr z ↦
        rw (ne_eqb i row ne, keeps i col ne, z)
        (ap (λ x. cond (k == col) (of_ℤ (pos 0)) (x -ℚ old i col *ℚ mid row k)) (keeps i k ne)
        ∙ ap (λ x. cond (k == col) (of_ℤ (pos 0)) (old i k -ℚ old i col *ℚ x)) (divided k lk)
        ∙ in_column i k)
  ]

  pub pivoted-divided : (new : ℕ → ℕ → ℚ) → RowsAreReduced mid new w row col h → ArePivoted old new w h row col
  pivoted-divided new r = record {
    each = λ i k li lk. r i li k lk ∙ elim (cases_Bool (i == row)) [
      | inl e ↦ (let same : i ≡ row = eqb-true i row e in rw e (ap (λ x. mid x k) same ∙ divided k lk))
      | inr e ↦ (let ne : i ≢ row = eqb-false i row e in other_rows i k ne lk ∙ sym (rw e refl))
    ];
  }

pub fit-undivided : (old : ℕ → ℕ → ℚ) (w h row col : ℕ) → quotients_fit old w row col ≡ false → entries_fit old w h row col ≡ false
unfolding entries_fit
fit-undivided old w h row col e = ap (λ b. b && all_below h (λ i. i == row || is_zero (old i col) || all_below w (λ k. k == col || step_fits (old i col) (old row k /ℚ old row col) (old i k)))) e
