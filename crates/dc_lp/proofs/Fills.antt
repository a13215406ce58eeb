-- The fill of a pivot is the number of gaps at the crossings of its column and its row.
use Rattle.std.specs.Prelude.{◌≡◌, ◌≢◌, ℕ, ◌+◌, ◌<◌, ◌≤◌, ◌==◌, pos, length, Bool, true, false, not, ◌&&◌, slice_index_or, [], ◌∷◌}
use Rattle.std.proofs.Math.ListN.{length-set}
use Rattle.std.proofs.Common.{refl, sym, ◌∙◌, ap, ap₂, subst, inl, inr, arith}
use Rattle.std.proofs.lemmas.Bool.{cases_Bool, eqb-true}
use Rattle.std.proofs.lemmas.Bool.Decides.{same_from_decides}
use Rattle.std.proofs.lemmas.List.FromFn.{get_or-map-range_with_len}
use Rattle.std.proofs.Math.Bool.{and-false}
use Rattle.dc_math.specs.Rational.{ℚ, ◌*ℚ◌, ◌+ℚ◌, neg_ℚ, of_ℤ, zero-*ℚ}
use Rattle.dc_math.specs.RationalRing.{ring, reads, read_nat, same_form, linear₂}
use Rattle.dc_math.specs.RationalField.{rationals}
use Rattle.dc_math.specs.Inverse.{inverse, *ℚ-inverse}
use Rattle.dc_math.specs.Order.{*ℚ_zero}
use Rattle.dc_math.specs.Tests.{eq_ℚ-true, eq_ℚ_true, eq_ℚ_false, is_zero}
use Rattle.dc_lp.specs.Tables as tables
use Rattle.dc_lp.specs.Tables.{Table}
use Rattle.dc_lp.specs.Meanings.{at, height, width, pivoted, divided, IsPivotCell}
use Rattle.dc_lp.specs.Fill.{is_filled, meets_gap, count_cells, fill, gaps, entry_count}
use Rattle.dc_lp.specs.Laws.{Fills, EntriesGrow}
use Rattle.dc_lp.proofs.Counts.{one_if, count_cells-same, count_cells-sum}

is-zero : (x : ℚ) → x ≡ of_ℤ (pos 0) → is_zero x ≡ true
is-zero x e = eq_ℚ-true x (of_ℤ (pos 0)) e

zero-not : (x : ℚ) → is_zero x ≡ false → x ≢ of_ℤ (pos 0)
zero-not x e = eq_ℚ_false x (of_ℤ (pos 0)) e

same-zero : (x y : ℚ) → (x ≡ of_ℤ (pos 0) → y ≡ of_ℤ (pos 0)) → (y ≡ of_ℤ (pos 0) → x ≡ of_ℤ (pos 0)) → is_zero x ≡ is_zero y
same-zero x y f g = same_from_decides {P = x ≡ of_ℤ (pos 0)} _ _ (eq_ℚ_true x (of_ℤ (pos 0)), is-zero x) (λ e. g (eq_ℚ_true y (of_ℤ (pos 0)) e), λ h. is-zero y (f h))

-- an entry of a pivoted table
pub pivoted-at : (t : Table ℚ) (r j i k : ℕ) → i < height t → k < width t → at (pivoted t r j) i k ≡ tables.pivoted_entry ℚ rationals t r j i k
unfolding tables.pivoted
pivoted-at t r j i k li lk =
    ap (λ x. slice_index_or x k (of_ℤ (pos 0))) (get_or-map-range_with_len _ 0 (height t) i i [] li (omega arith))
    ∙ get_or-map-range_with_len _ 0 (width t) k k (of_ℤ (pos 0)) lk (omega arith)

no_entry : (q i : ℚ) → q ≡ of_ℤ (pos 0) → q *ℚ i ≡ of_ℤ (pos 0)
no_entry q i e = ap (λ z. z *ℚ i) e ∙ zero-*ℚ i

-- 0 less d times q over p is 0 exactly where q is
takes_none : (a d q i : ℚ) → a ≡ of_ℤ (pos 0) → q ≡ of_ℤ (pos 0) → a +ℚ neg_ℚ (d *ℚ (q *ℚ i)) ≡ of_ℤ (pos 0)
takes_none a d q i e f = linear₂ (of_ℤ (pos 1)) _ _ _ _ (neg_ℚ (d *ℚ i)) _ _ e f (ring (a ∷ d ∷ q ∷ i ∷ []) (λ ρ p₁ p₂ p₃ p₄. simp (p₁, p₂, p₃, p₄, read_nat ρ, reads) (same_form _ _ _ refl)))

product-none : (a d q i : ℚ) → a ≡ of_ℤ (pos 0) → a +ℚ neg_ℚ (d *ℚ (q *ℚ i)) ≡ of_ℤ (pos 0) → d *ℚ (q *ℚ i) ≡ of_ℤ (pos 0)
product-none a d q i e f = linear₂ (of_ℤ (pos 1)) _ _ _ _ (neg_ℚ (of_ℤ (pos 1))) _ _ e f (ring (a ∷ d ∷ q ∷ i ∷ []) (λ ρ p₁ p₂ p₃ p₄. simp (p₁, p₂, p₃, p₄, read_nat ρ, reads) (same_form _ _ _ refl)))

back : (q p i : ℚ) → p *ℚ i ≡ of_ℤ (pos 1) → q *ℚ i ≡ of_ℤ (pos 0) → q ≡ of_ℤ (pos 0)
back q p i e f = linear₂ (neg_ℚ q) _ _ _ _ p _ _ e f (ring (q ∷ p ∷ i ∷ []) (λ ρ p₁ p₂ p₃. simp (p₁, p₂, p₃, read_nat ρ, reads) (same_form _ _ _ refl)))

took_none : (a d q p : ℚ) → a ≡ of_ℤ (pos 0) → d ≢ of_ℤ (pos 0) → p ≢ of_ℤ (pos 0) → a +ℚ neg_ℚ (d *ℚ (q *ℚ inverse p)) ≡ of_ℤ (pos 0) → q ≡ of_ℤ (pos 0)
took_none a d q p e nd np f = back q p (inverse p) (*ℚ-inverse p np) (*ℚ_zero d (q *ℚ inverse p) (product-none a d q (inverse p) e f) nd)

module _ (t : Table ℚ) (r j : ℕ) (h : IsPivotCell t r j) where
  nonzero : at t r j ≢ of_ℤ (pos 0)
  nonzero = zero-not _ h.nonzero

  entry : ℕ → ℕ → ℚ
  entry i k = tables.pivoted_entry ℚ rationals t r j i k

  row_stays : (i k : ℕ) → i ≡ r → is_zero (at t i k) ≡ true → is_zero (divided t r j k) ≡ true
  row_stays i k e z = is-zero _ (no_entry _ _ (ap (λ u. at t u k) (sym e) ∙ eq_ℚ_true _ (of_ℤ (pos 0)) z))

  each : (i k : ℕ) → i < height t → k < width t → is_filled t r j i k ≡ meets_gap t r j i k
  each i k li lk = elim (cases_Bool (is_zero (at t i k))) [
    | inr a ↦ rw a refl
    | inl a ↦ rw (a, pivoted-at t r j i k li lk) (elim (cases_Bool (i == r)) [
      | inl b ↦
          let e : i ≡ r = eqb-true i r b in
          rw (b, row_stays i k e a) (sym (ap (λ v. not (is_zero (at t i j)) && not v) (ap (λ u. is_zero (at t u k)) (sym e) ∙ a) ∙ and-false _))
      | inr b ↦ elim (cases_Bool (is_zero (at t i j))) [
        | inl d ↦ rw (b, d, a) refl
        | inr d ↦ rw (b, d) (ap not (same-zero _ _ (took_none (at t i k) (at t i j) (at t r k) (at t r j) (eq_ℚ_true _ (of_ℤ (pos 0)) a) (zero-not _ d) nonzero)
            (takes_none (at t i k) (at t i j) (at t r k) (inverse (at t r j)) (eq_ℚ_true _ (of_ℤ (pos 0)) a))))
      ]
    ])
  ]

  number : fill t r j ≡ gaps t r j
  unfolding fill gaps
  number = count_cells-same (is_filled t r j) (meets_gap t r j) (height t) (width t) each

pub fills : Fills
fills t r j h = record { each = each t r j h; number = number t r j h }

-- ---- how many entries there are
one_more : (a b : Bool) → one_if (not b) ≤ one_if (not a) + one_if (a && not b)
one_more true true = omega arith
one_more true false = omega arith
one_more false true = omega arith
one_more false false = omega arith

pub pivoted-basis : (t : Table ℚ) (r j : ℕ) → length (pivoted t r j).basis ≡ length t.basis
unfolding tables.pivoted
pivoted-basis t r j = simp length-set

pub pivoted-real : (t : Table ℚ) (r j : ℕ) → (pivoted t r j).real ≡ t.real
unfolding tables.pivoted
pivoted-real t r j = refl

pub entries_grow : EntriesGrow
unfolding entry_count fill
entries_grow t r j =
    subst (λ n. n ≤ count_cells (height t) (width t) (λ i k. not (is_zero (at t i k))) + count_cells (height t) (width t) (is_filled t r j))
    (ap₂ (λ h w. count_cells h w (λ i k. not (is_zero (at (pivoted t r j) i k)))) (ap (λ n. n + 2) (sym (pivoted-basis t r j))) (ap₂ (λ a n. a + n + 1) (sym (pivoted-real t r j)) (sym (pivoted-basis t r j))))
    (count_cells-sum (λ i k. not (is_zero (at (pivoted t r j) i k))) (λ i k. not (is_zero (at t i k))) (is_filled t r j) (height t) (width t) (λ i k. one_more (is_zero (at t i k)) (is_zero (at (pivoted t r j) i k))))
