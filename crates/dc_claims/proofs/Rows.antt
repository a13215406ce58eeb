-- The left side of an equation, and the cost, as sums over the unknowns and over the multipliers duty by duty.
use Rattle.std.specs.Prelude.{◌≡◌, ℕ, zero, suc, ◌+◌, List, [], ◌∷◌, ◌++◌, map, flat_map, length, slice_get, Option, Some, ℤ, pos, neg_ℤ}
use Rattle.std.specs.List.{range_with_len}
use Rattle.std.proofs.Common.{refl, sym, ◌∙◌, ap, ap₂, subst, arith}
use Rattle.dc_math.specs.Rational.{ℚ, ◌+ℚ◌, ◌-ℚ◌, ◌*ℚ◌, neg_ℚ, of_ℤ, zero-+ℚ}
use Rattle.dc_math.specs.RationalRing.{ring, reads, same_form}
use Rattle.dc_math.specs.Order.{of_ℤ-neg_ℤ}
use Rattle.dc_math.specs.Sums.{sum_ℚ, sum_ℚ_none, sum_ℚ_first, sum_ℚ_same}
use Rattle.dc_claims.specs.Duties.{Pair, Flags, duties_of}
use Rattle.dc_claims.specs.declared.duty.Duty.{Duty}
use Rattle.dc_claims.specs.declared.duty.Unknown.{Unknown}
use Rattle.dc_claims.specs.Parts.{unknowns_of}
use Rattle.dc_claims.specs.Problems.{Column, Plus, Minus, Times, both_signs, products_at, multipliers_at, columns_of}
use Rattle.dc_claims.specs.Claims.{Potential, Multipliers}
use Rattle.dc_claims.specs.Laws.{unknown_value, Splits, IsSplit}
use Rattle.dc_claims.proofs.Totals.{total}

-- the sum over columns from an index on
abbrev pub row : (Column → ℤ) → (ℕ → ℚ) → ℕ → List Column → ℚ
row g x j [] = of_ℤ (pos 0)
row g x j (c ∷ cs) = of_ℤ (g c) *ℚ x j +ℚ row g x (suc j) cs

sum_row : (h : Option Column → ℤ) (x : ℕ → ℚ) (a : ℕ) (cs : List Column) → sum_ℚ (length cs) (λ j. of_ℤ (h (slice_get cs j)) *ℚ x (a + j)) ≡ row (λ c. h (Some c)) x a cs
sum_row h x a [] = sum_ℚ_none _
sum_row h x a (c ∷ cs) =
    sum_ℚ_first (length cs) (λ j. of_ℤ (h (slice_get (c ∷ cs) j)) *ℚ x (a + j))
    ∙ ap₂ (λ y z. of_ℤ (h (Some c)) *ℚ x y +ℚ z) (let e : a + 0 ≡ a = omega arith in e)
    (sum_ℚ_same (length cs) _ _ (λ j l. ap (λ i. of_ℤ (h (slice_get cs j)) *ℚ x i) (let e : a + suc j ≡ suc a + j = omega arith in e)) ∙ sum_row h x (suc a) cs)

pub sum_is_row : (h : Option Column → ℤ) (x : ℕ → ℚ) (cs : List Column) → sum_ℚ (length cs) (λ j. of_ℤ (h (slice_get cs j)) *ℚ x j) ≡ row (λ c. h (Some c)) x 0 cs
sum_is_row h x cs = sum_ℚ_same (length cs) _ _ (λ j l. ap (λ i. of_ℤ (h (slice_get cs j)) *ℚ x i) (let e : j ≡ 0 + j = omega arith in e)) ∙ sum_row h x 0 cs

module _ (x : ℕ → ℚ) (t : ℚ) (φ χ : Potential) (multipliers : Multipliers) where
  -- each column from an index on belongs to its value
  abbrev pub SplitFrom : ℕ → List Column → Type 0
  SplitFrom j [] = Unit {0}
  SplitFrom j (c ∷ cs) = Splits x t φ χ multipliers j c × SplitFrom (suc j) cs

  split_from : (a : ℕ) (cs : List Column) → ((j : ℕ) (c : Column) → slice_get cs j ≡ Some c → Splits x t φ χ multipliers (a + j) c) → SplitFrom a cs
  split_from a [] h = tt
  split_from a (c ∷ cs) h = (
    subst (λ i. Splits x t φ χ multipliers i c) (let e : a + 0 ≡ a = omega arith in e) (h 0 c refl),
    split_from (suc a) cs (λ j b q. subst (λ i. Splits x t φ χ multipliers i b) (let e : a + suc j ≡ suc a + j = omega arith in e) (h (suc j) b q)),
  )

  pub split_all : (cs : List Column) → ((j : ℕ) (c : Column) → slice_get cs j ≡ Some c → Splits x t φ χ multipliers j c) → SplitFrom 0 cs
  split_all cs h = split_from 0 cs (λ j c q. subst (λ i. Splits x t φ χ multipliers i c) (let e : j ≡ 0 + j = omega arith in e) (h j c q))

  module _ (g : Column → ℤ) (opposite : (u : Unknown) → g (Minus u) ≡ neg_ℤ (g (Plus u))) where
    -- an unknown times its number, and the multiplier of a product times its number
    abbrev pub unknown_share : Unknown → ℚ
    unknown_share u = unknown_value t φ χ u *ℚ of_ℤ (g (Plus u))

    abbrev pub product_share : Duty → ℕ → ℚ
    product_share o i = multipliers o i *ℚ of_ℤ (g (Times o i))

    unknowns_row : (j : ℕ) (us : List Unknown) (cs : List Column) (r : ℚ) → SplitFrom j (flat_map both_signs us ++ cs) → ((j : ℕ) → SplitFrom j cs → row g x j cs ≡ r)
        → row g x j (flat_map both_signs us ++ cs) ≡ total unknown_share us +ℚ r
    unknowns_row j [] cs r s h = h j s ∙ sym (zero-+ℚ r)
    unknowns_row j (u ∷ us) cs r s h =
        shape (of_ℤ (g (Plus u))) (of_ℤ (g (Minus u))) (x j) (x (suc j)) (unknown_value t φ χ u) _ (total unknown_share us) r (ap of_ℤ (opposite u) ∙ of_ℤ-neg_ℤ (g (Plus u))) s.0.2 (unknowns_row (suc (suc j)) us cs r s.1.1 h)
      where
        shape : (a b y z v w s r : ℚ) → b ≡ neg_ℚ a → y -ℚ z ≡ v → w ≡ s +ℚ r → a *ℚ y +ℚ (b *ℚ z +ℚ w) ≡ (v *ℚ a +ℚ s) +ℚ r
        shape a b y z v w s r e f h = rw (e, ← f, h) (ring (a ∷ y ∷ z ∷ s ∷ r ∷ []) (λ ρ i j k l m. simp (i, j, k, l, m, reads) (same_form _ _ _ refl)))

    products_row : (o : Duty) (j a n : ℕ) (cs : List Column) (r : ℚ) → SplitFrom j (map (Times o) (range_with_len a n) ++ cs) → ((j : ℕ) → SplitFrom j cs → row g x j cs ≡ r)
        → row g x j (map (Times o) (range_with_len a n) ++ cs) ≡ total (product_share o) (range_with_len a n) +ℚ r
    products_row o j a zero cs r s h = h j s ∙ sym (zero-+ℚ r)
    products_row o j a (suc n) cs r s h = shape (of_ℤ (g (Times o a))) (x j) (multipliers o a) _ (total (product_share o) (range_with_len (a + 1) n)) r s.0 (products_row o (suc j) (a + 1) n cs r s.1 h)
      where
        shape : (a y v w s r : ℚ) → y ≡ v → w ≡ s +ℚ r → a *ℚ y +ℚ w ≡ (v *ℚ a +ℚ s) +ℚ r
        shape a y v w s r e h = rw (e, h) (ring (a ∷ v ∷ s ∷ r ∷ []) (λ ρ i j k l. simp (i, j, k, l, reads) (same_form _ _ _ refl)))

    module _ (p : Pair) (d k : ℕ) where
      -- the multipliers of a duty
      abbrev pub duty_share : Duty → ℚ
      duty_share o = total (product_share o) (range_with_len 0 (length (products_at p k o)))

      duties_row : (os : List Duty) (j : ℕ) → SplitFrom j (flat_map (multipliers_at p k) os) → row g x j (flat_map (multipliers_at p k) os) ≡ total duty_share os
      duties_row [] j s = refl
      duties_row (o ∷ os) j s = products_row o j 0 (length (products_at p k o)) (flat_map (multipliers_at p k) os) (total duty_share os) s (duties_row os)

      pub columns_row : (f : Flags) → IsSplit p d k f x t φ χ multipliers → row g x 0 (columns_of p d k f) ≡ total unknown_share (unknowns_of p d) +ℚ total duty_share (duties_of f)
      columns_row f s =
          unknowns_row 0 (unknowns_of p d) (flat_map (multipliers_at p k) (duties_of f)) (total duty_share (duties_of f)) (split_all (columns_of p d k f) s) (duties_row (duties_of f))
