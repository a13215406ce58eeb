-- Combinations of polynomials with rational factors: their values are 0 everywhere exactly where their coefficients are.
use Rattle.std.specs.Prelude.{◌≡◌, ℕ, Bool, true, false, cond, List, [], ◌∷◌, ◌++◌, length, ℤ, pos, ◌+ℤ◌, ◌*ℤ◌}
use Rattle.std.proofs.Common.{refl, sym, ◌∙◌, ap, ap₂, subst, arith}
use Rattle.std.proofs.lemmas.Int.{ints}
use Rattle.std.proofs.Math.IntN.{+ℤ_idl}
use Rattle.dc_math.specs.WholeRing as whole
use Rattle.dc_math.specs.Rational.{ℚ, ◌+ℚ◌, ◌*ℚ◌, of_ℤ, of_ℤ-+ℤ, of_ℤ-*ℤ, *ℚ_comm, zero-*ℚ}
use Rattle.dc_math.specs.RationalRing.{ring, reads, read_nat, same_form}
use Rattle.dc_math.specs.Order.{Positive, Positive_nonzero, Positive-*ℚ, one_positive, of_ℤ-<, of_ℤ_injective, *ℚ_zero, ratio-*ℚ-den}
use Rattle.dc_math.specs.Lowest.{lowest, ratio-lowest}
use Rattle.dc_poly.specs.Terms.{Exponents, TermList, term, mono_value, value, same_mono, coef, Places}
use Rattle.dc_poly.specs.Sums.{plus}
use Rattle.dc_poly.specs.Combinations.{Multiple, combination, value_of, coef_of, HavePlaces}
use Rattle.dc_poly.proofs.Same.{value-++, coef-++, same_everywhere}
use Rattle.dc_poly.proofs.Values.{value-plus, coef-plus, Canonical-plus}
use Rattle.dc_poly.proofs.Canon.{canonical_unique}

pub combination-++ : (g : TermList → ℤ) (cs ds : List Multiple) → combination g (cs ++ ds) ≡ combination g cs +ℚ combination g ds
combination-++ g [] ds = ring (combination g ds ∷ []) (λ ρ i. simp (i, read_nat ρ, reads) (same_form _ _ _ refl))
combination-++ g (c ∷ cs) ds = shape (c.factor *ℚ of_ℤ (g c.terms)) (combination g cs) (combination g ds) _ (combination-++ g cs ds)
  where
    shape : (x y z w : ℚ) → w ≡ y +ℚ z → x +ℚ w ≡ (x +ℚ y) +ℚ z
    shape x y z w e = rw e (ring (x ∷ y ∷ z ∷ []) (λ ρ i j k. simp (i, j, k, reads) (same_form _ _ _ refl)))

-- ---- the same with a common denominator
abbrev scaled : ℤ → TermList → TermList
scaled k [] = []
scaled k (t ∷ p) = term t.mono (k *ℤ t.coef) ∷ scaled k p

-- numbers of polynomials that respect sums and multiples
record IsAdditive (g : TermList → ℤ) : Type 0 where
  none : g [] ≡ pos 0
  joined : (p q : TermList) → g (p ++ q) ≡ g p +ℤ g q
  multiplied : (k : ℤ) (p : TermList) → g (scaled k p) ≡ k *ℤ g p

value-scaled : (xs : List ℤ) (k : ℤ) (p : TermList) → value (scaled k p) xs ≡ k *ℤ value p xs
value-scaled xs k [] = omega (arith, ints)
value-scaled xs k (t ∷ p) = shape k t.coef (mono_value t.mono xs) (value p xs) _ (value-scaled xs k p)
  where
    shape : (k c m y z : ℤ) → z ≡ k *ℤ y → (k *ℤ c) *ℤ m +ℤ z ≡ k *ℤ (c *ℤ m +ℤ y)
    shape k c m y z e = rw e (whole.ring (k ∷ c ∷ m ∷ y ∷ []) (λ ρ h i j l. simp (h, i, j, l, whole.reads) (whole.same_form _ _ _ refl)))

coef-scaled : (m : Exponents) (k : ℤ) (p : TermList) → coef (scaled k p) m ≡ k *ℤ coef p m
coef-scaled m k [] = omega (arith, ints)
coef-scaled m k (t ∷ p) = by (same_mono t.mono m) (coef p m) _ (coef-scaled m k p)
  where
    by : (b : Bool) (y z : ℤ) → z ≡ k *ℤ y → cond b (k *ℤ t.coef) (pos 0) +ℤ z ≡ k *ℤ (cond b t.coef (pos 0) +ℤ y)
    by true y z e = rw e (whole.ring (k ∷ t.coef ∷ y ∷ []) (λ ρ h i j. simp (h, i, j, whole.reads) (whole.same_form _ _ _ refl)))
    by false y z e = +ℤ_idl z ∙ e ∙ ap (λ v. k *ℤ v) (sym (+ℤ_idl y))

value_additive : (xs : List ℤ) → IsAdditive (λ p. value p xs)
value_additive xs = record { none = refl; joined = λ p q. value-++ p q xs; multiplied = value-scaled xs }

coef_additive : (m : Exponents) → IsAdditive (λ p. coef p m)
coef_additive m = record { none = refl; joined = λ p q. coef-++ p q m; multiplied = coef-scaled m }

abbrev denominator : List Multiple → ℤ
denominator [] = pos 1
denominator (c ∷ cs) = (lowest c.factor).den *ℤ denominator cs

abbrev cleared : List Multiple → TermList
cleared [] = []
cleared (c ∷ cs) = scaled ((lowest c.factor).num *ℤ denominator cs) c.terms ++ scaled (lowest c.factor).den (cleared cs)

factor_cleared : (a : ℚ) → a *ℚ of_ℤ (lowest a).den ≡ of_ℤ (lowest a).num
factor_cleared a = ap (λ z. z *ℚ of_ℤ (lowest a).den) (sym (ratio-lowest a)) ∙ ratio-*ℚ-den (lowest a)

combination_cleared : (g : TermList → ℤ) → IsAdditive g → (cs : List Multiple) → of_ℤ (g (cleared cs)) ≡ combination g cs *ℚ of_ℤ (denominator cs)
combination_cleared g h [] = ap of_ℤ h.none ∙ ring [] (λ ρ. simp (read_nat ρ, reads) (same_form _ _ _ refl))
combination_cleared g h (c ∷ cs) =
    ap of_ℤ (h.joined (scaled (n *ℤ denominator cs) c.terms) (scaled d (cleared cs)) ∙ ap₂ ◌+ℤ◌ (h.multiplied (n *ℤ denominator cs) c.terms) (h.multiplied d (cleared cs)))
    ∙ whole_parts n (denominator cs) (g c.terms) d (g (cleared cs))
    ∙ shape c.factor (of_ℤ d) (of_ℤ n) (of_ℤ (denominator cs)) (of_ℤ (g c.terms)) (combination g cs) _ (factor_cleared c.factor) (combination_cleared g h cs)
    ∙ ap (λ z. combination g (c ∷ cs) *ℚ z) (sym (of_ℤ-*ℤ d (denominator cs)))
  where
    d : ℤ
    d = (lowest c.factor).den

    n : ℤ
    n = (lowest c.factor).num

    whole_parts : (n e v d w : ℤ) → of_ℤ ((n *ℤ e) *ℤ v +ℤ d *ℤ w) ≡ (of_ℤ n *ℚ of_ℤ e) *ℚ of_ℤ v +ℚ of_ℤ d *ℚ of_ℤ w
    whole_parts n e v d w = of_ℤ-+ℤ ((n *ℤ e) *ℤ v) (d *ℤ w) ∙ ap₂ ◌+ℚ◌ (of_ℤ-*ℤ (n *ℤ e) v ∙ ap (λ z. z *ℚ of_ℤ v) (of_ℤ-*ℤ n e)) (of_ℤ-*ℤ d w)

    shape : (a d n e v s w : ℚ) → a *ℚ d ≡ n → w ≡ s *ℚ e → (n *ℚ e) *ℚ v +ℚ d *ℚ w ≡ (a *ℚ v +ℚ s) *ℚ (d *ℚ e)
    shape a d n e v s w i j = rw (← i, j) (ring (a ∷ d ∷ e ∷ v ∷ s ∷ []) (λ ρ i j k l m. simp (i, j, k, l, m, reads) (same_form _ _ _ refl)))

denominator_positive : (cs : List Multiple) → Positive (of_ℤ (denominator cs))
denominator_positive [] = one_positive
denominator_positive (c ∷ cs) =
    subst Positive (sym (of_ℤ-*ℤ (lowest c.factor).den (denominator cs)))
    (Positive-*ℚ _ _ (of_ℤ-< (pos 0) (lowest c.factor).den (let h = (lowest c.factor).den_positive in omega (arith, ints))) (denominator_positive cs))

-- a number of the one is 0 where that of the other is
cleared_zero : (g : TermList → ℤ) → IsAdditive g → (cs : List Multiple) → combination g cs ≡ of_ℤ (pos 0) → g (cleared cs) ≡ pos 0
cleared_zero g h cs e = of_ℤ_injective (g (cleared cs)) (pos 0) (combination_cleared g h cs ∙ ap (λ z. z *ℚ of_ℤ (denominator cs)) e ∙ zero-*ℚ (of_ℤ (denominator cs)))

zero_cleared : (g : TermList → ℤ) → IsAdditive g → (cs : List Multiple) → g (cleared cs) ≡ pos 0 → combination g cs ≡ of_ℤ (pos 0)
zero_cleared g h cs e =
    *ℚ_zero (of_ℤ (denominator cs)) (combination g cs) (*ℚ_comm (of_ℤ (denominator cs)) (combination g cs) ∙ sym (combination_cleared g h cs) ∙ ap of_ℤ e) (Positive_nonzero _ (denominator_positive cs))

-- ---- whole polynomials
Places-scaled : (n : ℕ) (k : ℤ) (p : TermList) → Places n p → Places n (scaled k p)
Places-scaled n k [] h = tt
Places-scaled n k (t ∷ p) h = (h.0, Places-scaled n k p h.1)

Places-++ : (n : ℕ) (p q : TermList) → Places n p → Places n q → Places n (p ++ q)
Places-++ n [] q h k = k
Places-++ n (t ∷ p) q h k = (h.0, Places-++ n p q h.1 k)

Places-cleared : (n : ℕ) (cs : List Multiple) → HavePlaces n cs → Places n (cleared cs)
Places-cleared n [] h = tt
Places-cleared n (c ∷ cs) h = Places-++ n (scaled _ c.terms) _ (Places-scaled n _ c.terms h.0) (Places-scaled n _ (cleared cs) (Places-cleared n cs h.1))

-- where each coefficient is 0, so is each value
no_value : (p : TermList) (xs : List ℤ) → ((m : Exponents) → coef p m ≡ pos 0) → value p xs ≡ pos 0
no_value p xs h =
    let e : plus p [] ≡ [] = canonical_unique (plus p []) [] (Canonical-plus p [] tt) tt (λ m. coef-plus p [] m ∙ shape (coef p m) (h m)) in
    let v = value-plus p [] xs in
    let w = ap (λ q. value q xs) e in
    last (value p xs) _ v w
  where
    shape : (x : ℤ) → x ≡ pos 0 → x +ℤ pos 0 ≡ pos 0
    shape x e = omega (arith, ints)

    last : (x y : ℤ) → y ≡ x +ℤ pos 0 → y ≡ pos 0 → x ≡ pos 0
    last x y e f = omega (arith, ints)

-- ---- the law
pub vanishing : (n : ℕ) (cs : List Multiple) → HavePlaces n cs → ((xs : List ℤ) → length xs ≡ n → value_of cs xs ≡ of_ℤ (pos 0)) → (m : Exponents) → coef_of cs m ≡ of_ℤ (pos 0)
vanishing n cs h v m =
    zero_cleared (λ p. coef p m) (coef_additive m) cs
    (same_everywhere n (cleared cs) [] (Places-cleared n cs h) tt (λ xs l. cleared_zero (λ p. value p xs) (value_additive xs) cs (v xs l)) m)

pub value_by_coefficients : (cs : List Multiple) → ((m : Exponents) → coef_of cs m ≡ of_ℤ (pos 0)) → (xs : List ℤ) → value_of cs xs ≡ of_ℤ (pos 0)
value_by_coefficients cs h xs =
    zero_cleared (λ p. value p xs) (value_additive xs) cs (no_value (cleared cs) xs (λ m. cleared_zero (λ p. coef p m) (coef_additive m) cs (h m)))
