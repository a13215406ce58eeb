-- The values and the coefficients of sums and products, and that they are canonical.
use Rattle.std.specs.Prelude.{◌≡◌, ℕ, zero, suc, ◌+◌, ◌<◌, ◌≤◌, Bool, true, false, cond, List, [], ◌∷◌, ◌++◌, length, slice_index_or, ℤ, pos, negsuc, ◌+ℤ◌, ◌*ℤ◌, refl}
use Rattle.std.proofs.Common.{sym, ◌∙◌, ap, ap₂, subst, arith}
use Rattle.std.specs.declared.cmp.Ordering.{Ordering}
use Rattle.std.specs.declared.cmp.Ordering.TheVariants.{Less, Equal, Greater}
use Rattle.std.proofs.lemmas.Int.{ints}
use Rattle.std.proofs.Math.IntN.{*ℤ-zero}
use Rattle.dc_math.specs.WholeRing.{ring, reads, read_nat, same_form, linear₁}
use Rattle.dc_math.specs.Integers.{one-*ℤ, *ℤ-one}
use Rattle.dc_poly.specs.Terms.{Exponents, TermList, power, front, others, mono_value, value, same_mono, coef, Before, Ahead, Canonical, Polynomial}
use Rattle.dc_poly.specs.Order.{graded, Told}
use Rattle.dc_poly.proofs.Graded.{graded_told, Ahead-more}
use Rattle.dc_poly.proofs.Canon.{canonical_unique}
use Rattle.dc_poly.specs.Sums.{with_term, insert, plus, times_mono, shifted, times, zeros, unit_at, constant_of, times_power, first_of, rest_of, term_at, composed, values, variable_of}

-- ---- values
value-with_term : (m : Exponents) (c : ℤ) (p : TermList) (xs : List ℤ) → value (with_term m c p) xs ≡ c *ℤ mono_value m xs +ℤ value p xs
value-with_term m (pos zero) p xs = omega (arith, ints)
value-with_term m (pos (suc n)) p xs = refl
value-with_term m (negsuc n) p xs = refl

pub value-insert : (m : Exponents) (c : ℤ) (p : TermList) (xs : List ℤ) → value (insert m c p) xs ≡ c *ℤ mono_value m xs +ℤ value p xs
value-insert m c [] xs = value-with_term m c [] xs
value-insert m c (t ∷ p) xs = by (value-insert m c p xs) (graded m t.mono) (graded_told m t.mono)
  where
    gather : (c d v w : ℤ) → (c +ℤ d) *ℤ v +ℤ w ≡ c *ℤ v +ℤ (d *ℤ v +ℤ w)
    gather c d v w = ring (c ∷ d ∷ v ∷ w ∷ []) (λ ρ i j k l. simp (i, j, k, l, reads) (same_form _ _ _ refl))

    by : value (insert m c p) xs ≡ c *ℤ mono_value m xs +ℤ value p xs → (o : Ordering) → Told m t.mono o
        → value (elim o [ Less ↦ with_term m c (t ∷ p) | Equal ↦ with_term m (c +ℤ t.coef) p | Greater ↦ t ∷ insert m c p ]) xs ≡ c *ℤ mono_value m xs +ℤ (t.coef *ℤ mono_value t.mono xs +ℤ value p xs)
    by r Less h = value-with_term m c (t ∷ p) xs
    by r Equal h = value-with_term m (c +ℤ t.coef) p xs ∙ subst (λ k. (c +ℤ t.coef) *ℤ mono_value m xs +ℤ value p xs ≡ c *ℤ mono_value m xs +ℤ (t.coef *ℤ mono_value k xs +ℤ value p xs)) h (gather c t.coef (mono_value m xs) (value p xs))
    by r Greater h = omega (arith, ints)

pub value-plus : (p q : TermList) (xs : List ℤ) → value (plus p q) xs ≡ value p xs +ℤ value q xs
value-plus [] q xs = omega (arith, ints)
value-plus (t ∷ p) q xs = let a = value-insert t.mono t.coef (plus p q) xs in let b = value-plus p q xs in omega (arith, ints)

power-+ : (x : ℤ) (a b : ℕ) → power x (a + b) ≡ power x a *ℤ power x b
power-+ x a zero = ap (power x) (plus-zero a) ∙ sym (*ℤ-one (power x a))
  where
    plus-zero : (a : ℕ) → a + 0 ≡ a
    plus-zero a = omega arith
power-+ x a (suc b) = ap (power x) (plus-suc a b) ∙ turn x _ _ _ (power-+ x a b)
  where
    plus-suc : (a b : ℕ) → a + suc b ≡ suc (a + b)
    plus-suc a b = omega arith

    turn : (x y z w : ℤ) → y ≡ z *ℤ w → x *ℤ y ≡ z *ℤ (x *ℤ w)
    turn x y z w h = linear₁ x _ _ _ _ h (ring (x ∷ y ∷ z ∷ w ∷ []) (λ ρ i j k l. simp (i, j, k, l, reads) (same_form _ _ _ refl)))

pub mono_value-times : (m k : Exponents) (xs : List ℤ) → mono_value (times_mono m k) xs ≡ mono_value m xs *ℤ mono_value k xs
mono_value-times [] k xs = omega (arith, ints)
mono_value-times (e ∷ m) [] xs = sym (*ℤ-one (mono_value (e ∷ m) xs))
mono_value-times (e ∷ m) (f ∷ k) xs = ap₂ ◌*ℤ◌ (power-+ (front xs) e f) (mono_value-times m k (others xs)) ∙ four (power (front xs) e) (power (front xs) f) (mono_value m (others xs)) (mono_value k (others xs))
  where
    four : (a b c d : ℤ) → (a *ℤ b) *ℤ (c *ℤ d) ≡ (a *ℤ c) *ℤ (b *ℤ d)
    four a b c d = ring (a ∷ b ∷ c ∷ d ∷ []) (λ ρ i j k l. simp (i, j, k, l, reads) (same_form _ _ _ refl))

-- numbers behind the last exponent are not seen
pub mono_value-longer : (m : Exponents) (x y : List ℤ) → length m ≤ length x → mono_value m (x ++ y) ≡ mono_value m x
mono_value-longer [] x y l = refl
mono_value-longer (e ∷ m) [] y l = absurd (omega arith)
mono_value-longer (e ∷ m) (a ∷ x) y l = ap (λ v. power a e *ℤ v) (mono_value-longer m x y (omega arith))

pub value-shifted : (m : Exponents) (c : ℤ) (p : TermList) (xs : List ℤ) → value (shifted m c p) xs ≡ (c *ℤ mono_value m xs) *ℤ value p xs
value-shifted m c [] xs = sym (*ℤ-zero (c *ℤ mono_value m xs))
value-shifted m c (t ∷ p) xs =
    shape c t.coef (mono_value m xs) (mono_value t.mono xs) (value p xs) _ _ (mono_value-times m t.mono xs) (value-shifted m c p xs)
  where
    shape : (c d v w z y u : ℤ) → y ≡ v *ℤ w → u ≡ (c *ℤ v) *ℤ z → (c *ℤ d) *ℤ y +ℤ u ≡ (c *ℤ v) *ℤ (d *ℤ w +ℤ z)
    shape c d v w z y u h k = rw (h, k) (ring (c ∷ d ∷ v ∷ w ∷ z ∷ []) (λ ρ i j k l m. simp (i, j, k, l, m, reads) (same_form _ _ _ refl)))

pub value-times : (p q : TermList) (xs : List ℤ) → value (times p q) xs ≡ value p xs *ℤ value q xs
value-times [] q xs = omega (arith, ints)
value-times (t ∷ p) q xs =
    value-plus (shifted t.mono t.coef q) (times p q) xs ∙ shape (t.coef *ℤ mono_value t.mono xs) (value p xs) (value q xs) _ _ (value-shifted t.mono t.coef q xs) (value-times p q xs)
  where
    shape : (a b z y u : ℤ) → y ≡ a *ℤ z → u ≡ b *ℤ z → y +ℤ u ≡ (a +ℤ b) *ℤ z
    shape a b z y u h k = rw (h, k) (ring (a ∷ b ∷ z ∷ []) (λ ρ i j k. simp (i, j, k, reads) (same_form _ _ _ refl)))

-- ---- canonical
Canonical-with_term : (m : Exponents) (c : ℤ) (p : TermList) → Ahead m p → Canonical p → Canonical (with_term m c p)
Canonical-with_term m (pos zero) p h k = k
Canonical-with_term m (pos (suc n)) p h k = ((λ e. omega (arith, ints)), h, k)
Canonical-with_term m (negsuc n) p h k = ((λ e. omega (arith, ints)), h, k)

Ahead-with_term : (k m : Exponents) (c : ℤ) (p : TermList) → Before k m → Ahead k p → Ahead k (with_term m c p)
Ahead-with_term k m (pos zero) p b h = h
Ahead-with_term k m (pos (suc n)) p b h = (b, h)
Ahead-with_term k m (negsuc n) p b h = (b, h)

Ahead-insert : (k m : Exponents) (c : ℤ) (p : TermList) → Before k m → Ahead k p → Ahead k (insert m c p)
Ahead-insert k m c [] b h = Ahead-with_term k m c [] b h
Ahead-insert k m c (t ∷ p) b h = by (Ahead-insert k m c p b h.1) (graded m t.mono)
  where
    by : Ahead k (insert m c p) → (o : Ordering) → Ahead k (elim o [ Less ↦ with_term m c (t ∷ p) | Equal ↦ with_term m (c +ℤ t.coef) p | Greater ↦ t ∷ insert m c p ])
    by r Less = Ahead-with_term k m c (t ∷ p) b h
    by r Equal = Ahead-with_term k m (c +ℤ t.coef) p b h.1
    by r Greater = (h.0, r)

pub Canonical-insert : (m : Exponents) (c : ℤ) (p : TermList) → Canonical p → Canonical (insert m c p)
Canonical-insert m c [] h = Canonical-with_term m c [] tt tt
Canonical-insert m c (t ∷ p) h = by (Canonical-insert m c p h.2) (graded m t.mono) (graded_told m t.mono)
  where
    by : Canonical (insert m c p) → (o : Ordering) → Told m t.mono o → Canonical (elim o [ Less ↦ with_term m c (t ∷ p) | Equal ↦ with_term m (c +ℤ t.coef) p | Greater ↦ t ∷ insert m c p ])
    by r Less b = Canonical-with_term m c (t ∷ p) (b, Ahead-more m t.mono p b h.1) h
    by r Equal e = Canonical-with_term m (c +ℤ t.coef) p (subst (λ k. Ahead k p) (sym e) h.1) h.2
    by r Greater b = (h.0, Ahead-insert t.mono m c p b h.1, r)

pub Canonical-plus : (p q : TermList) → Canonical q → Canonical (plus p q)
Canonical-plus [] q h = h
Canonical-plus (t ∷ p) q h = Canonical-insert t.mono t.coef (plus p q) (Canonical-plus p q h)

pub Canonical-times : (p q : TermList) → Canonical (times p q)
Canonical-times [] q = tt
Canonical-times (t ∷ p) q = Canonical-plus (shifted t.mono t.coef q) (times p q) (Canonical-times p q)

-- ---- coefficients: what a merge is compared with
coef-with_term : (m k : Exponents) (c : ℤ) (p : TermList) → coef (with_term m c p) k ≡ cond (same_mono m k) c (pos 0) +ℤ coef p k
coef-with_term m k (pos zero) p = by (same_mono m k)
  where
    by : (b : Bool) → coef p k ≡ cond b (pos 0) (pos 0) +ℤ coef p k
    by true = omega (arith, ints)
    by false = omega (arith, ints)
coef-with_term m k (pos (suc n)) p = refl
coef-with_term m k (negsuc n) p = refl

pub coef-insert : (m k : Exponents) (c : ℤ) (p : TermList) → coef (insert m c p) k ≡ cond (same_mono m k) c (pos 0) +ℤ coef p k
coef-insert m k c [] = coef-with_term m k c []
coef-insert m k c (t ∷ p) = by (coef-insert m k c p) (graded m t.mono) (graded_told m t.mono)
  where
    gather : (b : Bool) (c d w : ℤ) → cond b (c +ℤ d) (pos 0) +ℤ w ≡ cond b c (pos 0) +ℤ (cond b d (pos 0) +ℤ w)
    gather true c d w = omega (arith, ints)
    gather false c d w = omega (arith, ints)

    by : coef (insert m c p) k ≡ cond (same_mono m k) c (pos 0) +ℤ coef p k → (o : Ordering) → Told m t.mono o
        → coef (elim o [ Less ↦ with_term m c (t ∷ p) | Equal ↦ with_term m (c +ℤ t.coef) p | Greater ↦ t ∷ insert m c p ]) k ≡ cond (same_mono m k) c (pos 0) +ℤ (cond (same_mono t.mono k) t.coef (pos 0) +ℤ coef p k)
    by r Less h = coef-with_term m k c (t ∷ p)
    by r Equal h = coef-with_term m k (c +ℤ t.coef) p ∙ subst (λ y. cond (same_mono m k) (c +ℤ t.coef) (pos 0) +ℤ coef p k ≡ cond (same_mono m k) c (pos 0) +ℤ (cond (same_mono y k) t.coef (pos 0) +ℤ coef p k)) h (gather (same_mono m k) c t.coef (coef p k))
    by r Greater h = turn _ _ _ _ r
      where
        turn : (x y z w : ℤ) → w ≡ y +ℤ z → x +ℤ w ≡ y +ℤ (x +ℤ z)
        turn x y z w e = omega (arith, ints)

pub coef-plus : (p q : TermList) (k : Exponents) → coef (plus p q) k ≡ coef p k +ℤ coef q k
coef-plus [] q k = omega (arith, ints)
coef-plus (t ∷ p) q k = let a = coef-insert t.mono k t.coef (plus p q) in let b = coef-plus p q k in omega (arith, ints)

-- whatever is canonical and has the coefficients of the sum is the sum
pub plus_is : (p q r : TermList) → Canonical q → Canonical r → ((k : Exponents) → coef r k ≡ coef p k +ℤ coef q k) → r ≡ plus p q
plus_is p q r h g e = canonical_unique r (plus p q) g (Canonical-plus p q h) (λ k. e k ∙ sym (coef-plus p q k))

-- ---- constants and variables

only_one : (x y : ℤ) → y ≡ pos 1 → (x *ℤ pos 1) *ℤ y ≡ x
only_one x y e = rw e (ring (x ∷ []) (λ ρ i. simp (i, read_nat ρ, reads) (same_form _ _ _ refl)))

pub zeros_value : (n : ℕ) (s : List ℤ) → mono_value (zeros n) s ≡ pos 1
zeros_value zero s = refl
zeros_value (suc n) s = one-*ℤ _ ∙ zeros_value n (others s)

pub unit_at_value : (n k : ℕ) (s : List ℤ) → k < n → mono_value (unit_at n k) s ≡ slice_index_or s k (pos 0)
unit_at_value zero k s h = absurd (omega arith)
unit_at_value (suc n) zero [] h = only_one _ _ (zeros_value n [])
unit_at_value (suc n) zero (x ∷ s) h = only_one _ _ (zeros_value n s)
unit_at_value (suc n) (suc k) [] h = one-*ℤ _ ∙ unit_at_value n k [] (omega arith)
unit_at_value (suc n) (suc k) (x ∷ s) h = one-*ℤ _ ∙ unit_at_value n k s (omega arith)

pub value-constant : (c : ℤ) (n : ℕ) (xs : List ℤ) → value (constant_of c n) xs ≡ c
value-constant c n xs = value-with_term (zeros n) c [] xs ∙ shape c _ (zeros_value n xs)
  where
    shape : (c y : ℤ) → y ≡ pos 1 → c *ℤ y +ℤ pos 0 ≡ c
    shape c y e = rw e (ring (c ∷ []) (λ ρ i. simp (i, read_nat ρ, reads) (same_form _ _ _ refl)))

pub value-variable : (k n : ℕ) (xs : List ℤ) → k < n → value (variable_of k n) xs ≡ slice_index_or xs k (pos 0)
value-variable k n xs h = shape _ _ (unit_at_value n k xs h)
  where
    shape : (x y : ℤ) → y ≡ x → pos 1 *ℤ y +ℤ pos 0 ≡ x
    shape x y e = rw e (ring (x ∷ []) (λ ρ i. simp (i, read_nat ρ, reads) (same_form _ _ _ refl)))

-- ---- composition
pub value-times_power : (v : TermList) (e : ℕ) (p : TermList) (xs : List ℤ) → value (times_power v e p) xs ≡ power (value v xs) e *ℤ value p xs
value-times_power v zero p xs = sym (one-*ℤ (value p xs))
value-times_power v (suc e) p xs =
    value-times v (times_power v e p) xs ∙ shape (value v xs) (power (value v xs) e) (value p xs) _ (value-times_power v e p xs)
  where
    shape : (x y z w : ℤ) → w ≡ y *ℤ z → x *ℤ w ≡ (x *ℤ y) *ℤ z
    shape x y z w h = rw h (ring (x ∷ y ∷ z ∷ []) (λ ρ i j k. simp (i, j, k, reads) (same_form _ _ _ refl)))

pub value-term_at : (n : ℕ) (c : ℤ) (m : Exponents) (vs : List Polynomial) (xs : List ℤ) → value (term_at n c m vs) xs ≡ c *ℤ mono_value m (values vs xs)
value-term_at n c [] vs xs = value-constant c n xs ∙ sym (*ℤ-one c)
value-term_at n c (e ∷ m) vs xs = by vs (value-term_at n c m (rest_of vs) xs)
  where
    turn : (c y z w : ℤ) → w ≡ c *ℤ z → y *ℤ w ≡ c *ℤ (y *ℤ z)
    turn c y z w h = rw h (ring (c ∷ y ∷ z ∷ []) (λ ρ i j k. simp (i, j, k, reads) (same_form _ _ _ refl)))

    by : (vs : List Polynomial) → value (term_at n c m (rest_of vs)) xs ≡ c *ℤ mono_value m (values (rest_of vs) xs)
        → value (times_power (first_of vs) e (term_at n c m (rest_of vs))) xs ≡ c *ℤ (power (front (values vs xs)) e *ℤ mono_value m (others (values vs xs)))
    by [] h = value-times_power [] e (term_at n c m []) xs ∙ turn c _ _ _ h
    by (v ∷ vs) h = value-times_power v.terms e (term_at n c m vs) xs ∙ turn c _ _ _ h

pub value-composed : (n : ℕ) (p : TermList) (vs : List Polynomial) (xs : List ℤ) → value (composed n p vs) xs ≡ value p (values vs xs)
value-composed n [] vs xs = refl
value-composed n (t ∷ p) vs xs =
    value-plus (term_at n t.coef t.mono vs) (composed n p vs) xs ∙ ap₂ ◌+ℤ◌ (value-term_at n t.coef t.mono vs xs) (value-composed n p vs xs)

pub Canonical-constant : (c : ℤ) (n : ℕ) → Canonical (constant_of c n)
Canonical-constant c n = Canonical-with_term (zeros n) c [] tt tt

pub Canonical-composed : (n : ℕ) (p : TermList) (vs : List Polynomial) → Canonical (composed n p vs)
Canonical-composed n [] vs = tt
Canonical-composed n (t ∷ p) vs = Canonical-plus (term_at n t.coef t.mono vs) (composed n p vs) (Canonical-composed n p vs)
