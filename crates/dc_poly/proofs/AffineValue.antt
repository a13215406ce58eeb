-- A polynomial of degree at most 1 is its constant and one coefficient for each place.
use Rattle.std.specs.Prelude.{◌≡◌, ℕ, zero, suc, ◌≤◌, true, cond, List, [], ◌∷◌, map, length, ℤ, pos, ◌+ℤ◌, ◌*ℤ◌, refl}
use Rattle.std.specs.List.{AllByRecursion}
use Rattle.std.proofs.Common.{sym, ◌∙◌, ap, ap₂, arith}
use Rattle.std.proofs.lemmas.Int.{ints}
use Rattle.dc_math.specs.WholeRing.{ring, reads, read_nat, same_form}
use Rattle.dc_poly.specs.Terms.{Exponents, TermList, front, others, mono_value, value, same_mono, coef, degree, Polynomial}
use Rattle.dc_poly.specs.Sums.{zeros, plus, values}
use Rattle.dc_poly.specs.Affine.{units, along, Affine, scaled_value, scaled_values}
use Rattle.dc_math.specs.WholeVectors.{scale_ℤ}
use Rattle.dc_math.specs.Integers.{*ℤ-one}
use Rattle.dc_poly.proofs.Values.{coef-plus}

along-map : (f : Exponents → ℤ) (us : List Exponents) (s : List ℤ) → along f (map (λ u. 0 ∷ u) us) s ≡ along (λ u. f (0 ∷ u)) us s
along-map f [] s = refl
along-map f (u ∷ us) s = ap (λ y. f (0 ∷ u) *ℤ front s +ℤ y) (along-map f us (others s))

along-add : (f g : Exponents → ℤ) (us : List Exponents) (s : List ℤ) → along (λ u. f u +ℤ g u) us s ≡ along f us s +ℤ along g us s
along-add f g [] s = refl
along-add f g (u ∷ us) s = shape (f u) (g u) (front s) _ _ _ (along-add f g us (others s))
  where
    shape : (a b x y z w : ℤ) → w ≡ y +ℤ z → (a +ℤ b) *ℤ x +ℤ w ≡ (a *ℤ x +ℤ y) +ℤ (b *ℤ x +ℤ z)
    shape a b x y z w e = rw e (ring (a ∷ b ∷ x ∷ y ∷ z ∷ []) (λ ρ i j k l m. simp (i, j, k, l, m, reads) (same_form _ _ _ refl)))

along-zero : (us : List Exponents) (s : List ℤ) → along (λ u. pos 0) us s ≡ pos 0
along-zero [] s = refl
along-zero (u ∷ us) s = shape (front s) _ (along-zero us (others s))
  where
    shape : (x y : ℤ) → y ≡ pos 0 → pos 0 *ℤ x +ℤ y ≡ pos 0
    shape x y e = rw e (ring (x ∷ []) (λ ρ i. simp (i, read_nat ρ, reads) (same_form _ _ _ refl)))

-- one term
flat : (n : ℕ) (m : Exponents) → length m ≡ n → degree m ≡ 0 → (same_mono m (zeros n) ≡ true) × ((s : List ℤ) → mono_value m s ≡ pos 1)
flat zero [] l d = (refl, λ s. refl)
flat zero (e ∷ m) l d = absurd (omega arith)
flat (suc n) [] l d = absurd (omega arith)
flat (suc n) (zero ∷ m) l d = let r = flat n m (omega arith) (omega arith) in (r.0, λ s. rw (r.1 (others s)) refl)
flat (suc n) (suc e ∷ m) l d = absurd (omega arith)

one_term : (n : ℕ) (m : Exponents) (c : ℤ) (s : List ℤ) → length m ≡ n → degree m ≤ 1 → c *ℤ mono_value m s ≡ cond (same_mono m (zeros n)) c (pos 0) +ℤ along (λ u. cond (same_mono m u) c (pos 0)) (units n) s
one_term zero [] c s l d = ring (c ∷ []) (λ ρ i. simp (i, read_nat ρ, reads) (same_form _ _ _ refl))
one_term zero (e ∷ m) c s l d = absurd (omega arith)
one_term (suc n) [] c s l d = absurd (omega arith)
one_term (suc n) (zero ∷ m) c s l d =
    shape c (front s) (mono_value m (others s)) _ _ (one_term n m c (others s) (omega arith) (omega arith))
    ∙ ap (λ y. cond (same_mono m (zeros n)) c (pos 0) +ℤ (pos 0 *ℤ front s +ℤ y)) (sym (along-map (λ u. cond (same_mono (0 ∷ m) u) c (pos 0)) (units n) (others s)))
  where
    shape : (c x v y z : ℤ) → c *ℤ v ≡ y +ℤ z → c *ℤ (pos 1 *ℤ v) ≡ y +ℤ (pos 0 *ℤ x +ℤ z)
    shape c x v y z e = ring (c ∷ v ∷ []) (λ ρ i j. simp (i, j, read_nat ρ, reads) (same_form _ _ _ refl)) ∙ e ∙ ring (x ∷ y ∷ z ∷ []) (λ ρ i j k. simp (i, j, k, read_nat ρ, reads) (same_form _ _ _ refl))
one_term (suc n) (suc zero ∷ m) c s l d =
    let r = flat n m (omega arith) (omega arith) in
    shape c (front s) _ _ (r.1 (others s)) (along-zero (units n) (others s))
    ∙ ap₂ (λ b y. pos 0 +ℤ (cond b c (pos 0) *ℤ front s +ℤ y)) (sym r.0) (sym (along-map (λ u. cond (same_mono (1 ∷ m) u) c (pos 0)) (units n) (others s)))
  where
    shape : (c x v z : ℤ) → v ≡ pos 1 → z ≡ pos 0 → c *ℤ ((x *ℤ pos 1) *ℤ v) ≡ pos 0 +ℤ (c *ℤ x +ℤ z)
    shape c x v z e f = rw (e, f) (ring (c ∷ x ∷ []) (λ ρ i j. simp (i, j, read_nat ρ, reads) (same_form _ _ _ refl)))
one_term (suc n) (suc (suc e) ∷ m) c s l d = absurd (omega arith)

-- the value by constant and coefficients, which an atom has
pub affine_value : (n : ℕ) (p : TermList) (s : List ℤ) → Affine n p → value p s ≡ coef p (zeros n) +ℤ along (coef p) (units n) s
affine_value n [] s h = sym (along-zero (units n) s) ∙ zero-add _
  where
    zero-add : (x : ℤ) → x ≡ pos 0 +ℤ x
    zero-add x = omega (arith, ints)
affine_value n (t ∷ p) s h =
    let a = one_term n t.mono t.coef s h.0 h.1 in
    let b = affine_value n p s h.2 in
    let d = along-add (λ u. cond (same_mono t.mono u) t.coef (pos 0)) (coef p) (units n) s in
    sums _ _ (cond (same_mono t.mono (zeros n)) t.coef (pos 0)) (coef p (zeros n)) _ (along (λ u. cond (same_mono t.mono u) t.coef (pos 0)) (units n) s) (along (coef p) (units n) s) a b d
  where
    sums : (v w x y z k l : ℤ) → v ≡ x +ℤ k → w ≡ y +ℤ l → z ≡ k +ℤ l → v +ℤ w ≡ (x +ℤ y) +ℤ z
    sums v w x y z k l e f g = omega (arith, ints)

-- ---- at rational points
pub scaled_one : (n : ℕ) (p : TermList) (xs : List ℤ) → Affine n p → scaled_value n p (pos 1) xs ≡ value p xs
scaled_one n p xs h = ap (λ y. y +ℤ along (coef p) (units n) xs) (*ℤ-one (coef p (zeros n))) ∙ sym (affine_value n p xs h)

front-scaled : (k : ℤ) (xs : List ℤ) → front (scale_ℤ k xs) ≡ k *ℤ front xs
front-scaled k [] = sym (ring (k ∷ []) (λ ρ i. simp (i, read_nat ρ, reads) (same_form _ _ _ refl)))
front-scaled k (x ∷ xs) = refl

others-scaled : (k : ℤ) (xs : List ℤ) → others (scale_ℤ k xs) ≡ scale_ℤ k (others xs)
others-scaled k [] = refl
others-scaled k (x ∷ xs) = refl

along-scaled : (f : Exponents → ℤ) (us : List Exponents) (k : ℤ) (xs : List ℤ) → along f us (scale_ℤ k xs) ≡ k *ℤ along f us xs
along-scaled f [] k xs = sym (ring (k ∷ []) (λ ρ i. simp (i, read_nat ρ, reads) (same_form _ _ _ refl)))
along-scaled f (u ∷ us) k xs =
    ap₂ (λ x y. f u *ℤ x +ℤ along f us y) (front-scaled k xs) (others-scaled k xs)
    ∙ shape (f u) (front xs) k (along f us (others xs)) _ (along-scaled f us k (others xs))
  where
    shape : (a x k y z : ℤ) → z ≡ k *ℤ y → a *ℤ (k *ℤ x) +ℤ z ≡ k *ℤ (a *ℤ x +ℤ y)
    shape a x k y z e = rw e (ring (a ∷ x ∷ k ∷ y ∷ []) (λ ρ h i j l. simp (h, i, j, l, reads) (same_form _ _ _ refl)))

pub scaled_multiple : (n : ℕ) (p : TermList) (k q : ℤ) (xs : List ℤ) → scaled_value n p (k *ℤ q) (scale_ℤ k xs) ≡ k *ℤ scaled_value n p q xs
scaled_multiple n p k q xs = shape (coef p (zeros n)) k q (along (coef p) (units n) xs) _ (along-scaled (coef p) (units n) k xs)
  where
    shape : (c k q y z : ℤ) → z ≡ k *ℤ y → c *ℤ (k *ℤ q) +ℤ z ≡ k *ℤ (c *ℤ q +ℤ y)
    shape c k q y z e = rw e (ring (c ∷ k ∷ q ∷ y ∷ []) (λ ρ h i j l. simp (h, i, j, l, reads) (same_form _ _ _ refl)))

along-same : (f g : Exponents → ℤ) → ((u : Exponents) → f u ≡ g u) → (us : List Exponents) (xs : List ℤ) → along f us xs ≡ along g us xs
along-same f g e [] xs = refl
along-same f g e (u ∷ us) xs = ap₂ (λ a b. a *ℤ front xs +ℤ b) (e u) (along-same f g e us (others xs))

pub scaled_sum : (n : ℕ) (p r : TermList) (q : ℤ) (xs : List ℤ) → scaled_value n (plus p r) q xs ≡ scaled_value n p q xs +ℤ scaled_value n r q xs
scaled_sum n p r q xs =
    ap₂ (λ a b. a *ℤ q +ℤ b) (coef-plus p r (zeros n))
    (along-same (coef (plus p r)) (λ u. coef p u +ℤ coef r u) (coef-plus p r) (units n) xs ∙ along-add (coef p) (coef r) (units n) xs)
    ∙ shape (coef p (zeros n)) (coef r (zeros n)) q (along (coef p) (units n) xs) (along (coef r) (units n) xs)
  where
    shape : (a b q x y : ℤ) → (a +ℤ b) *ℤ q +ℤ (x +ℤ y) ≡ (a *ℤ q +ℤ x) +ℤ (b *ℤ q +ℤ y)
    shape a b q x y = ring (a ∷ b ∷ q ∷ x ∷ y ∷ []) (λ ρ h i j l m. simp (h, i, j, l, m, reads) (same_form _ _ _ refl))

-- ---- lists of forms
pub list_one : (n : ℕ) (vs : List Polynomial) (xs : List ℤ) → AllByRecursion (λ (v : Polynomial). Affine n v.terms) vs → scaled_values n vs (pos 1) xs ≡ values vs xs
list_one n [] xs h = refl
list_one n (v ∷ vs) xs h = ap₂ ◌∷◌ (scaled_one n v.terms xs h.0) (list_one n vs xs h.1)

pub list_multiple : (n : ℕ) (vs : List Polynomial) (k q : ℤ) (xs : List ℤ) → scaled_values n vs (k *ℤ q) (scale_ℤ k xs) ≡ scale_ℤ k (scaled_values n vs q xs)
list_multiple n [] k q xs = refl
list_multiple n (v ∷ vs) k q xs = ap₂ ◌∷◌ (scaled_multiple n v.terms k q xs) (list_multiple n vs k q xs)
