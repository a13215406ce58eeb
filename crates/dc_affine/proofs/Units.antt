-- The variables in order, and an affine form's value by its constant and coefficients.
use Rattle.std.specs.Prelude.{◌≡◌, ℕ, zero, suc, ◌+◌, ◌≤◌, ◌<◌, List, [], ◌∷◌, ◌++◌, map, take, length, ℤ, pos, ◌+ℤ◌, ◌*ℤ◌, refl}
use Rattle.std.proofs.Common.{sym, ◌∙◌, ap, ap₂, subst, arith, add-one}
use Rattle.std.proofs.lemmas.List.{length-map, map_push, take-map}
use Rattle.dc_math.specs.WholeRing.{ring, reads, read_nat, same_form}
use Rattle.dc_math.specs.WholeVectors.{dot_ℤ}
use Rattle.dc_poly.specs.Terms.{Exponents, TermList, coef, value, degree_of, Places}
use Rattle.dc_poly.specs.Sums.{zeros, unit_at}
use Rattle.dc_poly.specs.Affine.{units, along, Affine}
use Rattle.dc_poly.proofs.AffineValue.{affine_value}

abbrev after_zero : Exponents → Exponents
after_zero u = 0 ∷ u

units_next : (n k : ℕ) → k < n → take (suc k) (units n) ≡ take k (units n) ++ unit_at n k ∷ []
units_next zero k h = absurd (omega arith)
units_next (suc n) zero h = refl
units_next (suc n) (suc k) h =
    ap (λ y. (1 ∷ zeros n) ∷ y) (take-map after_zero (suc k) (units n) ∙ ap (map after_zero) (units_next n k (omega arith)) ∙ map_push after_zero (take k (units n)) (unit_at n k) ∙ ap (λ y. y ++ (0 ∷ unit_at n k) ∷ []) (sym (take-map after_zero k (units n))))

pub length-units : (n : ℕ) → length (units n) ≡ n
length-units zero = refl
length-units (suc n) = ap suc (length-map (units n) after_zero ∙ length-units n)

pub units_push : (f : Exponents → ℤ) (n k : ℕ) (o p : List ℤ) (x : ℤ) → k < n → x ≡ f (unit_at n k) → p ≡ o ++ x ∷ [] → o ≡ map f (take k (units n)) → p ≡ map f (take (k + 1) (units n))
units_push f n k o p x h e g i =
    g ∙ ap₂ (λ y z. y ++ z ∷ []) i e ∙ sym (map_push f (take k (units n)) (unit_at n k)) ∙ ap (map f) (sym (units_next n k h) ∙ ap (λ y. take y (units n)) (sym (add-one k)))

take_whole : {A : Type 0} (n : ℕ) (xs : List A) → length xs ≤ n → take n xs ≡ xs
take_whole zero [] h = refl
take_whole zero (x ∷ xs) h = absurd (omega arith)
take_whole (suc n) [] h = refl
take_whole (suc n) (x ∷ xs) h = ap (λ y. x ∷ y) (take_whole n xs (omega arith))

pub units_done : (f : Exponents → ℤ) (n k : ℕ) (o : List ℤ) → n ≤ k → o ≡ map f (take k (units n)) → o ≡ map f (units n)
units_done f n k o h e = e ∙ ap (map f) (take_whole k (units n) (let l = length-units n in omega arith))

-- ---- the value of an affine form
pub is_affine : (n : ℕ) (p : TermList) → Places n p → degree_of p ≤ 1 → Affine n p
is_affine n [] h d = tt
is_affine n (t ∷ p) h d = (h.0, omega arith, is_affine n p h.1 (omega arith))

dot_along : (f : Exponents → ℤ) (us : List Exponents) (s : List ℤ) → dot_ℤ (map f us) s ≡ along f us s
dot_along f [] s = refl
dot_along f (u ∷ us) [] = none (f u) (along f us []) (sym (dot_nil f us) ∙ dot_along f us [])
  where
    none : (x y : ℤ) → pos 0 ≡ y → pos 0 ≡ x *ℤ pos 0 +ℤ y
    none x y e = subst (λ z. pos 0 ≡ x *ℤ pos 0 +ℤ z) e (ring (x ∷ []) (λ ρ i. simp (i, read_nat ρ, reads) (same_form _ _ _ refl)))

    dot_nil : (f : Exponents → ℤ) (us : List Exponents) → dot_ℤ (map f us) [] ≡ pos 0
    dot_nil f [] = refl
    dot_nil f (u ∷ us) = refl
dot_along f (u ∷ us) (x ∷ s) = ap (λ y. f u *ℤ x +ℤ y) (dot_along f us s)

pub read_value : (n : ℕ) (p : TermList) (s : List ℤ) → Places n p → degree_of p ≤ 1 → coef p (zeros n) +ℤ dot_ℤ (map (coef p) (units n)) s ≡ value p s
read_value n p s h d = ap (λ y. coef p (zeros n) +ℤ y) (dot_along (coef p) (units n) s) ∙ sym (affine_value n p s (is_affine n p h d))

pub ruleset reading_units = (units_push, units_done)
