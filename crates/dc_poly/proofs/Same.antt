-- Two polynomials with equal values at all points have equal coefficients.
use Rattle.std.specs.Prelude.{◌≡◌, ℕ, suc, ◌+◌, ◌≤◌, max, Bool, true, false, cond, List, [], ◌∷◌, ◌++◌, length, ℤ, pos, neg_ℤ, ◌+ℤ◌, ◌*ℤ◌, refl}
use Rattle.std.proofs.Common.{◌∙◌, ap, arith}
use Rattle.std.proofs.lemmas.Int.{ints}
use Rattle.dc_math.specs.Integers.{neg_ℤ-*ℤ}
use Rattle.dc_poly.specs.Terms.{Exponents, TermList, mono_value, value, same_mono, coef, Places}
use Rattle.dc_poly.specs.Grid.{Bounded, Over, Grid, whole}
use Rattle.dc_poly.proofs.Vanish.{vanishing}
use Rattle.dc_poly.specs.Sums.{negated}

pub value-++ : (p q : TermList) (xs : List ℤ) → value (p ++ q) xs ≡ value p xs +ℤ value q xs
value-++ [] q xs = omega (arith, ints)
value-++ (t ∷ p) q xs = let h = value-++ p q xs in omega (arith, ints)

pub coef-++ : (p q : TermList) (m : Exponents) → coef (p ++ q) m ≡ coef p m +ℤ coef q m
coef-++ [] q m = omega (arith, ints)
coef-++ (t ∷ p) q m = let h = coef-++ p q m in omega (arith, ints)

pub value-negated : (p : TermList) (xs : List ℤ) → value (negated p) xs ≡ neg_ℤ (value p xs)
value-negated [] xs = refl
value-negated (t ∷ p) xs = let h = value-negated p xs in let k = neg_ℤ-*ℤ t.coef (mono_value t.mono xs) in omega (arith, ints)

pub coef-negated : (p : TermList) (m : Exponents) → coef (negated p) m ≡ neg_ℤ (coef p m)
coef-negated [] m = refl
coef-negated (t ∷ p) m = by (coef-negated p m) (same_mono t.mono m)
  where
    by : coef (negated p) m ≡ neg_ℤ (coef p m) → (b : Bool) → cond b (neg_ℤ t.coef) (pos 0) +ℤ coef (negated p) m ≡ neg_ℤ (cond b t.coef (pos 0) +ℤ coef p m)
    by h true = omega (arith, ints)
    by h false = omega (arith, ints)

Over-++ : (n d : ℕ) (p q : TermList) → Over n d p → Over n d q → Over n d (p ++ q)
Over-++ n d [] q h k = k
Over-++ n d (t ∷ p) q h k = (h.0, Over-++ n d p q h.1 k)

Over-negated : (n d : ℕ) (p : TermList) → Over n d p → Over n d (negated p)
Over-negated n d [] h = tt
Over-negated n d (t ∷ p) h = (h.0, Over-negated n d p h.1)

pub same_on_grid : (n d : ℕ) (p q : TermList) → Over n d p → Over n d q → ((xs : List ℕ) → Grid n d xs → value p (whole xs) ≡ value q (whole xs)) → (m : Exponents) → coef p m ≡ coef q m
same_on_grid n d p q o r h m =
    let z : coef (p ++ negated q) m ≡ pos 0 =
    vanishing n d (p ++ negated q) (Over-++ n d p (negated q) o (Over-negated n d q r))
    (λ xs g. value-++ p (negated q) (whole xs) ∙ zero_of _ _ _ (value-negated q (whole xs)) (h xs g)) m in
    let a = coef-++ p (negated q) m in
    let b = coef-negated q m in
    omega (arith, ints)
  where
    zero_of : (x y z : ℤ) → z ≡ neg_ℤ y → x ≡ y → x +ℤ z ≡ pos 0
    zero_of x y z e f = omega (arith, ints)

-- ---- without the bound: each polynomial has one
highest : Exponents → ℕ
highest [] = 0
highest (e ∷ m) = max e (highest m)

height : TermList → ℕ
height [] = 0
height (t ∷ p) = max (highest t.mono) (height p)

Bounded-highest : (m : Exponents) (d : ℕ) → highest m ≤ d → Bounded d m
unfolding highest
Bounded-highest [] d h = tt
Bounded-highest (e ∷ m) d h = (omega arith, Bounded-highest m d (omega arith))

Over-height : (n d : ℕ) (p : TermList) → Places n p → height p ≤ d → Over n d p
unfolding height
Over-height n d [] h k = tt
Over-height n d (t ∷ p) h k = ((h.0, Bounded-highest t.mono d (omega arith)), Over-height n d p h.1 (omega arith))

length-whole : (xs : List ℕ) → length (whole xs) ≡ length xs
length-whole [] = refl
length-whole (x ∷ xs) = ap suc (length-whole xs)

pub same_everywhere : (n : ℕ) (p q : TermList) → Places n p → Places n q → ((xs : List ℤ) → length xs ≡ n → value p xs ≡ value q xs) → (m : Exponents) → coef p m ≡ coef q m
same_everywhere n p q o r h m =
    same_on_grid n (height p + height q) p q (Over-height n _ p o (omega arith)) (Over-height n _ q r (omega arith))
    (λ xs g. h (whole xs) (length-whole xs ∙ g.0)) m
