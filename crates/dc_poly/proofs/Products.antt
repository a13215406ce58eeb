-- Sizes, degrees and places of terms by their index, and the steps of the loops over them.
use Rattle.std.specs.Prelude.{◌≡◌, ℕ, zero, suc, ◌+◌, ◌*◌, ◌^◌, ◌<◌, ◌≤◌, [], ◌∷◌, ◌++◌, length, get_or, drop, ℤ, pos, ◌+ℤ◌, ◌*ℤ◌, unsigned_abs, refl}
use Rattle.std.proofs.Common.{sym, ◌∙◌, ap, ap₂, subst, arith, inl, inr, SFits, add-one}
use Rattle.std.specs.Int.{w128}
use Rattle.std.proofs.Math.Nat.{pow-succ'}
use Rattle.std.proofs.lemmas.Int.{ints, unsigned_abs-mul, fits_signed_from_abs}
use Rattle.std.proofs.lemmas.List.{append_assoc, append-nil, drop_more, drop_all}
use Rattle.dc_poly.specs.declared.monomial.Term.{Term}
use Rattle.dc_poly.specs.Terms.{Exponents, TermList, term, degree, Greater, Before, lower, level, Ahead, Canonical, Places, degree_of, weight, largest}
use Rattle.dc_poly.specs.Sums.{plus, times_mono, shifted, times, times_power}
use Rattle.dc_poly.specs.Conditions.{ArePadded}
use Rattle.dc_poly.proofs.Values.{Canonical-times}
use Rattle.dc_poly.proofs.Padded.{Places-times_power}
use Rattle.dc_poly.proofs.Sizes.{weight-times, weight-shifted, weight-times_power, mul_both}
use Rattle.dc_poly.proofs.Degrees.{degree-times_mono, degree-times_power}

-- ---- by index
pub size_at : (i : ℕ) (p : TermList) (a : Term) → i < length p → a ≡ get_or p i a → unsigned_abs a.coef + weight (drop (i + 1) p) ≡ weight (drop i p)
size_at i p a h e = sym (ap weight (drop_more p i a h ∙ ap (λ y. y ∷ drop (i + 1) p) (sym e)))

pub weight-drop : (i : ℕ) (p : TermList) → weight (drop i p) ≤ weight p
weight-drop zero p = omega arith
weight-drop (suc i) [] = omega arith
weight-drop (suc i) (t ∷ p) = let h = weight-drop i p in omega arith

pub size_within : (i : ℕ) (p : TermList) (a : Term) → i < length p → a ≡ get_or p i a → unsigned_abs a.coef ≤ weight p
size_within i p a h e = let s = size_at i p a h e in let w = weight-drop i p in omega arith

pub degree_within : (i : ℕ) (p : TermList) (a : Term) → i < length p → a ≡ get_or p i a → degree a.mono ≤ degree_of p
degree_within i [] a h e = absurd (omega arith)
degree_within zero (t ∷ p) a h e = let k : degree a.mono ≡ degree t.mono = ap (λ (y : Term). degree y.mono) e in omega arith
degree_within (suc i) (t ∷ p) a h e = let k = degree_within i p a (omega arith) e in omega arith

pub places_within : (n i : ℕ) (p : TermList) (a : Term) → i < length p → a ≡ get_or p i a → Places n p → length a.mono ≡ n
places_within n i [] a h e k = absurd (omega arith)
places_within n zero (t ∷ p) a h e k = ap (λ (y : Term). length y.mono) e ∙ k.0
places_within n (suc i) (t ∷ p) a h e k = places_within n i p a (omega arith) e k.1

pub nonzero_within : (i : ℕ) (p : TermList) (a : Term) → i < length p → a ≡ get_or p i a → Canonical p → ¬ (a.coef ≡ pos 0)
nonzero_within i [] a h e k = absurd (omega arith)
nonzero_within zero (t ∷ p) a h e k = λ z. k.0 (sym (ap (λ (y : Term). y.coef) e) ∙ z)
nonzero_within (suc i) (t ∷ p) a h e k = nonzero_within i p a (omega arith) e k.2

-- ---- numbers that fit
pub fits : (z : ℤ) → unsigned_abs z ≤ largest → SFits w128 z
fits z h = fits_signed_from_abs w128 z (omega arith)

pub sum_fits : (x y : ℤ) (v w : ℕ) → unsigned_abs x ≤ v → unsigned_abs y ≤ w → v + w ≤ largest → SFits w128 (x +ℤ y)
sum_fits x y v w h k l = fits (x +ℤ y) (let s : unsigned_abs (x +ℤ y) ≤ unsigned_abs x + unsigned_abs y = omega (arith, ints) in omega arith)

pub product_fits : (x y : ℤ) (w : ℕ) → unsigned_abs y ≤ w → unsigned_abs x * w ≤ largest → SFits w128 (x *ℤ y)
product_fits x y w h k =
    fits (x *ℤ y) (let s = unsigned_abs-mul x y in let m = mul_both (unsigned_abs x) (unsigned_abs x) (unsigned_abs y) w (omega arith) h in omega arith)

-- ---- a list times a term
pub shifted_step : (i : ℕ) (o o2 p : TermList) (f t : Term) (m : Exponents) (c : ℤ) → i < length p → t ≡ get_or p i t → m ≡ times_mono f.mono t.mono → c ≡ f.coef *ℤ t.coef → o2 ≡ o ++ term m c ∷ []
    → o ++ shifted f.mono f.coef (drop i p) ≡ shifted f.mono f.coef p → o2 ++ shifted f.mono f.coef (drop (i + 1) p) ≡ shifted f.mono f.coef p
shifted_step i o o2 p f t m c h e d g k x =
    ap (λ y. y ++ shifted f.mono f.coef (drop (i + 1) p)) (k ∙ ap₂ (λ a b. o ++ term a b ∷ []) d g)
    ∙ append_assoc o (term (times_mono f.mono t.mono) (f.coef *ℤ t.coef) ∷ []) (shifted f.mono f.coef (drop (i + 1) p))
    ∙ ap (λ y. o ++ shifted f.mono f.coef y) (sym (drop_more p i t h ∙ ap (λ y. y ∷ drop (i + 1) p) (sym e))) ∙ x

pub shifted_done : (i : ℕ) (o p : TermList) (f : Term) → length p ≤ i → o ++ shifted f.mono f.coef (drop i p) ≡ shifted f.mono f.coef p → o ≡ shifted f.mono f.coef p
shifted_done i o p f h x = sym (append-nil o) ∙ ap (λ y. o ++ shifted f.mono f.coef y) (sym (drop_all i p h)) ∙ x

-- it is in order where the list is
Greater-times : (m k l : Exponents) → length k ≡ length m → length l ≡ length m → Greater k l → Greater (times_mono m k) (times_mono m l)
Greater-times [] k l h g x = x
Greater-times (e ∷ m) [] l h g x = absurd (omega arith)
Greater-times (e ∷ m) (f ∷ k) [] h g x = absurd (omega arith)
Greater-times (e ∷ m) (f ∷ k) (i ∷ l) h g (inl x) = inl (omega arith)
Greater-times (e ∷ m) (f ∷ k) (i ∷ l) h g (inr x) = inr (ap (λ y. e + y) x.0, Greater-times m k l (omega arith) (omega arith) x.1)

Before-times : (m k l : Exponents) → length k ≡ length m → length l ≡ length m → Before k l → Before (times_mono m k) (times_mono m l)
Before-times m k l h g (lower x) = lower (let a = degree-times_mono m k in let b = degree-times_mono m l in omega arith)
Before-times m k l h g (level x y) = level (let a = degree-times_mono m k in let b = degree-times_mono m l in omega arith) (Greater-times m k l h g y)

Ahead-shifted : (m k : Exponents) (c : ℤ) (p : TermList) → length k ≡ length m → Places (length m) p → Ahead k p → Ahead (times_mono m k) (shifted m c p)
Ahead-shifted m k c [] h g x = tt
Ahead-shifted m k c (t ∷ p) h g x = (Before-times m k t.mono h g.0 x.0, Ahead-shifted m k c p h g.1 x.1)

no_zero : (x y : ℤ) → ¬ (x ≡ pos 0) → ¬ (y ≡ pos 0) → ¬ (x *ℤ y ≡ pos 0)
no_zero x y h k e = by (unsigned_abs x) (unsigned_abs y) refl refl (sym (unsigned_abs-mul x y) ∙ ap unsigned_abs e)
  where
    by : (a b : ℕ) → a ≡ unsigned_abs x → b ≡ unsigned_abs y → unsigned_abs x * unsigned_abs y ≡ 0 → ⊥
    by zero b p q r = h (omega (arith, ints))
    by (suc a) zero p q r = k (omega (arith, ints))
    by (suc a) (suc b) p q r = product a b (ap₂ (λ v w. v * w) p q ∙ r)
      where
        product : (a b : ℕ) → suc a * suc b ≡ 0 → ⊥
        product a b r = omega arith

pub Canonical-shifted : (m : Exponents) (c : ℤ) (p : TermList) → ¬ (c ≡ pos 0) → Places (length m) p → Canonical p → Canonical (shifted m c p)
Canonical-shifted m c [] n g x = tt
Canonical-shifted m c (t ∷ p) n g x = (no_zero c t.coef n x.0, Ahead-shifted m t.mono c p g.0 g.1 x.1, Canonical-shifted m c p n g.1 x.2)

-- ---- the product, from its last term
pub times_step : (k : ℕ) (p q : TermList) (a : Term) → k < length p → a ≡ get_or p k a → plus (shifted a.mono a.coef q) (times (drop (k + 1) p) q) ≡ times (drop k p) q
times_step k p q a h e = sym (ap (λ y. times y q) (drop_more p k a h ∙ ap (λ y. y ∷ drop (k + 1) p) (sym e)))

pub times_light : (k : ℕ) (p q : TermList) (a : Term) (s r : TermList) → k < length p → a ≡ get_or p k a → s ≡ shifted a.mono a.coef q → r ≡ times (drop (k + 1) p) q → weight p * weight q ≤ largest
    → weight s + weight r ≤ largest
times_light k p q a s r h e f g l =
    let c = size_at k p a h e in let w = weight-drop k p in
    let x = weight-shifted a.mono a.coef q in
    let y = weight-times (drop (k + 1) p) q in
    let z = mul_both (unsigned_abs a.coef + weight (drop (k + 1) p)) (weight p) (weight q) (weight q) (omega arith) (omega arith) in
    let u = ap weight f in
    let v = ap weight g in
    omega arith

pub shift_light : (k : ℕ) (p q : TermList) (a : Term) → k < length p → a ≡ get_or p k a → weight p * weight q ≤ largest → unsigned_abs a.coef * weight q ≤ largest
shift_light k p q a h e l =
    let z = mul_both (unsigned_abs a.coef) (weight p) (weight q) (weight q) (size_within k p a h e) (omega arith) in omega arith

pub shift_padded : (k : ℕ) (p q : TermList) (a : Term) → k < length p → a ≡ get_or p k a → ArePadded p q → Places (length a.mono) q
shift_padded k p q a h e d = subst (λ n. Places n q) (sym (places_within d.places k p a h e d.left)) d.right

-- ---- powers
pub Canonical-times_power : (v : TermList) (e : ℕ) (p : TermList) → Canonical p → Canonical (times_power v e p)
Canonical-times_power v zero p h = h
Canonical-times_power v (suc e) p h = Canonical-times v (times_power v e p)

pub power_padded : (v p : TermList) (e : ℕ) → ArePadded v p → ArePadded v (times_power v e p)
power_padded v p e d = record { places = d.places; left = d.left; right = Places-times_power d.places v e p d.left d.right }

pub power_low : (v p : TermList) (k e : ℕ) → k < e → e * degree_of v + degree_of p ≤ 255 → degree_of v + degree_of (times_power v k p) ≤ 255
power_low v p k e h l =
    let a = degree-times_power (degree_of v) v k p (omega arith) in
    let b = mul_both (k + 1) e (degree_of v) (degree_of v) (omega arith) (omega arith) in
    omega arith

power_up : (w k e : ℕ) → 0 < w → k ≤ e → w ^ k ≤ w ^ e
power_up w zero zero h l = omega arith
power_up w zero (suc e) h l = rw pow-succ' (let a = power_up w zero e h (omega arith) in mul_one _ _ _ h a)
  where
    mul_one : (w x y : ℕ) → 0 < w → x ≤ y → x ≤ w * y
    mul_one w x y h l = grind arith
power_up w (suc k) zero h l = absurd (omega arith)
power_up w (suc k) (suc e) h l = rw (pow-succ' w k, pow-succ' w e) (mul_both w w _ _ (omega arith) (power_up w k e h (omega arith)))

pub power_light : (v p : TermList) (k e : ℕ) → k < e → (0 < e → 0 < weight v) → weight v ^ e * weight p ≤ largest → weight v * weight (times_power v k p) ≤ largest
power_light v p k e h n l =
    let a = weight-times_power v k p in
    let b = mul_both (weight v) (weight v) _ _ (omega arith) a in
    let d = power_up (weight v) (suc k) e (n (omega arith)) (omega arith) in
    let f = mul_both _ _ (weight p) (weight p) d (omega arith) in
    let g = pow-succ' (weight v) k in
    turn (weight v) (weight v ^ k) (weight p) _ _ b (subst (λ y. y * weight p ≤ weight v ^ e * weight p) g f) l
  where
    turn : (w x y s t : ℕ) → w * s ≤ w * (x * y) → (w * x) * y ≤ t → t ≤ largest → w * s ≤ largest
    turn w x y s t h k l = omega arith

pub power_step : (k : ℕ) (v p : TermList) → times v (times_power v k p) ≡ times_power v (k + 1) p
power_step k v p = rw add-one refl
