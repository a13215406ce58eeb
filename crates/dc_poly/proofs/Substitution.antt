-- A term at values: where it vanishes, and that no part of it is larger than the whole.
use Rattle.std.specs.Prelude.{◌≡◌, ℕ, zero, suc, ◌+◌, ◌-◌, ◌*◌, ◌^◌, ◌<◌, ◌≤◌, true, false, ◌==◌, List, [], ◌∷◌, length, get_or, drop, ℤ, unsigned_abs, refl}
use Rattle.std.proofs.Common.{sym, ◌∙◌, ap, ap₂, subst, arith, mul-zero, zero-mul}
use Rattle.std.proofs.Math.Nat.{pow-zero, pow-succ'}
use Rattle.std.proofs.lemmas.List.{drop_more, drop_all, nil_from_length, get_or_default}
use Rattle.std.proofs.lemmas.Int.{ints}
use Rattle.std.proofs.lemmas.Bool.Decides.{nat_tests}
use Rattle.dc_poly.specs.declared.monomial.Term.{Term}
use Rattle.dc_poly.specs.Terms.{Exponents, TermList, degree, Canonical, Places, degree_of, weight, largest, Polynomial, polynomial, IsPolynomial}
use Rattle.dc_poly.specs.Sums.{plus, times_power, first_of, rest_of, term_at, composed, constant_of}
use Rattle.dc_poly.specs.Conditions.{ArePadded, HavePlaces, product_weight, composed_weight}
use Rattle.dc_poly.proofs.Values.{Canonical-constant, Canonical-composed}
use Rattle.dc_poly.proofs.Padded.{Places-constant, Places-times_power, Places-plus}
use Rattle.dc_poly.proofs.Degrees.{degree-constant, degree-times_power}
use Rattle.dc_poly.proofs.Sizes.{weight-term_at, weight-composed, mul_both}
use Rattle.dc_poly.proofs.Products.{Canonical-times_power}

pub Canonical-term_at : (n : ℕ) (c : ℤ) (m : Exponents) (vs : List Polynomial) → Canonical (term_at n c m vs)
Canonical-term_at n c [] vs = Canonical-constant c n
Canonical-term_at n c (e ∷ m) vs = Canonical-times_power (first_of vs) e (term_at n c m (rest_of vs)) (Canonical-term_at n c m (rest_of vs))

-- ---- sizes
weight_zero : (p : TermList) → Canonical p → weight p ≡ 0 → p ≡ []
weight_zero [] h e = refl
weight_zero (t ∷ p) h e = absurd (h.0 (let z : unsigned_abs t.coef ≡ 0 = omega arith in omega (arith, ints)))

pub weight_positive : (p : TermList) → Canonical p → 0 < length p → 0 < weight p
weight_positive [] h e = absurd (omega arith)
weight_positive (t ∷ p) h e = by (weight (t ∷ p)) refl
  where
    by : (w : ℕ) → w ≡ weight (t ∷ p) → 0 < weight (t ∷ p)
    by zero q = absurd (h.0 (let z : unsigned_abs t.coef ≡ 0 = omega arith in omega (arith, ints)))
    by (suc w) q = omega arith

pub vanished : (n : ℕ) (c : ℤ) (m : Exponents) (vs : List Polynomial) → product_weight m vs ≡ 0 → [] ≡ term_at n c m vs
vanished n c m vs h =
    sym (weight_zero (term_at n c m vs) (Canonical-term_at n c m vs)
    (let w = weight-term_at n c m vs in let e : unsigned_abs c * product_weight m vs ≡ 0 = ap (λ y. unsigned_abs c * y) h ∙ mul-zero (unsigned_abs c) in omega arith))

zero_power : (w e : ℕ) → w ≡ 0 → 0 < e → w ^ e ≡ 0
zero_power w zero h k = absurd (omega arith)
zero_power w (suc e) h k = pow-succ' w e ∙ ap (λ y. y * w ^ e) h ∙ zero-mul (w ^ e)

mul_positive : (x y : ℕ) → 0 < x → 0 < y → 0 < x * y
mul_positive (suc x) (suc y) h k = omega arith
mul_positive zero y h k = absurd (omega arith)
mul_positive (suc x) zero h k = absurd (omega arith)

power_positive : (w e : ℕ) → 0 < w → 0 < w ^ e
power_positive w zero h = rw pow-zero (omega arith)
power_positive w (suc e) h = rw pow-succ' (mul_positive w (w ^ e) h (power_positive w e h))

-- a value that is 0 with a positive exponent makes the product 0
pub zero_at : (k : ℕ) (m : Exponents) (vs : List Polynomial) (v : Polynomial) → k < length m → length vs ≡ length m → v ≡ get_or vs k v → 0 < get_or m k 0 → length v.terms ≡ 0 → product_weight m vs ≡ 0
zero_at k [] vs v h l e g z = absurd (omega arith)
zero_at k (x ∷ m) [] v h l e g z = absurd (omega arith)
zero_at zero (x ∷ m) (u ∷ vs) v h l e g z =
    ap (λ y. y * product_weight m vs) (zero_power (weight u.terms) x (ap (λ (y : Polynomial). weight y.terms) (sym e) ∙ ap weight (nil_from_length v.terms z)) g) ∙ zero-mul (product_weight m vs)
zero_at (suc k) (x ∷ m) (u ∷ vs) v h l e g z =
    ap (λ y. weight u.terms ^ x * y) (zero_at k m vs v (omega arith) (omega arith) e g z) ∙ mul-zero (weight u.terms ^ x)

-- the product is positive where each place's part is
pub open_product : (k : ℕ) (m : Exponents) (vs : List Polynomial) (v : Polynomial) → k < length m → length vs ≡ length m → v ≡ get_or vs k v
    → product_weight (drop k m) (drop k vs) ≡ weight v.terms ^ get_or m k 0 * product_weight (drop (k + 1) m) (drop (k + 1) vs)
open_product k m vs v h l e =
    ap₂ product_weight (drop_more m k 0 h) (drop_more vs k v (omega arith) ∙ ap (λ y. y ∷ drop (k + 1) vs) (sym e))

pub positive_step : (k : ℕ) (m : Exponents) (vs : List Polynomial) (v : Polynomial) → k < length m → length vs ≡ length m → v ≡ get_or vs k v
    → (0 < get_or m k 0 → 0 < weight v.terms) → (0 < product_weight (drop k m) (drop k vs) → 0 < product_weight m vs) → 0 < product_weight (drop (k + 1) m) (drop (k + 1) vs) → 0 < product_weight m vs
positive_step k m vs v h l e n g x = g (rw (open_product k m vs v h l e) (mul_positive _ _ (part (get_or m k 0) n) x))
  where
    part : (e : ℕ) → (0 < e → 0 < weight v.terms) → 0 < weight v.terms ^ e
    part zero n = rw pow-zero (omega arith)
    part (suc e) n = power_positive (weight v.terms) (suc e) (n (omega arith))

pub positive_skip : (k : ℕ) (m : Exponents) (vs : List Polynomial) → k < length m → length vs ≡ length m → get_or m k 0 ≤ 0
    → (0 < product_weight (drop k m) (drop k vs) → 0 < product_weight m vs) → 0 < product_weight (drop (k + 1) m) (drop (k + 1) vs) → 0 < product_weight m vs
positive_skip k m vs h l z g x =
    positive_step k m vs (get_or vs k (polynomial 0 [])) h l (get_or_default vs k (polynomial 0 []) (get_or vs k (polynomial 0 [])) (omega arith)) (λ y. absurd (omega arith)) g x

pub positive_end : (k : ℕ) (m : Exponents) (vs : List Polynomial) → length m ≤ k → (0 < product_weight (drop k m) (drop k vs) → 0 < product_weight m vs) → 0 < product_weight m vs
positive_end k m vs h g = g (subst (λ y. 0 < product_weight y (drop k vs)) (sym (drop_all k m h)) (omega arith))

two : (x y z : ℕ) → 0 < x * y → (0 < y → z ≤ y) → z ≤ x * y
two zero y z h g = absurd (omega arith)
two (suc x) zero z h g = absurd (let q : suc x * 0 ≡ 0 = omega arith in omega arith)
two (suc x) (suc y) z h g = let a = g (omega arith) in omega arith

-- where the product is positive, the part from place k on is at most the whole
pub product-drop : (k : ℕ) (m : Exponents) (vs : List Polynomial) → 0 < product_weight m vs → product_weight (drop k m) (drop k vs) ≤ product_weight m vs
product-drop zero m vs h = omega arith
product-drop (suc k) [] vs h = empty (suc k) vs
  where
    empty : (k : ℕ) (vs : List Polynomial) → product_weight (drop k []) (drop k vs) ≤ 1
    empty zero vs = omega arith
    empty (suc k) vs = omega arith
product-drop (suc k) (e ∷ m) [] h =
    subst (λ (y : List Polynomial). product_weight (drop k m) y ≤ weight [] ^ e * product_weight m []) (none k)
    (two (weight [] ^ e) (product_weight m []) (product_weight (drop k m) (drop k [])) h (product-drop k m []))
  where
    none : (k : ℕ) → drop {A = Polynomial} k [] ≡ []
    none zero = refl
    none (suc k) = refl
product-drop (suc k) (e ∷ m) (v ∷ vs) h = two (weight v.terms ^ e) (product_weight m vs) (product_weight (drop k m) (drop k vs)) h (product-drop k m vs)

-- and a value with a positive exponent is not 0
pub value_positive : (k : ℕ) (m : Exponents) (vs : List Polynomial) (v : Polynomial) → k < length m → length vs ≡ length m → v ≡ get_or vs k v → 0 < product_weight m vs → 0 < get_or m k 0 → 0 < weight v.terms
value_positive k m vs v h l e p g = by (weight v.terms) refl
  where
    by : (w : ℕ) → w ≡ weight v.terms → 0 < weight v.terms
    by zero q = absurd (let z = zero_weight_at k m vs v h l e g (sym q) in omega arith)
      where
        zero_weight_at : (k : ℕ) (m : Exponents) (vs : List Polynomial) (v : Polynomial) → k < length m → length vs ≡ length m → v ≡ get_or vs k v → 0 < get_or m k 0 → weight v.terms ≡ 0 → product_weight m vs ≡ 0
        zero_weight_at k [] vs v h l e g z = absurd (omega arith)
        zero_weight_at k (x ∷ m) [] v h l e g z = absurd (omega arith)
        zero_weight_at zero (x ∷ m) (u ∷ vs) v h l e g z =
            ap (λ y. y * product_weight m vs) (zero_power (weight u.terms) x (ap (λ (y : Polynomial). weight y.terms) (sym e) ∙ z) g) ∙ zero-mul (product_weight m vs)
        zero_weight_at (suc k) (x ∷ m) (u ∷ vs) v h l e g z =
            ap (λ y. weight u.terms ^ x * y) (zero_weight_at k m vs v (omega arith) (omega arith) e g z) ∙ mul-zero (weight u.terms ^ x)
    by (suc w) q = omega arith

-- ---- tests of a length
pub empty_is : (n : ℕ) → true ≡ (n == 0) → n ≡ 0
empty_is n h = grind (arith, nat_tests)

pub full_is : (n : ℕ) → false ≡ (n == 0) → 0 < n
full_is n h = grind (arith, nat_tests)

-- ---- the loop over the places
pub places_at : (n k : ℕ) (vs : List Polynomial) (v : Polynomial) → k < length vs → v ≡ get_or vs k v → HavePlaces n vs → v.places ≡ n
places_at n k [] v h e g = absurd (omega arith)
places_at n zero (u ∷ vs) v h e g = ap (λ (y : Polynomial). y.places) e ∙ g.0
places_at n (suc k) (u ∷ vs) v h e g = places_at n k vs v (omega arith) e g.1

pub term_step : (n k : ℕ) (c : ℤ) (m : Exponents) (vs : List Polynomial) (v : Polynomial) → k < length m → length vs ≡ length m → v ≡ get_or vs k v
    → times_power v.terms (get_or m k 0) (term_at n c (drop (k + 1) m) (drop (k + 1) vs)) ≡ term_at n c (drop k m) (drop k vs)
term_step n k c m vs v h l e = sym (ap₂ (term_at n c) (drop_more m k 0 h) (drop_more vs k v (omega arith) ∙ ap (λ y. y ∷ drop (k + 1) vs) (sym e)))

pub degree-drop : (k : ℕ) (m : Exponents) → degree (drop k m) ≤ degree m
degree-drop zero m = omega arith
degree-drop (suc k) [] = omega arith
degree-drop (suc k) (e ∷ m) = let h = degree-drop k m in omega arith

pub degree_open : (k : ℕ) (m : Exponents) → k < length m → get_or m k 0 + degree (drop (k + 1) m) ≡ degree (drop k m)
degree_open k m h = sym (ap degree (drop_more m k 0 h))

-- the degrees that a power needs
pub term_low : (k e : ℕ) (m : Exponents) (v p : TermList) → k < length m → e ≡ get_or m k 0 → degree_of v ≤ 12 → degree_of p ≤ degree (drop (k + 1) m) * 12 → degree m ≤ 12 → (e * degree_of v + degree_of p) ≤ degree (drop k m) * 12
term_low k e m v p h q a b d =
    let o = degree_open k m h in let x = mul_both e e (degree_of v) 12 (omega arith) a in omega arith

pub term_fits : (k e : ℕ) (m : Exponents) (v p : TermList) → k < length m → e ≡ get_or m k 0 → degree_of v ≤ 12 → degree_of p ≤ degree (drop (k + 1) m) * 12 → degree m ≤ 12 → (e * degree_of v + degree_of p) ≤ 255
term_fits k e m v p h q a b d = let x = term_low k e m v p h q a b d in let y = degree-drop k m in omega arith

-- the weights that a power needs
pub term_light : (n k : ℕ) (c : ℤ) (m : Exponents) (vs : List Polynomial) (v : Polynomial) (e : ℕ) (p : TermList) → k < length m → length vs ≡ length m → v ≡ get_or vs k v → e ≡ get_or m k 0
    → 0 < product_weight m vs → unsigned_abs c * product_weight m vs ≤ largest → p ≡ term_at n c (drop (k + 1) m) (drop (k + 1) vs) → weight v.terms ^ e * weight p ≤ largest
term_light n k c m vs v e p h l g q x y z =
    turn (weight v.terms ^ e) (unsigned_abs c) _ _ _ _
    (mul_both (weight v.terms ^ e) _ _ _ (omega arith) (subst (λ (t : TermList). weight t ≤ unsigned_abs c * product_weight (drop (k + 1) m) (drop (k + 1) vs)) (sym z) (weight-term_at n c (drop (k + 1) m) (drop (k + 1) vs))))
    (sym (subst (λ (i : ℕ). product_weight (drop k m) (drop k vs) ≡ weight v.terms ^ i * product_weight (drop (k + 1) m) (drop (k + 1) vs)) (sym q) (open_product k m vs v h l g)))
    (mul_both (unsigned_abs c) _ _ _ (omega arith) (product-drop k m vs x)) y
  where
    turn : (a c w r s t : ℕ) → a * w ≤ a * (c * r) → a * r ≡ s → c * s ≤ c * t → c * t ≤ largest → a * w ≤ largest
    turn a c w r s t h g k l = let e : c * (a * r) ≡ c * s = ap (λ y. c * y) g in omega arith

-- ---- the loop over the terms
pub composed_step : (n k : ℕ) (p : TermList) (vs : List Polynomial) (t : Term) → k < length p → t ≡ get_or p k t → plus (term_at n t.coef t.mono vs) (composed n (drop (k + 1) p) vs) ≡ composed n (drop k p) vs
composed_step n k p vs t h e = sym (ap (λ y. composed n y vs) (drop_more p k t h ∙ ap (λ y. y ∷ drop (k + 1) p) (sym e)))

composed_weight-drop : (k : ℕ) (p : TermList) (vs : List Polynomial) → composed_weight (drop k p) vs ≤ composed_weight p vs
composed_weight-drop zero p vs = omega arith
composed_weight-drop (suc k) [] vs = omega arith
composed_weight-drop (suc k) (t ∷ p) vs = let h = composed_weight-drop k p vs in omega arith

weight_open : (k : ℕ) (p : TermList) (vs : List Polynomial) (t : Term) → k < length p → t ≡ get_or p k t → unsigned_abs t.coef * product_weight t.mono vs + composed_weight (drop (k + 1) p) vs ≤ composed_weight p vs
weight_open k p vs t h e =
    let o : composed_weight (drop k p) vs ≡ unsigned_abs t.coef * product_weight t.mono vs + composed_weight (drop (k + 1) p) vs =
    ap (λ y. composed_weight y vs) (drop_more p k t h ∙ ap (λ y. y ∷ drop (k + 1) p) (sym e)) in
    let d = composed_weight-drop k p vs in
    omega arith

pub part_light : (k : ℕ) (p : TermList) (vs : List Polynomial) (t : Term) → k < length p → t ≡ get_or p k t → composed_weight p vs ≤ largest → unsigned_abs t.coef * product_weight t.mono vs ≤ largest
part_light k p vs t h e l = let w = weight_open k p vs t h e in omega arith

pub parts_light : (n k : ℕ) (p : TermList) (vs : List Polynomial) (t : Term) (s r : TermList) → k < length p → t ≡ get_or p k t → s ≡ term_at n t.coef t.mono vs → r ≡ composed n (drop (k + 1) p) vs → composed_weight p vs ≤ largest
    → weight s + weight r ≤ largest
parts_light n k p vs t s r h e f g l =
    let w = weight_open k p vs t h e in
    let a = weight-term_at n t.coef t.mono vs in
    let b = weight-composed n (drop (k + 1) p) vs in
    let x = ap weight f in let y = ap weight g in
    omega arith

-- ---- what the loop over the places keeps
pub record Setting (n : ℕ) (c : ℤ) (m : Exponents) (vs : List Polynomial) : Type 0 where
  pub one_each : length vs ≡ length m
  pub same_places : HavePlaces n vs
  pub low : degree m ≤ 12
  pub positive : 0 < product_weight m vs
  pub light : unsigned_abs c * product_weight m vs ≤ largest

pub record Stage (n j : ℕ) (c : ℤ) (m : Exponents) (vs : List Polynomial) (p : TermList) : Type 0 where
  pub inside : j ≤ length m
  pub so_far : p ≡ term_at n c (drop j m) (drop j vs)
  pub in_order : Canonical p
  pub padded : Places n p
  pub low : degree_of p ≤ degree (drop j m) * 12

pub set : (n : ℕ) (c : ℤ) (m x : Exponents) (vs : List Polynomial) → x ≡ m → length vs ≡ length m → HavePlaces n vs → degree m ≤ 12 → 0 < product_weight m vs → unsigned_abs c * product_weight m vs ≤ largest → Setting n c x vs
set n c m x vs e h k l o p = subst (λ y. Setting n c y vs) (sym e) (record { one_each = h; same_places = k; low = l; positive = o; light = p })

pub stage_start : (n : ℕ) (c : ℤ) (m : Exponents) (vs : List Polynomial) (p : TermList) → p ≡ constant_of c n → Stage n (length m) c m vs p
stage_start n c m vs p e = subst (Stage n (length m) c m vs) (sym e) (record {
  inside = omega arith;
  so_far = ap (λ y. term_at n c y (drop (length m) vs)) (sym (drop_all (length m) m (omega arith)));
  in_order = Canonical-constant c n;
  padded = Places-constant c n;
  low = (let d = degree-constant c n in omega arith);
})

back : (n j k : ℕ) (c : ℤ) (m : Exponents) (vs : List Polynomial) (p : TermList) → j ≡ k → Stage n j c m vs p → Stage n k c m vs p
back n j k c m vs p e s = subst (λ i. Stage n i c m vs p) e s

pub stage_padded : (n j : ℕ) (c : ℤ) (m : Exponents) (vs : List Polynomial) (p t : TermList) (v : Polynomial) → 0 < j → Setting n c m vs → v ≡ get_or vs (j - 1) v → IsPolynomial v → t ≡ v.terms → Stage n j c m vs p → ArePadded t p
stage_padded n j c m vs p t v h g e q w s = record {
  places = n;
  left = subst (Places n) (sym w) (subst (λ i. Places i v.terms) (places_at n (j - 1) vs v (let a = s.inside in let b = g.one_each in omega arith) e g.same_places) q.padded);
  right = s.padded;
}

pub stage_low : (n j : ℕ) (c : ℤ) (m : Exponents) (vs : List Polynomial) (p t : TermList) (v : Polynomial) → 0 < j → Setting n c m vs → IsPolynomial v → t ≡ v.terms → Stage n j c m vs p → get_or m (j - 1) 0 * degree_of t + degree_of p ≤ 255
stage_low n j c m vs p t v h g q w s =
    let r = back n j (j - 1 + 1) c m vs p (omega arith) s in
    subst (λ y. get_or m (j - 1) 0 * degree_of y + degree_of p ≤ 255) (sym w)
    (term_fits (j - 1) (get_or m (j - 1) 0) m v.terms p (let a = s.inside in omega arith) refl q.low r.low g.low)

pub stage_nonzero : (n j : ℕ) (c : ℤ) (m : Exponents) (vs : List Polynomial) (p t : TermList) (v : Polynomial) → 0 < j → Setting n c m vs → v ≡ get_or vs (j - 1) v → t ≡ v.terms → Stage n j c m vs p → 0 < get_or m (j - 1) 0 → 0 < weight t
stage_nonzero n j c m vs p t v h g e w s x =
    subst (λ y. 0 < weight y) (sym w) (value_positive (j - 1) m vs v (let a = s.inside in omega arith) g.one_each e g.positive x)

pub stage_light : (n j : ℕ) (c : ℤ) (m : Exponents) (vs : List Polynomial) (p t : TermList) (v : Polynomial) → 0 < j → Setting n c m vs → v ≡ get_or vs (j - 1) v → t ≡ v.terms → Stage n j c m vs p → weight t ^ get_or m (j - 1) 0 * weight p ≤ largest
stage_light n j c m vs p t v h g e w s =
    let r = back n j (j - 1 + 1) c m vs p (omega arith) s in
    subst (λ y. weight y ^ get_or m (j - 1) 0 * weight p ≤ largest) (sym w)
    (term_light n (j - 1) c m vs v (get_or m (j - 1) 0) p (let a = s.inside in omega arith) g.one_each e refl g.positive g.light r.so_far)

pub stage_next : (n j : ℕ) (c : ℤ) (m : Exponents) (vs : List Polynomial) (p t o : TermList) (v : Polynomial) → 0 < j → Setting n c m vs → v ≡ get_or vs (j - 1) v → IsPolynomial v → t ≡ v.terms → o ≡ times_power t (get_or m (j - 1) 0) p → Stage n j c m vs p → Stage n (j - 1) c m vs o
stage_next n j c m vs p t o v h g e q w x s =
    subst (Stage n (j - 1) c m vs) (sym (x ∙ ap (λ y. times_power y (get_or m (j - 1) 0) p) w))
    (by (back n j (j - 1 + 1) c m vs p (omega arith) s) (let a = s.inside in omega arith))
  where
    by : Stage n (j - 1 + 1) c m vs p → j - 1 < length m → Stage n (j - 1) c m vs (times_power v.terms (get_or m (j - 1) 0) p)
    by r l = record {
      inside = omega arith;
      so_far = ap (times_power v.terms (get_or m (j - 1) 0)) r.so_far ∙ term_step n (j - 1) c m vs v l g.one_each e;
      in_order = Canonical-times_power v.terms (get_or m (j - 1) 0) p r.in_order;
      padded = Places-times_power n v.terms (get_or m (j - 1) 0) p (subst (λ i. Places i v.terms) (places_at n (j - 1) vs v (let b = g.one_each in omega arith) e g.same_places) q.padded) r.padded;
      low = (let d = degree-times_power (degree_of v.terms) v.terms (get_or m (j - 1) 0) p (omega arith) in let y = term_low (j - 1) (get_or m (j - 1) 0) m v.terms p l refl q.low r.low g.low in omega arith);
    }

pub stage_end : (n j : ℕ) (c : ℤ) (m x : Exponents) (vs : List Polynomial) (p : TermList) → j ≤ 0 → x ≡ m → Stage n j c x vs p → p ≡ term_at n c m vs
stage_end n j c m x vs p h e s = subst (λ i. p ≡ term_at n c (drop i x) (drop i vs)) (let z : j ≡ 0 = omega arith in z) s.so_far ∙ ap (λ y. term_at n c y vs) e

-- ---- what the loop over the terms keeps
pub record Round (n j : ℕ) (p : TermList) (vs : List Polynomial) (s : TermList) : Type 0 where
  pub inside : j ≤ length p
  pub so_far : s ≡ composed n (drop j p) vs
  pub padded : Places n s

pub round_start : (n : ℕ) (p : TermList) (vs : List Polynomial) (s : TermList) → s ≡ [] → Round n (length p) p vs s
round_start n p vs s e = subst (Round n (length p) p vs) (sym e) (record { inside = omega arith; so_far = ap (λ y. composed n y vs) (sym (drop_all (length p) p (omega arith))); padded = tt })

round_back : (n j k : ℕ) (p : TermList) (vs : List Polynomial) (s : TermList) → j ≡ k → Round n j p vs s → Round n k p vs s
round_back n j k p vs s e r = subst (λ i. Round n i p vs s) e r

pub round_order : (n j : ℕ) (p : TermList) (vs : List Polynomial) (s : TermList) → Round n j p vs s → Canonical s
round_order n j p vs s r = subst Canonical (sym r.so_far) (Canonical-composed n (drop j p) vs)

pub round_light : (n j : ℕ) (p : TermList) (vs : List Polynomial) (t : Term) (u s : TermList) → 0 < j → t ≡ get_or p (j - 1) t → u ≡ term_at n t.coef t.mono vs → composed_weight p vs ≤ largest → Round n j p vs s → weight u + weight s ≤ largest
round_light n j p vs t u s h e f l r =
    let b = round_back n j (j - 1 + 1) p vs s (omega arith) r in
    parts_light n (j - 1) p vs t u s (let a = r.inside in omega arith) e f b.so_far l

pub round_next : (n j : ℕ) (p : TermList) (vs : List Polynomial) (t : Term) (u s o : TermList) → 0 < j → t ≡ get_or p (j - 1) t → u ≡ term_at n t.coef t.mono vs → Places n u → o ≡ plus u s → Round n j p vs s → Round n (j - 1) p vs o
round_next n j p vs t u s o h e f g x r = by (round_back n j (j - 1 + 1) p vs s (omega arith) r) (let a = r.inside in omega arith)
  where
    by : Round n (j - 1 + 1) p vs s → j - 1 < length p → Round n (j - 1) p vs o
    by b l = record {
      inside = omega arith;
      so_far = x ∙ ap₂ plus f b.so_far ∙ composed_step n (j - 1) p vs t l e;
      padded = subst (Places n) (sym x) (Places-plus n u s g b.padded);
    }

pub round_end : (n j : ℕ) (p : TermList) (vs : List Polynomial) (s : TermList) → j ≤ 0 → Round n j p vs s → s ≡ composed n p vs
round_end n j p vs s h r = subst (λ i. s ≡ composed n (drop i p) vs) (let z : j ≡ 0 = omega arith in z) r.so_far
