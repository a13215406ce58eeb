-- The weights of results: at most what is computed without cancelling.
use Rattle.std.specs.Prelude.{◌≡◌, ℕ, zero, suc, ◌+◌, ◌*◌, ◌^◌, ◌≤◌, max, List, [], ◌∷◌, ℤ, pos, negsuc, ◌+ℤ◌, unsigned_abs, refl}
use Rattle.std.proofs.Common.{sym, ◌∙◌, ap, ap₂, subst, arith}
use Rattle.std.specs.declared.cmp.Ordering.{Ordering}
use Rattle.std.specs.declared.cmp.Ordering.TheVariants.{Less, Equal, Greater}
use Rattle.std.proofs.Math.Nat.{pow-zero, pow-succ'}
use Rattle.std.proofs.lemmas.Int.{unsigned_abs-mul}
use Rattle.dc_poly.specs.Terms.{Exponents, TermList, degree, degree_of, weight, Polynomial}
use Rattle.dc_poly.specs.Order.{graded}
use Rattle.dc_poly.specs.Sums.{with_term, insert, plus, negated, shifted, times, zeros, constant_of, times_power, first_of, rest_of, term_at, composed}
use Rattle.dc_poly.specs.Conditions.{product_weight, composed_weight}
use Rattle.dc_math.specs.Integers.{size-neg_ℤ, size-+ℤ}

pub weight-with_term : (m : Exponents) (c : ℤ) (p : TermList) → weight (with_term m c p) ≡ unsigned_abs c + weight p
weight-with_term m (pos zero) p = omega arith
weight-with_term m (pos (suc n)) p = refl
weight-with_term m (negsuc n) p = refl

pub weight-insert : (m : Exponents) (c : ℤ) (p : TermList) → weight (insert m c p) ≤ unsigned_abs c + weight p
weight-insert m c [] = let e = weight-with_term m c [] in omega arith
weight-insert m c (t ∷ p) = by (weight-insert m c p) (graded m t.mono)
  where
    by : weight (insert m c p) ≤ unsigned_abs c + weight p → (o : Ordering) → weight (elim o [ Less ↦ with_term m c (t ∷ p) | Equal ↦ with_term m (c +ℤ t.coef) p | Greater ↦ t ∷ insert m c p ]) ≤ unsigned_abs c + (unsigned_abs t.coef + weight p)
    by r Less = (let e = weight-with_term m c (t ∷ p) in omega arith)
    by r Equal = (let e = weight-with_term m (c +ℤ t.coef) p in let f = size-+ℤ c t.coef in omega arith)
    by r Greater = omega arith

pub weight-plus : (p q : TermList) → weight (plus p q) ≤ weight p + weight q
weight-plus [] q = omega arith
weight-plus (t ∷ p) q = let a = weight-insert t.mono t.coef (plus p q) in let b = weight-plus p q in omega arith

pub weight-negated : (p : TermList) → weight (negated p) ≡ weight p
weight-negated [] = refl
weight-negated (t ∷ p) = ap₂ (λ x y. x + y) (size-neg_ℤ t.coef) (weight-negated p)

pub weight-shifted : (m : Exponents) (c : ℤ) (p : TermList) → weight (shifted m c p) ≡ unsigned_abs c * weight p
weight-shifted m c [] = omega arith
weight-shifted m c (t ∷ p) = let a = unsigned_abs-mul c t.coef in let b = weight-shifted m c p in omega arith

pub weight-times : (p q : TermList) → weight (times p q) ≤ weight p * weight q
weight-times [] q = omega arith
weight-times (t ∷ p) q =
    let a = weight-plus (shifted t.mono t.coef q) (times p q) in let b = weight-shifted t.mono t.coef q in let d = weight-times p q in omega arith

pub weight-constant : (c : ℤ) (n : ℕ) → weight (constant_of c n) ≡ unsigned_abs c
weight-constant c n = let e = weight-with_term (zeros n) c [] in omega arith

pub mul_both : (a b c d : ℕ) → a ≤ b → c ≤ d → a * c ≤ b * d
mul_both a b c d h k = grind arith

pub weight-times_power : (v : TermList) (e : ℕ) (p : TermList) → weight (times_power v e p) ≤ weight v ^ e * weight p
weight-times_power v zero p = rw pow-zero (omega arith)
weight-times_power v (suc e) p =
    rw pow-succ' (let a = weight-times v (times_power v e p) in let b = mul_both (weight v) (weight v) _ _ (omega arith) (weight-times_power v e p) in grind arith)

pub weight-term_at : (n : ℕ) (c : ℤ) (m : Exponents) (vs : List Polynomial) → weight (term_at n c m vs) ≤ unsigned_abs c * product_weight m vs
weight-term_at n c [] vs = let e = weight-constant c n in omega arith
weight-term_at n c (e ∷ m) vs =
    let a = weight-times_power (first_of vs) e (term_at n c m (rest_of vs)) in
    let b = mul_both (weight (first_of vs) ^ e) _ _ _ (omega arith) (weight-term_at n c m (rest_of vs)) in
    turn (weight (first_of vs) ^ e) (unsigned_abs c) _ _ _ a b
  where
    turn : (w c z x y : ℕ) → x ≤ w * y → w * y ≤ w * (c * z) → x ≤ c * (w * z)
    turn w c z x y h k = omega arith

pub weight-composed : (n : ℕ) (p : TermList) (vs : List Polynomial) → weight (composed n p vs) ≤ composed_weight p vs
weight-composed n [] vs = omega arith
weight-composed n (t ∷ p) vs =
    let a = weight-plus (term_at n t.coef t.mono vs) (composed n p vs) in
    let b = weight-term_at n t.coef t.mono vs in
    let f = weight-composed n p vs in
    omega arith

-- ---- a bound on the weight of a composition, by the degree
-- values of weight at most w
abbrev pub AllLight : ℕ → List Polynomial → Type 0
AllLight w [] = Unit {0}
AllLight w (v ∷ vs) = (weight v.terms ≤ w) × AllLight w vs

power_both : (x y e : ℕ) → x ≤ y → x ^ e ≤ y ^ e
power_both x y zero h = rw (pow-zero x, pow-zero y) (omega arith)
power_both x y (suc e) h = rw (pow-succ' x e, pow-succ' y e) (mul_both x y _ _ h (power_both x y e h))

pub power-+ : (w a b : ℕ) → w ^ (a + b) ≡ w ^ a * w ^ b
power-+ w zero b = rw pow-zero (let e : zero + b ≡ b = omega arith in ap (λ i. w ^ i) e ∙ one-times (w ^ b))
  where
    one-times : (x : ℕ) → x ≡ 1 * x
    one-times x = omega arith
power-+ w (suc a) b = ap (λ i. w ^ i) shift ∙ pow-succ' w (a + b) ∙ ap (λ y. w * y) (power-+ w a b) ∙ turn w (w ^ a) (w ^ b) ∙ ap (λ y. y * w ^ b) (sym (pow-succ' w a))
  where
    shift : suc a + b ≡ suc (a + b)
    shift = omega arith

    turn : (x y z : ℕ) → x * (y * z) ≡ (x * y) * z
    turn x y z = omega arith

pub power_more : (w a b : ℕ) → 1 ≤ w → a ≤ b → w ^ a ≤ w ^ b
power_more w a zero h k = subst (λ i. w ^ i ≤ w ^ 0) (let e : 0 ≡ a = omega arith in e) (omega arith)
power_more w zero (suc b) h k = rw (pow-zero w, pow-succ' w b) (let r = power_more w zero b h (omega arith) in let o = pow-zero w in mul_both 1 w 1 (w ^ b) h (omega arith))
power_more w (suc a) (suc b) h k = rw (pow-succ' w a, pow-succ' w b) (mul_both w w _ _ (omega arith) (power_more w a b h (omega arith)))

product_weight_light : (w : ℕ) (m : Exponents) (vs : List Polynomial) → 1 ≤ w → AllLight w vs → product_weight m vs ≤ w ^ degree m
product_weight_light w [] vs h k = rw pow-zero (omega arith)
product_weight_light w (e ∷ m) [] h k = rw power-+ (mul_both (0 ^ e) (w ^ e) _ _ (power_both 0 w e (omega arith)) (product_weight_light w m [] h tt))
product_weight_light w (e ∷ m) (v ∷ vs) h k = rw power-+ (mul_both _ (w ^ e) _ _ (power_both (weight v.terms) w e k.0) (product_weight_light w m vs h k.1))

pub composed_weight_light : (w : ℕ) (p : TermList) (vs : List Polynomial) → 1 ≤ w → AllLight w vs → composed_weight p vs ≤ weight p * w ^ degree_of p
composed_weight_light w [] vs h k = omega arith
composed_weight_light w (t ∷ p) vs h k =
    let a = mul_both (unsigned_abs t.coef) (unsigned_abs t.coef) _ _ (omega arith) (product_weight_light w t.mono vs h k) in
    let b = mul_both (unsigned_abs t.coef) (unsigned_abs t.coef) _ _ (omega arith) (power_more w (degree t.mono) (max (degree t.mono) (degree_of p)) h (omega arith)) in
    let d = composed_weight_light w p vs h k in
    let e = mul_both (weight p) (weight p) _ _ (omega arith) (power_more w (degree_of p) (max (degree t.mono) (degree_of p)) h (omega arith)) in
    omega arith
