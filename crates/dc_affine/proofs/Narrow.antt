-- A form within its bounds has few terms, so sums and products of two of them fit.
use Rattle.std.specs.Prelude.{◌≡◌, ℕ, zero, suc, ◌+◌, ◌-◌, ◌*◌, ◌^◌, ◌≤◌, ◌<◌, true, leb, [], ◌∷◌, length, unsigned_abs}
use Rattle.std.proofs.Common.{sym, ap, subst, arith, inl, inr}
use Rattle.std.proofs.Math.Nat.{pow-zero, pow-succ'}
use Rattle.std.proofs.lemmas.Bool.{leb-true, and_parts}
use Rattle.dc_poly.specs.Terms.{Exponents, TermList, degree, degree_of, Greater, Before, lower, level, Ahead, Canonical, Places, weight, Polynomial, IsPolynomial}
use Rattle.dc_poly.specs.Sums.{negation_of}
use Rattle.dc_poly.specs.Conditions.{CanAdd, CanMul}
use Rattle.dc_poly.proofs.Sizes.{mul_both, power_more, weight-negated}
use Rattle.dc_poly.proofs.Degrees.{degree-times}
use Rattle.dc_poly.specs.NormalForm.{most, coefs_fit, IsNormalForm}

-- exponents of at most 2 as the digits of a number
abbrev digits : ℕ → Exponents → ℕ
digits zero m = 0
digits (suc n) [] = 0
digits (suc n) (e ∷ m) = e * 3 ^ n + digits n m

digits_low : (n : ℕ) (m : Exponents) → degree m ≤ 2 → digits n m < 3 ^ n
digits_low zero m h = rw pow-zero (omega arith)
digits_low (suc n) [] h = rw pow-succ' (let r = digits_low n [] (omega arith) in omega arith)
digits_low (suc n) (e ∷ m) h = rw pow-succ' (let r = digits_low n m (omega arith) in let b = mul_both e 2 (3 ^ n) (3 ^ n) (omega arith) (omega arith) in omega arith)

digits_more : (n : ℕ) (m k : Exponents) → length m ≡ n → length k ≡ n → degree m ≤ 2 → degree k ≤ 2 → Greater m k → digits n k < digits n m
digits_more zero [] k l j a b g = by k j g
  where
    by : (k : Exponents) → length k ≡ zero → Greater [] k → 0 < 0
    by [] j g = absurd g
    by (f ∷ k) j g = absurd (omega arith)
digits_more zero (e ∷ m) k l j a b g = absurd (omega arith)
digits_more (suc n) [] k l j a b g = absurd (omega arith)
digits_more (suc n) (e ∷ m) [] l j a b g = absurd (omega arith)
digits_more (suc n) (e ∷ m) (f ∷ k) l j a b (inl g) =
    let r = digits_low n k (omega arith) in let s = mul_both (suc f) e (3 ^ n) (3 ^ n) (omega arith) (omega arith) in omega arith
digits_more (suc n) (e ∷ m) (f ∷ k) l j a b (inr g) =
    let r = digits_more n m k (omega arith) (omega arith) (omega arith) (omega arith) g.1 in let s = ap (λ x. x * 3 ^ n) g.0 in omega arith

-- it falls along graded order
abbrev rank : ℕ → Exponents → ℕ
rank n m = (2 - degree m) * 3 ^ n + digits n m

rank_falls : (n : ℕ) (m k : Exponents) → length m ≡ n → length k ≡ n → degree m ≤ 2 → degree k ≤ 2 → Before m k → rank n k < rank n m
rank_falls n m k l j a b (lower h) =
    let r = digits_low n k b in let s = mul_both (suc (2 - degree k)) (2 - degree m) (3 ^ n) (3 ^ n) (omega arith) (omega arith) in omega arith
rank_falls n m k l j a b (level d g) =
    let r = digits_more n m k l j a b g in let s = ap (λ x. (2 - x) * 3 ^ n) d in omega arith

abbrev Below : ℕ → ℕ → TermList → Type 0
Below n b [] = Unit {0}
Below n b (t ∷ p) = (rank n t.mono < b) × Below n b p

below_ahead : (n : ℕ) (m : Exponents) (p : TermList) → length m ≡ n → degree m ≤ 2 → Places n p → degree_of p ≤ 2 → Ahead m p → Below n (rank n m) p
below_ahead n m [] l a j b h = tt
below_ahead n m (t ∷ p) l a j b h = (rank_falls n m t.mono l j.0 a (omega arith) h.0, below_ahead n m p l a j.1 (omega arith) h.1)

below_all : (n : ℕ) (p : TermList) → degree_of p ≤ 2 → Below n (3 * 3 ^ n) p
below_all n [] b = tt
below_all n (t ∷ p) b =
    let r = digits_low n t.mono (omega arith) in let s = mul_both (2 - degree t.mono) 2 (3 ^ n) (3 ^ n) (omega arith) (omega arith) in (omega arith, below_all n p (omega arith))

weight_below : (n b : ℕ) (p : TermList) → Canonical p → Places n p → degree_of p ≤ 2 → coefs_fit p ≡ true → Below n b p → weight p ≤ most * b
weight_below n b [] c j d f h = omega arith
weight_below n b (t ∷ p) c j d f h =
    let q = and_parts (leb (unsigned_abs t.coef) most) (coefs_fit p) f in
    let a = leb-true (unsigned_abs t.coef) most q.0 in
    let r = weight_below n (rank n t.mono) p c.2 j.1 (omega arith) q.1 (below_ahead n t.mono p j.0 (omega arith) j.1 (omega arith) c.1) in
    step (unsigned_abs t.coef) (weight p) (rank n t.mono) b a r h.0
  where
    step : (x w r b : ℕ) → x ≤ most → w ≤ most * r → r < b → x + w ≤ most * b
    step x w r b a h g = omega arith

pub narrow_weight : (p : Polynomial) → IsPolynomial p → IsNormalForm p.terms → weight p.terms ≤ most * 531441
narrow_weight p k h =
    let a = weight_below p.places (3 * 3 ^ p.places) p.terms k.in_order k.padded h.low h.fits (below_all p.places p.terms h.low) in
    let b : 3 ^ p.places ≤ 3 ^ 11 = power_more 3 p.places 11 (omega arith) k.few in
    last (weight p.terms) (3 ^ p.places) a b
  where
    last : (w x : ℕ) → w ≤ most * (3 * x) → x ≤ 3 ^ 11 → w ≤ most * 531441
    last w x a b = omega arith

pub can_add : (p q : Polynomial) → q.places ≡ p.places → IsPolynomial p × IsPolynomial q → IsNormalForm p.terms × IsNormalForm q.terms → CanAdd p q
can_add p q e k h = record { same_places = e; light = (let a = narrow_weight p k.0 h.0 in let b = narrow_weight q k.1 h.1 in omega arith) }

pub can_subtract : (p q r : Polynomial) → q.places ≡ p.places → IsPolynomial p × IsPolynomial q → IsNormalForm p.terms × IsNormalForm q.terms → r ≡ negation_of q → CanAdd p r
can_subtract p q r e k h f = subst (λ x. CanAdd p x) (sym f) (record {
  same_places = e;
  light = (let a = narrow_weight p k.0 h.0 in let b = narrow_weight q k.1 h.1 in let c = weight-negated q.terms in omega arith);
})

pub can_mul : (p q : Polynomial) → q.places ≡ p.places → IsPolynomial p × IsPolynomial q → IsNormalForm p.terms × IsNormalForm q.terms → CanMul p q
can_mul p q e k h = record {
  same_places = e;
  low = (let a = h.0.low in let b = h.1.low in let d = degree-times p.terms q.terms in omega arith);
  light = (let a = narrow_weight p k.0 h.0 in let b = narrow_weight q k.1 h.1 in let c = mul_both (weight p.terms) (most * 531441) (weight q.terms) (most * 531441) a b in omega arith);
}

pub ruleset operands = (can_add, can_subtract, can_mul)
