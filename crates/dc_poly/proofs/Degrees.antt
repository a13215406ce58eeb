-- The degrees of results: at most the greater, the sum, or the product with the values' degree.
use Rattle.std.specs.Prelude.{◌≡◌, ℕ, zero, suc, ◌+◌, ◌*◌, ◌≤◌, max, List, [], ◌∷◌, ℤ, pos, negsuc, ◌+ℤ◌, refl}
use Rattle.std.proofs.Common.{ap, arith}
use Rattle.std.specs.declared.cmp.Ordering.{Ordering}
use Rattle.std.specs.declared.cmp.Ordering.TheVariants.{Less, Equal, Greater}
use Rattle.dc_poly.specs.Terms.{Exponents, TermList, degree, degree_of, Polynomial}
use Rattle.dc_poly.specs.Order.{graded}
use Rattle.dc_poly.specs.Sums.{with_term, insert, plus, negated, times_mono, shifted, times, zeros, unit_at, constant_of, times_power, term_at, composed}

degree-with_term : (m : Exponents) (c : ℤ) (p : TermList) → degree_of (with_term m c p) ≤ max (degree m) (degree_of p)
degree-with_term m (pos zero) p = omega arith
degree-with_term m (pos (suc n)) p = omega arith
degree-with_term m (negsuc n) p = omega arith

pub degree-insert : (m : Exponents) (c : ℤ) (p : TermList) → degree_of (insert m c p) ≤ max (degree m) (degree_of p)
degree-insert m c [] = degree-with_term m c []
degree-insert m c (t ∷ p) = by (degree-insert m c p) (graded m t.mono)
  where
    by : degree_of (insert m c p) ≤ max (degree m) (degree_of p) → (o : Ordering) → degree_of (elim o [ Less ↦ with_term m c (t ∷ p) | Equal ↦ with_term m (c +ℤ t.coef) p | Greater ↦ t ∷ insert m c p ]) ≤ max (degree m) (max (degree t.mono) (degree_of p))
    by r Less = degree-with_term m c (t ∷ p)
    by r Equal = (let e = degree-with_term m (c +ℤ t.coef) p in omega arith)
    by r Greater = omega arith

pub degree-plus : (p q : TermList) → degree_of (plus p q) ≤ max (degree_of p) (degree_of q)
degree-plus [] q = omega arith
degree-plus (t ∷ p) q = let a = degree-insert t.mono t.coef (plus p q) in let b = degree-plus p q in omega arith

pub degree-negated : (p : TermList) → degree_of (negated p) ≡ degree_of p
degree-negated [] = refl
degree-negated (t ∷ p) = ap (λ y. max (degree t.mono) y) (degree-negated p)

pub degree-times_mono : (m k : Exponents) → degree (times_mono m k) ≡ degree m + degree k
degree-times_mono [] k = omega arith
degree-times_mono (e ∷ m) [] = omega arith
degree-times_mono (e ∷ m) (f ∷ k) = let h = degree-times_mono m k in omega arith

pub degree-shifted : (m : Exponents) (c : ℤ) (p : TermList) → degree_of (shifted m c p) ≤ degree m + degree_of p
degree-shifted m c [] = omega arith
degree-shifted m c (t ∷ p) = let a = degree-times_mono m t.mono in let b = degree-shifted m c p in omega arith

pub degree-times : (p q : TermList) → degree_of (times p q) ≤ degree_of p + degree_of q
degree-times [] q = omega arith
degree-times (t ∷ p) q =
    let a = degree-plus (shifted t.mono t.coef q) (times p q) in let b = degree-shifted t.mono t.coef q in let d = degree-times p q in omega arith

pub degree-zeros : (n : ℕ) → degree (zeros n) ≡ 0
degree-zeros zero = refl
degree-zeros (suc n) = let h = degree-zeros n in omega arith

pub degree-unit_at : (n k : ℕ) → degree (unit_at n k) ≤ 1
degree-unit_at zero k = omega arith
degree-unit_at (suc n) zero = let h = degree-zeros n in omega arith
degree-unit_at (suc n) (suc k) = let h = degree-unit_at n k in omega arith

pub degree-constant : (c : ℤ) (n : ℕ) → degree_of (constant_of c n) ≡ 0
degree-constant c n = let a = degree-with_term (zeros n) c [] in let b = degree-zeros n in omega arith

-- values of degree at most d
abbrev pub AllLow : ℕ → List Polynomial → Type 0
AllLow d [] = Unit {0}
AllLow d (v ∷ vs) = (degree_of v.terms ≤ d) × AllLow d vs

pub degree-times_power : (d : ℕ) (v : TermList) (e : ℕ) (p : TermList) → degree_of v ≤ d → degree_of (times_power v e p) ≤ e * d + degree_of p
degree-times_power d v zero p h = omega arith
degree-times_power d v (suc e) p h = let a = degree-times v (times_power v e p) in let b = degree-times_power d v e p h in omega arith

pub degree-term_at : (d n : ℕ) (c : ℤ) (m : Exponents) (vs : List Polynomial) → AllLow d vs → degree_of (term_at n c m vs) ≤ degree m * d
degree-term_at d n c [] vs h = let a = degree-constant c n in omega arith
degree-term_at d n c (e ∷ m) [] h = let a = degree-times_power d [] e (term_at n c m []) (omega arith) in let b = degree-term_at d n c m [] h in omega arith
degree-term_at d n c (e ∷ m) (v ∷ vs) h = let a = degree-times_power d v.terms e (term_at n c m vs) h.0 in let b = degree-term_at d n c m vs h.1 in omega arith

mul_left : (a b d : ℕ) → a ≤ b → a * d ≤ b * d
mul_left a b d h = grind arith

pub degree-composed : (d n : ℕ) (p : TermList) (vs : List Polynomial) → AllLow d vs → degree_of (composed n p vs) ≤ degree_of p * d
degree-composed d n [] vs h = omega arith
degree-composed d n (t ∷ p) vs h =
    let a = degree-plus (term_at n t.coef t.mono vs) (composed n p vs) in
    let b = degree-term_at d n t.coef t.mono vs h in
    let k = degree-composed d n p vs h in
    let l = mul_left (degree t.mono) (max (degree t.mono) (degree_of p)) d (omega arith) in
    let o = mul_left (degree_of p) (max (degree t.mono) (degree_of p)) d (omega arith) in
    omega arith
