-- Monomials with one exponent for each of n places: kept by sum, product and composition.
use Rattle.std.specs.Prelude.{◌≡◌, ℕ, zero, suc, List, [], ◌∷◌, length, ℤ, pos, negsuc, ◌+ℤ◌, refl}
use Rattle.std.proofs.Common.{ap, arith}
use Rattle.std.specs.declared.cmp.Ordering.{Ordering}
use Rattle.std.specs.declared.cmp.Ordering.TheVariants.{Less, Equal, Greater}
use Rattle.dc_poly.specs.Terms.{Exponents, TermList, Places, Polynomial}
use Rattle.dc_poly.specs.Order.{graded}
use Rattle.dc_poly.specs.Sums.{with_term, insert, plus, negated, times_mono, shifted, times, zeros, unit_at, constant_of, variable_of, times_power, term_at, composed}

pub length-zeros : (n : ℕ) → length (zeros n) ≡ n
length-zeros zero = refl
length-zeros (suc n) = ap suc (length-zeros n)

pub length-unit_at : (n k : ℕ) → length (unit_at n k) ≡ n
length-unit_at zero k = refl
length-unit_at (suc n) zero = ap suc (length-zeros n)
length-unit_at (suc n) (suc k) = ap suc (length-unit_at n k)

Places-with_term : (n : ℕ) (m : Exponents) (c : ℤ) (p : TermList) → length m ≡ n → Places n p → Places n (with_term m c p)
Places-with_term n m (pos zero) p l h = h
Places-with_term n m (pos (suc k)) p l h = (l, h)
Places-with_term n m (negsuc k) p l h = (l, h)

pub Places-insert : (n : ℕ) (m : Exponents) (c : ℤ) (p : TermList) → length m ≡ n → Places n p → Places n (insert m c p)
Places-insert n m c [] l h = Places-with_term n m c [] l h
Places-insert n m c (t ∷ p) l h = by (Places-insert n m c p l h.1) (graded m t.mono)
  where
    by : Places n (insert m c p) → (o : Ordering) → Places n (elim o [ Less ↦ with_term m c (t ∷ p) | Equal ↦ with_term m (c +ℤ t.coef) p | Greater ↦ t ∷ insert m c p ])
    by r Less = Places-with_term n m c (t ∷ p) l h
    by r Equal = Places-with_term n m (c +ℤ t.coef) p l h.1
    by r Greater = (h.0, r)

pub Places-plus : (n : ℕ) (p q : TermList) → Places n p → Places n q → Places n (plus p q)
Places-plus n [] q h k = k
Places-plus n (t ∷ p) q h k = Places-insert n t.mono t.coef (plus p q) h.0 (Places-plus n p q h.1 k)

pub Places-negated : (n : ℕ) (p : TermList) → Places n p → Places n (negated p)
Places-negated n [] h = tt
Places-negated n (t ∷ p) h = (h.0, Places-negated n p h.1)

pub length-times : (n : ℕ) (m k : Exponents) → length m ≡ n → length k ≡ n → length (times_mono m k) ≡ n
length-times zero [] k h l = l
length-times zero (e ∷ m) k h l = absurd (omega arith)
length-times (suc n) [] k h l = l
length-times (suc n) (e ∷ m) [] h l = h
length-times (suc n) (e ∷ m) (f ∷ k) h l = ap suc (length-times n m k (omega arith) (omega arith))

pub Places-shifted : (n : ℕ) (m : Exponents) (c : ℤ) (p : TermList) → length m ≡ n → Places n p → Places n (shifted m c p)
Places-shifted n m c [] l h = tt
Places-shifted n m c (t ∷ p) l h = (length-times n m t.mono l h.0, Places-shifted n m c p l h.1)

pub Places-times : (n : ℕ) (p q : TermList) → Places n p → Places n q → Places n (times p q)
Places-times n [] q h k = tt
Places-times n (t ∷ p) q h k = Places-plus n (shifted t.mono t.coef q) (times p q) (Places-shifted n t.mono t.coef q h.0 k) (Places-times n p q h.1 k)

pub Places-constant : (c : ℤ) (n : ℕ) → Places n (constant_of c n)
Places-constant c n = Places-with_term n (zeros n) c [] (length-zeros n) tt

pub Places-variable : (k n : ℕ) → Places n (variable_of k n)
Places-variable k n = (length-unit_at n k, tt)

pub Places-times_power : (n : ℕ) (v : TermList) (e : ℕ) (p : TermList) → Places n v → Places n p → Places n (times_power v e p)
Places-times_power n v zero p h k = k
Places-times_power n v (suc e) p h k = Places-times n v (times_power v e p) h (Places-times_power n v e p h k)

-- each value has n places
abbrev pub AllPadded : ℕ → List Polynomial → Type 0
AllPadded n [] = Unit {0}
AllPadded n (v ∷ vs) = Places n v.terms × AllPadded n vs

pub Places-term_at : (n : ℕ) (c : ℤ) (m : Exponents) (vs : List Polynomial) → AllPadded n vs → Places n (term_at n c m vs)
Places-term_at n c [] vs h = Places-constant c n
Places-term_at n c (e ∷ m) [] h = Places-times_power n [] e (term_at n c m []) tt (Places-term_at n c m [] tt)
Places-term_at n c (e ∷ m) (v ∷ vs) h = Places-times_power n v.terms e (term_at n c m vs) h.0 (Places-term_at n c m vs h.1)

pub Places-composed : (n : ℕ) (p : TermList) (vs : List Polynomial) → AllPadded n vs → Places n (composed n p vs)
Places-composed n [] vs h = tt
Places-composed n (t ∷ p) vs h = Places-plus n (term_at n t.coef t.mono vs) (composed n p vs) (Places-term_at n t.coef t.mono vs h) (Places-composed n p vs h)
