-- Sums, products and compositions of what mentions no variable at a place mention none there.
use Rattle.std.specs.Prelude.{◌≡◌, ◌⊎◌, ℕ, zero, suc, Bool, true, false, cond, List, [], ◌∷◌, ◌++◌, length, slice_index_or, ℤ, pos, negsuc, ◌+ℤ◌, ◌*ℤ◌, refl}
use Rattle.std.specs.List.{AllByRecursion}
use Rattle.std.proofs.Common.{sym, ap, subst, arith, inl, inr}
use Rattle.std.proofs.lemmas.Int.{ints}
use Rattle.std.specs.declared.cmp.Ordering.{Ordering}
use Rattle.std.specs.declared.cmp.Ordering.TheVariants.{Less, Equal, Greater}
use Rattle.dc_math.specs.WholeRing.{ring, reads, read_nat, same_form}
use Rattle.dc_poly.specs.Terms.{Exponents, TermList, same_mono, coef, Polynomial}
use Rattle.dc_poly.specs.Order.{graded}
use Rattle.dc_poly.proofs.Canon.{same_mono_is}
use Rattle.dc_poly.specs.Sums.{with_term, insert, plus, times_mono, shifted, times, zeros, constant_of, times_power, first_of, rest_of, term_at, composed}
use Rattle.dc_system.specs.Shapes.{TermsSkip, Skips}
use Rattle.dc_system.specs.Composed.{coef_at}

abbrev pub exponent : Exponents → ℕ → ℕ
exponent m n = slice_index_or m n 0

skip-with_term : (n : ℕ) (m : Exponents) (c : ℤ) (p : TermList) → exponent m n ≡ 0 → TermsSkip n p → TermsSkip n (with_term m c p)
skip-with_term n m (pos zero) p l h = h
skip-with_term n m (pos (suc k)) p l h = (l, h)
skip-with_term n m (negsuc k) p l h = (l, h)

skip-insert : (n : ℕ) (m : Exponents) (c : ℤ) (p : TermList) → exponent m n ≡ 0 → TermsSkip n p → TermsSkip n (insert m c p)
skip-insert n m c [] l h = skip-with_term n m c [] l h
skip-insert n m c (t ∷ p) l h = by (skip-insert n m c p l h.1) (graded m t.mono)
  where
    by : TermsSkip n (insert m c p) → (o : Ordering) → TermsSkip n (elim o [ Less ↦ with_term m c (t ∷ p) | Equal ↦ with_term m (c +ℤ t.coef) p | Greater ↦ t ∷ insert m c p ])
    by r Less = skip-with_term n m c (t ∷ p) l h
    by r Equal = skip-with_term n m (c +ℤ t.coef) p l h.1
    by r Greater = (h.0, r)

pub skip-plus : (n : ℕ) (p q : TermList) → TermsSkip n p → TermsSkip n q → TermsSkip n (plus p q)
skip-plus n [] q h k = k
skip-plus n (t ∷ p) q h k = skip-insert n t.mono t.coef (plus p q) h.0 (skip-plus n p q h.1 k)

times_exponent : (n : ℕ) (m k : Exponents) → exponent m n ≡ 0 → exponent k n ≡ 0 → exponent (times_mono m k) n ≡ 0
times_exponent n [] k h l = l
times_exponent zero (e ∷ m) [] h l = h
times_exponent (suc n) (e ∷ m) [] h l = h
times_exponent zero (e ∷ m) (f ∷ k) h l = omega arith
times_exponent (suc n) (e ∷ m) (f ∷ k) h l = times_exponent n m k h l

skip-shifted : (n : ℕ) (m : Exponents) (c : ℤ) (p : TermList) → exponent m n ≡ 0 → TermsSkip n p → TermsSkip n (shifted m c p)
skip-shifted n m c [] l h = tt
skip-shifted n m c (t ∷ p) l h = (times_exponent n m t.mono l h.0, skip-shifted n m c p l h.1)

skip-times : (n : ℕ) (p q : TermList) → TermsSkip n p → TermsSkip n q → TermsSkip n (times p q)
skip-times n [] q h k = tt
skip-times n (t ∷ p) q h k = skip-plus n (shifted t.mono t.coef q) (times p q) (skip-shifted n t.mono t.coef q h.0 k) (skip-times n p q h.1 k)

skip-times_power : (n : ℕ) (v : TermList) (e : ℕ) (p : TermList) → TermsSkip n v → TermsSkip n p → TermsSkip n (times_power v e p)
skip-times_power n v zero p h k = k
skip-times_power n v (suc e) p h k = skip-times n v (times_power v e p) h (skip-times_power n v e p h k)

zeros_exponent : (m n : ℕ) → exponent (zeros m) n ≡ 0
zeros_exponent zero n = refl
zeros_exponent (suc m) zero = refl
zeros_exponent (suc m) (suc n) = zeros_exponent m n

skip-constant : (n m : ℕ) (c : ℤ) → TermsSkip n (constant_of c m)
skip-constant n m c = skip-with_term n (zeros m) c [] (zeros_exponent m n) tt

-- each value that is used mentions none
abbrev Harmless : ℕ → Exponents → List Polynomial → Type 0
Harmless n [] vs = Unit {0}
Harmless n (e ∷ m) vs = ((e ≡ 0) ⊎ TermsSkip n (first_of vs)) × Harmless n m (rest_of vs)

skip-term_at : (n m : ℕ) (c : ℤ) (k : Exponents) (vs : List Polynomial) → Harmless n k vs → TermsSkip n (term_at m c k vs)
skip-term_at n m c [] vs h = skip-constant n m c
skip-term_at n m c (e ∷ k) vs h = by h.0 (skip-term_at n m c k (rest_of vs) h.1)
  where
    by : (e ≡ 0) ⊎ TermsSkip n (first_of vs) → TermsSkip n (term_at m c k (rest_of vs)) → TermsSkip n (times_power (first_of vs) e (term_at m c k (rest_of vs)))
    by (inl q) r = subst (λ i. TermsSkip n (times_power (first_of vs) i (term_at m c k (rest_of vs)))) (sym q) r
    by (inr s) r = skip-times_power n (first_of vs) e (term_at m c k (rest_of vs)) s r

harmless_nil : (n : ℕ) (m : Exponents) → Harmless n m []
harmless_nil n [] = tt
harmless_nil n (e ∷ m) = (inr tt, harmless_nil n m)

harmless : (n : ℕ) (us : List Polynomial) (q : Polynomial) (m : Exponents) → AllByRecursion (Skips n) us → exponent m (length us) ≡ 0 → Harmless n m (us ++ q ∷ [])
harmless n us q [] h k = tt
harmless n [] q (e ∷ m) h k = (inl k, harmless_nil n m)
harmless n (u ∷ us) q (e ∷ m) h k = (inr h.0, harmless n us q m h.1 k)

pub skip-composed : (n m : ℕ) (p : TermList) (us : List Polynomial) (q : Polynomial) → AllByRecursion (Skips n) us → TermsSkip (length us) p → TermsSkip n (composed m p (us ++ q ∷ []))
skip-composed n m [] us q h k = tt
skip-composed n m (t ∷ p) us q h k =
    skip-plus n (term_at m t.coef t.mono (us ++ q ∷ [])) (composed m p (us ++ q ∷ [])) (skip-term_at n m t.coef t.mono (us ++ q ∷ []) (harmless n us q t.mono h k.0)) (skip-composed n m p us q h k.1)

-- ---- the coefficient of a variable that is not mentioned
no_coef : (n : ℕ) (p : TermList) (u : Exponents) → exponent u n ≡ 1 → TermsSkip n p → coef p u ≡ pos 0
no_coef n [] u e h = refl
no_coef n (t ∷ p) u e h = by (same_mono t.mono u) refl (no_coef n p u e h.1)
  where
    by : (b : Bool) → same_mono t.mono u ≡ b → coef p u ≡ pos 0 → cond b t.coef (pos 0) +ℤ coef p u ≡ pos 0
    by true q r =
        let a : exponent t.mono n ≡ exponent u n = ap (λ k. exponent k n) (same_mono_is t.mono u q) in
        let b : exponent t.mono n ≡ 0 = h.0 in
        absurd (omega arith)
    by false q r = omega (arith, ints)

pub no_coef_at : (n : ℕ) (us : List Polynomial) (q : Polynomial) (cs : List ℤ) (u : Exponents) → exponent u n ≡ 1 → AllByRecursion (Skips n) us → slice_index_or cs (length us) (pos 0) ≡ pos 0 → coef_at cs (us ++ q ∷ []) u ≡ pos 0
no_coef_at n [] q [] u e h k = refl
no_coef_at n [] q (c ∷ cs) u e h k = by cs
  where
    gone : (x y z : ℤ) → x ≡ pos 0 → z ≡ pos 0 → x *ℤ y +ℤ z ≡ pos 0
    gone x y z a b = rw (a, b) (ring (y ∷ []) (λ ρ i. simp (i, read_nat ρ, reads) (same_form _ _ _ refl)))

    by : (cs : List ℤ) → c *ℤ coef q.terms u +ℤ coef_at cs [] u ≡ pos 0
    by [] = gone c (coef q.terms u) (pos 0) k refl
    by (d ∷ cs) = gone c (coef q.terms u) (pos 0) k refl
no_coef_at n (v ∷ us) q [] u e h k = refl
no_coef_at n (v ∷ us) q (c ∷ cs) u e h k = gone c _ _ (no_coef n v.terms u e h.0) (no_coef_at n us q cs u e h.1 k)
  where
    gone : (x y z : ℤ) → y ≡ pos 0 → z ≡ pos 0 → x *ℤ y +ℤ z ≡ pos 0
    gone x y z a b = rw (a, b) (ring (x ∷ []) (λ ρ i. simp (i, read_nat ρ, reads) (same_form _ _ _ refl)))
