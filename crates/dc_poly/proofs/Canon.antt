-- Canonical lists are equal where their coefficients are.
use Rattle.std.specs.Prelude.{◌≡◌, Bool, true, false, cond, ◌&&◌, eqb, T, [], ◌∷◌, ℤ, pos, ◌+ℤ◌, refl}
use Rattle.std.proofs.Common.{sym, ◌∙◌, ap, ap₂, subst, arith, eqb→eq}
use Rattle.std.proofs.Math.Dec.{eqb_refl}
use Rattle.std.proofs.lemmas.Int.{ints}
use Rattle.dc_poly.specs.declared.monomial.Term.{Term}
use Rattle.dc_poly.specs.Terms.{Exponents, TermList, term, same_mono, coef, Before, Ahead, Canonical}
use Rattle.dc_poly.proofs.Graded.{Before-not, Order, before, same, after, order, Ahead-more}
use Rattle.dc_math.specs.Tests.{to_true}

pub same_mono_refl : (m : Exponents) → same_mono m m ≡ true
same_mono_refl [] = refl
same_mono_refl (e ∷ m) = rw (to_true (eqb e e) (eqb_refl e)) (same_mono_refl m)

pub same_mono_is : (m k : Exponents) → same_mono m k ≡ true → m ≡ k
same_mono_is [] [] h = refl
same_mono_is [] (f ∷ k) h = cc
same_mono_is (e ∷ m) [] h = cc
same_mono_is (e ∷ m) (f ∷ k) h = by (same_mono_is m k) (eqb e f) refl h
  where
    by : (same_mono m k ≡ true → m ≡ k) → (b : Bool) → eqb e f ≡ b → (b && same_mono m k) ≡ true → e ∷ m ≡ f ∷ k
    by r true q g = ap₂ ◌∷◌ (eqb→eq e f (subst T (sym q) tt)) (r g)
    by r false q g = cc

pub coef_ahead : (m : Exponents) (p : TermList) → Ahead m p → coef p m ≡ pos 0
coef_ahead m [] h = refl
coef_ahead m (t ∷ p) h = by (coef_ahead m p h.1) (same_mono t.mono m) refl
  where
    by : coef p m ≡ pos 0 → (b : Bool) → same_mono t.mono m ≡ b → cond b t.coef (pos 0) +ℤ coef p m ≡ pos 0
    by i true q = absurd (Before-not m (subst (λ x. Before m x) (same_mono_is t.mono m q) h.0))
    by i false q = omega (arith, ints)

coef_head : (t : Term) (p : TermList) → Ahead t.mono p → coef (t ∷ p) t.mono ≡ t.coef
coef_head t p h = rw (same_mono_refl t.mono) (let z = coef_ahead t.mono p h in omega (arith, ints))

-- the coefficients of the rest
coef_rest : (t u : Term) (p q : TermList) → Ahead t.mono p → Ahead u.mono q → t.mono ≡ u.mono → t.coef ≡ u.coef → ((m : Exponents) → coef (t ∷ p) m ≡ coef (u ∷ q) m) → (m : Exponents) → coef p m ≡ coef q m
coef_rest t u p q h k e f g m =
    let c : cond (same_mono t.mono m) t.coef (pos 0) ≡ cond (same_mono u.mono m) u.coef (pos 0) = ap₂ (λ x y. cond (same_mono x m) y (pos 0)) e f in
    let d : cond (same_mono t.mono m) t.coef (pos 0) +ℤ coef p m ≡ cond (same_mono u.mono m) u.coef (pos 0) +ℤ coef q m = g m in
    cancel _ _ _ _ c d
  where
    cancel : (x y z w : ℤ) → x ≡ y → x +ℤ z ≡ y +ℤ w → z ≡ w
    cancel x y z w h k = omega (arith, ints)

pub canonical_unique : (p q : TermList) → Canonical p → Canonical q → ((m : Exponents) → coef p m ≡ coef q m) → p ≡ q
canonical_unique [] [] h k g = refl
canonical_unique [] (u ∷ q) h k g = absurd (k.0 (sym (coef_head u q k.1) ∙ sym (g u.mono)))
canonical_unique (t ∷ p) [] h k g = absurd (h.0 (sym (coef_head t p h.1) ∙ g t.mono))
canonical_unique (t ∷ p) (u ∷ q) h k g = by (canonical_unique p q h.2 k.2) (order t.mono u.mono)
  where
    by : (((m : Exponents) → coef p m ≡ coef q m) → p ≡ q) → Order t.mono u.mono → t ∷ p ≡ u ∷ q
    by r (before b) = absurd (h.0 (sym (coef_head t p h.1) ∙ g t.mono ∙ coef_ahead t.mono (u ∷ q) (b, Ahead-more t.mono u.mono q b k.1)))
    by r (after b) = absurd (k.0 (sym (coef_head u q k.1) ∙ sym (g u.mono) ∙ coef_ahead u.mono (t ∷ p) (b, Ahead-more u.mono t.mono p b h.1)))
    by r (same e) =
        let f : t.coef ≡ u.coef = sym (coef_head t p h.1) ∙ g t.mono ∙ ap (coef (u ∷ q)) e ∙ coef_head u q k.1 in
        ap₂ ◌∷◌ (ap₂ term e f) (r (coef_rest t u p q h.1 k.1 e f g))
