-- A combination of polynomials whose coefficient is 0 at each of their monomials has no other coefficient.
use Rattle.std.specs.Prelude.{◌≡◌, ◌⊎◌, Bool, true, false, cond, List, [], ◌∷◌, map, pos, ◌+ℤ◌}
use Rattle.std.specs.List.{AllByRecursion}
use Rattle.std.specs.declared.cmp.Ordering.{Ordering}
use Rattle.std.specs.declared.cmp.Ordering.TheVariants.{Less, Equal, Greater}
use Rattle.std.proofs.Common.{refl, sym, ◌∙◌, ap₂, subst, inl, inr, ⊎_elim}
use Rattle.std.proofs.lemmas.Int.{ints}
use Rattle.std.proofs.Common.{arith}
use Rattle.dc_math.specs.Rational.{ℚ, ◌+ℚ◌, ◌*ℚ◌, of_ℤ}
use Rattle.dc_math.specs.RationalRing.{ring, reads, read_nat, same_form}
use Rattle.dc_poly.specs.Terms.{Exponents, TermList, same_mono, coef}
use Rattle.dc_poly.specs.Order.{graded, Told}
use Rattle.dc_poly.proofs.Graded.{graded_told}
use Rattle.dc_poly.proofs.Canon.{same_mono_is}
use Rattle.dc_coefficients.specs.Monomials.{with_mono, with_monos, monos_in}
use Rattle.dc_poly.specs.Combinations.{Multiple, coef_of}

module _ (P : Exponents → Type 0) where
  one_listed : (m : Exponents) (ks : List Exponents) → AllByRecursion P (with_mono m ks) → P m × AllByRecursion P ks
  one_listed m [] h = (h.0, tt)
  one_listed m (k ∷ ks) h = by (one_listed m ks) (graded m k) (graded_told m k) h
    where
      by : (AllByRecursion P (with_mono m ks) → P m × AllByRecursion P ks) → (o : Ordering) → Told m k o → AllByRecursion P (elim o [ Less ↦ m ∷ k ∷ ks | Equal ↦ k ∷ ks | Greater ↦ k ∷ with_mono m ks ]) → P m × AllByRecursion P (k ∷ ks)
      by r Less t h = (h.0, h.1)
      by r Equal t h = (subst P (sym t) h.0, h)
      by r Greater t h = let s = r h.1 in (s.0, (h.0, s.1))

  -- the monomials of a polynomial, and of those after it
  terms_listed : (m : Exponents) (p : TermList) (ks : List Exponents) → AllByRecursion P (with_monos p ks) → (P m ⊎ (coef p m ≡ pos 0)) × AllByRecursion P ks
  terms_listed m [] ks h = (inr refl, h)
  terms_listed m (t ∷ p) ks h =
      let r = one_listed t.mono (with_monos p ks) h in
      let s = terms_listed m p ks r.1 in
      (⊎_elim inl (λ e. by r.0 e (same_mono t.mono m) refl) s.0, s.1)
    where
      by : P t.mono → coef p m ≡ pos 0 → (b : Bool) → same_mono t.mono m ≡ b → P m ⊎ (cond b t.coef (pos 0) +ℤ coef p m ≡ pos 0)
      by g e true q = inl (subst P (same_mono_is t.mono m q) g)
      by g e false q = inr (omega (arith, ints))

  pub listed : (m : Exponents) (ps : List TermList) → AllByRecursion P (monos_in ps) → P m ⊎ AllByRecursion (λ p. coef p m ≡ pos 0) ps
  listed m [] h = inr tt
  listed m (p ∷ ps) h = let r = terms_listed m p (monos_in ps) h in ⊎_elim inl (λ e. ⊎_elim inl (λ g. inr (e, g)) (listed m ps r.1)) r.0

-- without coefficients the sum is 0
pub no_coefficients : (m : Exponents) (cs : List Multiple) → AllByRecursion (λ p. coef p m ≡ pos 0) (map (λ (c : Multiple). c.terms) cs) → coef_of cs m ≡ of_ℤ (pos 0)
no_coefficients m [] h = refl
no_coefficients m (c ∷ cs) h = ap₂ (λ z w. c.factor *ℚ of_ℤ z +ℚ w) h.0 (no_coefficients m cs h.1) ∙ none c.factor
  where
    none : (a : ℚ) → a *ℚ of_ℤ (pos 0) +ℚ of_ℤ (pos 0) ≡ of_ℤ (pos 0)
    none a = ring (a ∷ []) (λ ρ i. simp (i, read_nat ρ, reads) (same_form _ _ _ refl))

pub all_coefficients : (cs : List Multiple) → AllByRecursion (λ m. coef_of cs m ≡ of_ℤ (pos 0)) (monos_in (map (λ (c : Multiple). c.terms) cs)) → (m : Exponents) → coef_of cs m ≡ of_ℤ (pos 0)
all_coefficients cs h m = ⊎_elim (λ e. e) (no_coefficients m cs) (listed (λ m. coef_of cs m ≡ of_ℤ (pos 0)) m (map (λ (c : Multiple). c.terms) cs) h)
