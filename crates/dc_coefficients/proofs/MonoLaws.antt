-- The monomials of several polynomials are those that have a coefficient in one of them.
use Rattle.std.specs.Prelude.{◌≡◌, ◌⊎◌, ℕ, zero, suc, ◌<◌, Bool, true, false, cond, List, [], ◌∷◌, length, slice_index_or, All, Any, pos, ◌+ℤ◌}
use Rattle.std.specs.List.{AllByRecursion}
use Rattle.std.proofs.Common.{refl, sym, ◌∙◌, ap, subst, arith, inl, inr}
use Rattle.std.proofs.lemmas.Int.{ints}
use Rattle.std.proofs.lemmas.List.Elements.{recursion_from_All}
use Rattle.dc_math.specs.Members.{Among, head, tail, none_among}
use Rattle.dc_math.specs.OrderedLists.{Ordered, pairs_ordered}
use Rattle.dc_poly.specs.declared.monomial.Term.{Term}
use Rattle.dc_poly.specs.Terms.{Exponents, TermList, coef, same_mono, Ahead, Canonical, Before}
use Rattle.dc_poly.proofs.Graded.{Before-not}
use Rattle.dc_poly.proofs.Canon.{same_mono_refl, same_mono_is, coef_ahead}
use Rattle.dc_coefficients.specs.Monomials.{with_mono, with_monos, with_all, monos_in}
use Rattle.dc_coefficients.specs.Laws.{HasMono, SomeHas, MonosAreThose}
use Rattle.dc_coefficients.proofs.Insertions.{in-with_mono_new, in-with_mono_old, in_with_mono, ordered-with_all}
use Rattle.dc_coefficients.proofs.Walks.{coef-head, coef-other}

-- ---- of one polynomial
in-with_monos_old : (k : Exponents) (p : TermList) (ms : List Exponents) → Among k ms → Among k (with_monos p ms)
in-with_monos_old k [] ms h = h
in-with_monos_old k (t ∷ p) ms h = in-with_mono_old t.mono k (with_monos p ms) (in-with_monos_old k p ms h)

in-with_monos_new : (k : Exponents) (p : TermList) (ms : List Exponents) → HasMono k p → Among k (with_monos p ms)
in-with_monos_new k [] ms h = absurd (h refl)
in-with_monos_new k (t ∷ p) ms h = by (in-with_monos_new k p ms) (same_mono t.mono k) refl h
  where
    by : (HasMono k p → Among k (with_monos p ms)) → (b : Bool) → same_mono t.mono k ≡ b → ¬ (cond b t.coef (pos 0) +ℤ coef p k ≡ pos 0) → Among k (with_monos (t ∷ p) ms)
    by r true q h = subst (λ m. Among m (with_monos (t ∷ p) ms)) (same_mono_is t.mono k q) (in-with_mono_new t.mono (with_monos p ms))
    by r false q h = in-with_mono_old t.mono k (with_monos p ms) (r (λ e. h (omega (arith, ints))))

-- a term's monomial has its coefficient
has_head : (t : Term) (p : TermList) (k : Exponents) → Canonical (t ∷ p) → k ≡ t.mono → HasMono k (t ∷ p)
has_head t p k c e h = c.0 (sym (coef-head t p k (sym e) c.1) ∙ h)

has_rest : (t : Term) (p : TermList) (k : Exponents) → Canonical (t ∷ p) → HasMono k p → HasMono k (t ∷ p)
has_rest t p k c n h = n (sym (coef-other t p k (λ e. n (subst (λ m. coef p m ≡ pos 0) e (coef_ahead t.mono p c.1)))) ∙ h)

in_with_monos : (k : Exponents) (p : TermList) (ms : List Exponents) → Canonical p → Among k (with_monos p ms) → HasMono k p ⊎ Among k ms
in_with_monos k [] ms c h = inr h
in_with_monos k (t ∷ p) ms c h = by (in_with_monos k p ms c.2) (in_with_mono t.mono k (with_monos p ms) h)
  where
    by : (Among k (with_monos p ms) → HasMono k p ⊎ Among k ms) → (k ≡ t.mono) ⊎ Among k (with_monos p ms) → HasMono k (t ∷ p) ⊎ Among k ms
    by r (inl e) = inl (has_head t p k c e)
    by r (inr i) = elim (r i) [ inl n ↦ inl (has_rest t p k c n) | inr j ↦ inr j ]

-- ---- of several
all_in : (k : Exponents) (p : TermList) (ps : List TermList) → Among p ps → HasMono k p → Among k (monos_in ps)
all_in k p [] i h = none_among i
all_in k p (q ∷ ps) head h = in-with_monos_new k p (monos_in ps) h
all_in k p (q ∷ ps) (tail i) h = in-with_monos_old k q (monos_in ps) (all_in k p ps i h)

in_all : (k : Exponents) (ps : List TermList) → AllByRecursion Canonical ps → Among k (monos_in ps) → SomeHas k ps
in_all k [] c h = none_among h
in_all k (p ∷ ps) c h = elim (in_with_monos k p (monos_in ps) c.0 h) [ inl n ↦ (p, head, n) | inr i ↦ let r = in_all k ps c.1 i in (r.0, tail r.1, r.2) ]

pub monos_are_those : MonosAreThose
monos_are_those ps c = record {
  in_order = pairs_ordered Before (monos_in ps) (ordered-with_all ps [] tt);
  each = λ m h. all_in m h.0 ps h.1 h.2;
  only = λ m h. in_all m ps c h;
}

-- each term of the polynomials has its monomial there
terms_in-old : (p q : TermList) (ms : List Exponents) → AllByRecursion (λ (t : Term). Among t.mono ms) q → AllByRecursion (λ (t : Term). Among t.mono (with_monos p ms)) q
terms_in-old p [] ms h = tt
terms_in-old p (t ∷ q) ms h = (in-with_monos_old t.mono p ms h.0, terms_in-old p q ms h.1)

terms_in-mono : (m : Exponents) (q : TermList) (ms : List Exponents) → AllByRecursion (λ (t : Term). Among t.mono ms) q → AllByRecursion (λ (t : Term). Among t.mono (with_mono m ms)) q
terms_in-mono m [] ms h = tt
terms_in-mono m (t ∷ q) ms h = (in-with_mono_old m t.mono ms h.0, terms_in-mono m q ms h.1)

terms_in : (p : TermList) (ms : List Exponents) → AllByRecursion (λ (t : Term). Among t.mono (with_monos p ms)) p
terms_in [] ms = tt
terms_in (t ∷ p) ms = (in-with_mono_new t.mono (with_monos p ms), terms_in-mono t.mono p (with_monos p ms) (terms_in p ms))

weaker : (p : TermList) (ms : List Exponents) (qs : List TermList) → AllByRecursion (λ (q : TermList). AllByRecursion (λ (t : Term). Among t.mono ms) q) qs
    → AllByRecursion (λ (q : TermList). AllByRecursion (λ (t : Term). Among t.mono (with_monos p ms)) q) qs
weaker p ms [] h = tt
weaker p ms (q ∷ qs) h = (terms_in-old p q ms h.0, weaker p ms qs h.1)

pub all_listed : (ps : List TermList) → AllByRecursion (λ (p : TermList). AllByRecursion (λ (t : Term). Among t.mono (monos_in ps)) p) ps
all_listed [] = tt
all_listed (p ∷ ps) = (terms_in p (monos_in ps), weaker p (monos_in ps) ps (all_listed ps))

pub monos_ordered : (ps : List TermList) → Ordered Before (monos_in ps)
monos_ordered ps = ordered-with_all ps [] tt
