-- What the functions of polynomials need: results by their terms, negation, the last term, coefficients.
use Rattle.std.specs.Prelude.{◌≡◌, ℕ, zero, suc, ◌+◌, ◌-◌, ◌<◌, ◌≤◌, Bool, true, false, cond, List, [], ◌∷◌, ◌++◌, length, get_or, drop, ℤ, pos, neg_ℤ, ◌+ℤ◌, ◌-ℤ◌, unsigned_abs, refl}
use Rattle.std.proofs.Common.{sym, ◌∙◌, ap, ap₂, subst, arith, SFits}
use Rattle.std.specs.Int.{w128}
use Rattle.std.proofs.lemmas.Int.{ints}
use Rattle.std.proofs.lemmas.List.{append_assoc, append-nil, drop_more, drop_all}
use Rattle.dc_poly.specs.declared.monomial.Term.{Term}
use Rattle.dc_poly.specs.Terms.{Exponents, TermList, term, degree, Before, lower, level, Ahead, Canonical, same_mono, coef, Places, degree_of, largest, Polynomial, polynomial, IsPolynomial}
use Rattle.dc_poly.proofs.Canon.{same_mono_refl, same_mono_is, coef_ahead}
use Rattle.dc_poly.specs.Sums.{plus, negated, times, composed, places_of, sum_of, negation_of, product_of, composition_of}
use Rattle.dc_poly.specs.Conditions.{CanSubst}
use Rattle.dc_poly.proofs.Closed.{is_composition}
use Rattle.dc_poly.proofs.Products.{fits}

-- ---- results by their terms
abbrev pub places_in : Polynomial → ℕ
places_in p = p.places

abbrev pub terms_in : Polynomial → TermList
terms_in p = p.terms

pub sum_same : (p q : Polynomial) (n : ℕ) (l r s : TermList) → n ≡ p.places → l ≡ p.terms → r ≡ q.terms → s ≡ plus l r → polynomial n s ≡ sum_of p q
sum_same p q n l r s e f g h = ap₂ polynomial e (h ∙ ap₂ plus f g)

pub product_same : (p q : Polynomial) (n : ℕ) (l r s : TermList) → n ≡ p.places → l ≡ p.terms → r ≡ q.terms → s ≡ times l r → polynomial n s ≡ product_of p q
product_same p q n l r s e f g h = ap₂ polynomial e (h ∙ ap₂ times f g)

pub negation_same : (p : Polynomial) (n : ℕ) (l s : TermList) → n ≡ p.places → l ≡ p.terms → s ≡ negated l → polynomial n s ≡ negation_of p
negation_same p n l s e f h = ap₂ polynomial e (h ∙ ap negated f)

pub composition_same : (p : Polynomial) (vs : List Polynomial) (n : ℕ) (l s : TermList) → n ≡ places_of vs → l ≡ p.terms → s ≡ composed n l vs → polynomial n s ≡ composition_of p vs
composition_same p vs n l s e f h = ap₂ polynomial e (h ∙ ap₂ (λ i t. composed i t vs) e f)

pub composition_is : (p : Polynomial) (vs : List Polynomial) (n : ℕ) (l s : TermList) → n ≡ places_of vs → l ≡ p.terms → s ≡ composed n l vs → n ≤ 11 → Places n s → CanSubst p vs → IsPolynomial (polynomial n s)
composition_is p vs n l s e f h few padded g =
    let same = composition_same p vs n l s e f h in
    subst IsPolynomial (sym same) (is_composition p vs (subst (λ i. i ≤ 11) e few) (subst (λ (q : Polynomial). Places q.places q.terms) same padded) g)

-- ---- negation
pub neg_fits : (z : ℤ) → unsigned_abs z ≤ largest → SFits w128 (pos 0 -ℤ z)
neg_fits z h = fits (pos 0 -ℤ z) (let e : unsigned_abs (pos 0 -ℤ z) ≤ unsigned_abs z = omega (arith, ints) in omega arith)

pub neg_is : (z : ℤ) → pos 0 -ℤ z ≡ neg_ℤ z
neg_is z = omega (arith, ints)

pub neg_step : (i : ℕ) (o o2 p : TermList) (t : Term) (m : Exponents) (c : ℤ) → i < length p → t ≡ get_or p i t → m ≡ t.mono → c ≡ neg_ℤ t.coef → o2 ≡ o ++ term m c ∷ []
    → o ++ negated (drop i p) ≡ negated p → o2 ++ negated (drop (i + 1) p) ≡ negated p
neg_step i o o2 p t m c h e d g k x =
    ap (λ y. y ++ negated (drop (i + 1) p)) (k ∙ ap₂ (λ a b. o ++ term a b ∷ []) d g)
    ∙ append_assoc o (term t.mono (neg_ℤ t.coef) ∷ []) (negated (drop (i + 1) p))
    ∙ ap (λ y. o ++ negated y) (sym (drop_more p i t h ∙ ap (λ y. y ∷ drop (i + 1) p) (sym e))) ∙ x

pub neg_done : (i : ℕ) (o p : TermList) → length p ≤ i → o ++ negated (drop i p) ≡ negated p → o ≡ negated p
neg_done i o p h x = sym (append-nil o) ∙ ap (λ y. o ++ negated y) (sym (drop_all i p h)) ∙ x

-- ---- the last term has the greatest degree
Before-degree : (m k : Exponents) → Before m k → degree m ≤ degree k
Before-degree m k (lower h) = omega arith
Before-degree m k (level h g) = omega arith

degree_upto : (i : ℕ) (p : TermList) (t : Term) → suc i ≡ length p → t ≡ get_or p i t → Canonical p → degree t.mono ≡ degree_of p
degree_upto i [] t e h k = absurd (omega arith)
degree_upto zero (u ∷ []) t e h k = let d : degree t.mono ≡ degree u.mono = ap (λ (y : Term). degree y.mono) h in omega arith
degree_upto zero (u ∷ v ∷ p) t e h k = absurd (omega arith)
degree_upto (suc i) (u ∷ []) t e h k = absurd (omega arith)
degree_upto (suc i) (u ∷ v ∷ p) t e h k =
    let r = degree_upto i (v ∷ p) t (omega arith) h k.2 in
    let d = Before-degree u.mono v.mono k.1.0 in
    omega arith

pub last_degree : (p : TermList) (t : Term) → 0 < length p → t ≡ get_or p (length p - 1) t → Canonical p → degree t.mono ≡ degree_of p
last_degree p t h e k = degree_upto (length p - 1) p t (omega arith) e k

-- ---- coefficients by a scan
opened : (i : ℕ) (p : TermList) (t : Term) (m : Exponents) → i < length p → t ≡ get_or p i t → coef (drop i p) m ≡ cond (same_mono t.mono m) t.coef (pos 0) +ℤ coef (drop (i + 1) p) m
opened i p t m h e = ap (λ y. coef y m) (drop_more p i t h ∙ ap (λ y. y ∷ drop (i + 1) p) (sym e))

pub coef_step : (i : ℕ) (p : TermList) (t : Term) (m : Exponents) → i < length p → t ≡ get_or p i t → ¬ (t.mono ≡ m) → coef (drop i p) m ≡ coef p m → coef (drop (i + 1) p) m ≡ coef p m
coef_step i p t m h e n k = by (same_mono t.mono m) refl (opened i p t m h e)
  where
    by : (b : Bool) → same_mono t.mono m ≡ b → coef (drop i p) m ≡ cond b t.coef (pos 0) +ℤ coef (drop (i + 1) p) m → coef (drop (i + 1) p) m ≡ coef p m
    by true q o = absurd (n (same_mono_is t.mono m q))
    by false q o = omega (arith, ints)

Canonical-drop : (i : ℕ) (p : TermList) → Canonical p → Canonical (drop i p)
Canonical-drop zero p h = h
Canonical-drop (suc i) [] h = tt
Canonical-drop (suc i) (t ∷ p) h = Canonical-drop i p h.2

pub coef_here : (i : ℕ) (p : TermList) (t : Term) (m : Exponents) → i < length p → t ≡ get_or p i t → t.mono ≡ m → Canonical p → coef (drop i p) m ≡ coef p m → t.coef ≡ coef p m
coef_here i p t m h e q k x =
    let d : Canonical (t ∷ drop (i + 1) p) = subst Canonical (drop_more p i t h ∙ ap (λ y. y ∷ drop (i + 1) p) (sym e)) (Canonical-drop i p k) in
    let z : coef (drop (i + 1) p) m ≡ pos 0 = coef_ahead m (drop (i + 1) p) (subst (λ y. Ahead y (drop (i + 1) p)) q d.1) in
    let s : same_mono t.mono m ≡ true = subst (λ y. same_mono t.mono y ≡ true) q (same_mono_refl t.mono) in
    shape (same_mono t.mono m) t.coef _ _ _ s z (opened i p t m h e) x
  where
    shape : (b : Bool) (c w y v : ℤ) → b ≡ true → w ≡ pos 0 → y ≡ cond b c (pos 0) +ℤ w → y ≡ v → c ≡ v
    shape true c w y v s z o x = omega (arith, ints)
    shape false c w y v s z o x = cc

pub coef_end : (i : ℕ) (p : TermList) (m : Exponents) → length p ≤ i → coef (drop i p) m ≡ coef p m → pos 0 ≡ coef p m
coef_end i p m h x = sym (ap (λ y. coef y m) (drop_all i p h)) ∙ x
