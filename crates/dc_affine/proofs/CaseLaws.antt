-- The atoms of facts: their order, what they say, and that they are within their sizes.
use Rattle.std.specs.Prelude.{◌≡◌, ℕ, ◌≤◌, Bool, true, false, not, ◌||◌, ltb, if◌then◌else◌, List, [], ◌∷◌, ◌++◌, map, ℤ, pos, neg_ℤ, ◌+ℤ◌, ◌-ℤ◌, unsigned_abs, Some, None, refl}
use Rattle.std.specs.List.{AllByRecursion}
use Rattle.std.specs.declared.option.Option.{Option}
use Rattle.std.specs.Option.{option_or}
use Rattle.std.proofs.Common.{sym, ◌∙◌, ap, ap₂, subst, arith, ltb-false}
use Rattle.std.proofs.lemmas.Int.{ints}
use Rattle.std.proofs.lemmas.List.{map-append}
use Rattle.std.proofs.lemmas.Bool.{and_parts}
use Rattle.dc_math.specs.Members.{each-++}
use Rattle.dc_syntax.specs.declared.tree.Expr.{Expr, Num, roll-Expr, fold-roll-Expr}
use Rattle.dc_syntax.specs.declared.tree.Expr.TheOpen as F
use Rattle.dc_syntax.specs.declared.tree.Rel.{Rel}
use Rattle.dc_syntax.specs.declared.tree.Rel.TheVariants.{Lt, Le, Gt, Ge, Eq, Ne}
use Rattle.dc_syntax.specs.declared.tree.Cond.{Cond, Cmp, Not, And, Or, Cond-F, roll-Cond, map-Cond, fold-roll-Cond}
use Rattle.dc_syntax.specs.declared.tree.Cond.TheOpen as G
use Rattle.dc_syntax.specs.Value.{State}
use Rattle.dc_syntax.specs.Trees.{EachCond}
use Rattle.dc_syntax.proofs.Inductions.{Cond-induction}
use Rattle.dc_poly.specs.Terms.{Exponents, TermList, Polynomial, polynomial, coef, degree_of}
use Rattle.dc_poly.specs.Sums.{plus, negated, zeros, constant}
use Rattle.dc_poly.specs.Affine.{units}
use Rattle.dc_poly.proofs.Values.{coef-plus, plus_is}
use Rattle.dc_poly.proofs.Same.{coef-negated}
use Rattle.dc_poly.proofs.Closed.{Canonical-negated}
use Rattle.dc_poly.proofs.Degrees.{degree-negated}
use Rattle.dc_affine.specs.declared.atom.Atom.{Atom}
use Rattle.dc_affine.specs.declared.form.FormFault.{FormFault}
use Rattle.dc_affine.specs.declared.form.FormFault.TheVariants.{NotAffine, CoefficientRange}
use Rattle.dc_poly.specs.NormalForm.{most, coefs_fit}
use Rattle.dc_affine.specs.Forms.{formed, is_below, below_step, fault_of}
use Rattle.dc_affine.specs.Table.{Fact, fact, some_of, after, crossed, falsity, relation, opposite, facts_of, facts_step}
use Rattle.dc_affine.specs.Atoms.{some_hold, IsFullAtom, AllCases, gap_of, at_least, atom_of, conjunctions_of, gap_fault, comparison_step, comparison_fault, cond_below_step, cond_is_below}
use Rattle.dc_affine.specs.Gaps.{signed_coef, gap_atom, gap_cases, combined}
use Rattle.dc_affine.specs.Laws.{told}
use Rattle.dc_affine.proofs.FormLaws.{form_proper, formed-Num, none_parts}
use Rattle.dc_affine.proofs.TableLaws.{joined, facts_tell, facts-Cmp, facts-Not, facts-And, facts-Or}
use Rattle.dc_affine.proofs.Fits.{coef_fits}
use Rattle.dc_affine.proofs.FactAtoms.{gap_canonical, IsAffineFact, all_say, all_full}

-- ---- crossed and joined lists, mapped
map-after : {A B : Type 0} (f : A → B) (x : List A) (gs : List (List A)) → map (map f) (after x gs) ≡ after (map f x) (map (map f) gs)
map-after f x [] = refl
map-after f x (g ∷ gs) = ap₂ ◌∷◌ (map-append f x g) (map-after f x gs)

map-crossed : {A B : Type 0} (f : A → B) (xs gs : List (List A)) → map (map f) (crossed xs gs) ≡ crossed (map (map f) xs) (map (map f) gs)
map-crossed f [] gs = refl
map-crossed f (x ∷ xs) gs = map-append (map f) (after x gs) (crossed xs gs) ∙ ap₂ ◌++◌ (map-after f x gs) (map-crossed f xs gs)

map-joined : (n : ℕ) (b : Bool) (x y : List (List Fact)) → map (map (atom_of n)) (joined b x y) ≡ combined b (map (map (atom_of n)) x) (map (map (atom_of n)) y)
map-joined n true x y = map-crossed (atom_of n) x y
map-joined n false x y = map-append (map (atom_of n)) x y

abbrev pub atoms : ℕ → List (List Fact) → List (List Atom)
atoms n fs = map (map (atom_of n)) fs

pub cases-Not : (n : ℕ) (c : Cond) (b : Bool) → conjunctions_of n (Not c) b ≡ conjunctions_of n c (not b)
cases-Not n c b = ap (atoms n) (facts-Not c b)

pub cases-And : (n : ℕ) (c d : Cond) (b : Bool) → conjunctions_of n (And c d) b ≡ combined (not b) (conjunctions_of n c b) (conjunctions_of n d b)
cases-And n c d b = ap (atoms n) (facts-And c d b) ∙ map-joined n (not b) (facts_of c b) (facts_of d b)

pub cases-Or : (n : ℕ) (c d : Cond) (b : Bool) → conjunctions_of n (Or c d) b ≡ combined b (conjunctions_of n c b) (conjunctions_of n d b)
cases-Or n c d b = ap (atoms n) (facts-Or c d b) ∙ map-joined n b (facts_of c b) (facts_of d b)

-- ---- the difference turned
gap_turned : (n : ℕ) (a b : Expr) → negated (gap_of n a b) ≡ gap_of n b a
gap_turned n a b =
    plus_is (formed n b).terms (negated (formed n a).terms) (negated (gap_of n a b)) (Canonical-negated (formed n a).terms (form_proper n a).in_order) (Canonical-negated (gap_of n a b) (gap_canonical n a b)) (λ u.
    let e = coef-negated (gap_of n a b) u in
    let f = coef-plus (formed n a).terms (negated (formed n b).terms) u in
    let g = coef-negated (formed n b).terms u in
    let h = coef-negated (formed n a).terms u in
    turn (coef (negated (gap_of n a b)) u) (coef (gap_of n a b) u) (coef (formed n a).terms u) (coef (formed n b).terms u) (coef (negated (formed n b).terms) u) (coef (negated (formed n a).terms) u) e f g h)
  where
    turn : (x y p q r s : ℤ) → x ≡ neg_ℤ y → y ≡ p +ℤ r → r ≡ neg_ℤ q → s ≡ neg_ℤ p → x ≡ q +ℤ s
    turn x y p q r s e f g h = omega (arith, ints)

-- ---- the atoms of a comparison, read from its difference
same_atom : (n : ℕ) (p q : TermList) (b : Bool) (k : ℕ) → ((u : Exponents) → signed_coef b p u ≡ coef q u) → gap_atom (polynomial n p) b k ≡ at_least n q k
same_atom n p q b k e = ap₂ (λ (x : ℤ) (y : List ℤ). atom x y) (ap (λ (x : ℤ). x -ℤ pos k) (e (zeros n))) (map-same (units n))
  where
    atom : ℤ → List ℤ → Atom
    atom x y = record { c0 = x; coefs = y }

    map-same : (us : List Exponents) → map (signed_coef b p) us ≡ map (coef q) us
    map-same [] = refl
    map-same (u ∷ us) = ap₂ ◌∷◌ (e u) (map-same us)

turned_atom : (n : ℕ) (a b : Expr) (k : ℕ) → gap_atom (polynomial n (gap_of n a b)) true k ≡ atom_of n (fact b a k)
turned_atom n a b k = same_atom n (gap_of n a b) (gap_of n b a) true k (λ u. sym (coef-negated (gap_of n a b) u) ∙ ap (λ p. coef p u) (gap_turned n a b))

pub gap_cases_are : (n : ℕ) (a b : Expr) (r : Rel) → gap_cases (polynomial n (gap_of n a b)) r ≡ atoms n (relation a r b)
gap_cases_are n a b Le = ap (λ x. (x ∷ []) ∷ []) (turned_atom n a b 0)
gap_cases_are n a b Lt = ap (λ x. (x ∷ []) ∷ []) (turned_atom n a b 1)
gap_cases_are n a b Ge = refl
gap_cases_are n a b Gt = refl
gap_cases_are n a b Eq = ap (λ x. (x ∷ atom_of n (fact a b 0) ∷ []) ∷ []) (turned_atom n a b 0)
gap_cases_are n a b Ne = ap (λ x. (x ∷ []) ∷ (atom_of n (fact a b 1) ∷ []) ∷ []) (turned_atom n a b 1)

pub cases-Cmp : (n : ℕ) (a : Expr) (r : Rel) (b : Expr) (negated : Bool) → conjunctions_of n (Cmp a r b) negated ≡ gap_cases (polynomial n (gap_of n a b)) (if negated then opposite r else r)
cases-Cmp n a r b t = ap (atoms n) (facts-Cmp a r b t) ∙ sym (gap_cases_are n a b (if t then opposite r else r))

-- ---- the atom that never holds
gap_of_zeros : (n : ℕ) → gap_of n (Num 0) (Num 0) ≡ []
gap_of_zeros n = ap (λ x. plus x.terms (negated x.terms)) (formed-Num n 0)

pub never_is : (n : ℕ) → gap_atom (polynomial n []) false 1 ≡ atom_of n falsity
never_is n = ap (λ p. at_least n p 1) (sym (gap_of_zeros n))

-- ---- facts whose difference is affine and within its bounds
abbrev EachAffine : ℕ → List (List Fact) → Type 0
EachAffine n = AllByRecursion (AllByRecursion (IsAffineFact n))

each_after : (n : ℕ) (f : List Fact) (gs : List (List Fact)) → AllByRecursion (IsAffineFact n) f → EachAffine n gs → EachAffine n (after f gs)
each_after n f [] h k = tt
each_after n f (g ∷ gs) h k = (each-++ (IsAffineFact n) f g h k.0, each_after n f gs h k.1)

each_crossed : (n : ℕ) (fs gs : List (List Fact)) → EachAffine n fs → EachAffine n gs → EachAffine n (crossed fs gs)
each_crossed n [] gs h k = tt
each_crossed n (f ∷ fs) gs h k = each-++ (AllByRecursion (IsAffineFact n)) (after f gs) (crossed fs gs) (each_after n f gs h.0 k) (each_crossed n fs gs h.1 k)

affine_turned : (n : ℕ) (a b : Expr) (k : ℕ) → is_below n a ≡ true → is_below n b ≡ true → degree_of (gap_of n a b) ≤ 1 → ((u : Exponents) → unsigned_abs (coef (gap_of n a b) u) ≤ most) → k ≤ 1 → IsAffineFact n (fact b a k)
affine_turned n a b k p q d f l = record {
  big_below = q;
  small_below = p;
  low = subst (λ x. degree_of x ≤ 1) (gap_turned n a b) (let e = degree-negated (gap_of n a b) in omega arith);
  small = λ u. subst (λ x. unsigned_abs (coef x u) ≤ most) (gap_turned n a b) (let e = coef-negated (gap_of n a b) u in let l = f u in omega (arith, ints));
  little = l;
}

affine_kept : (n : ℕ) (a b : Expr) (k : ℕ) → is_below n a ≡ true → is_below n b ≡ true → degree_of (gap_of n a b) ≤ 1 → ((u : Exponents) → unsigned_abs (coef (gap_of n a b) u) ≤ most) → k ≤ 1 → IsAffineFact n (fact a b k)
affine_kept n a b k p q d f l = record { big_below = p; small_below = q; low = d; small = f; little = l }

relation_affine : (n : ℕ) (a : Expr) (r : Rel) (b : Expr) → is_below n a ≡ true → is_below n b ≡ true → degree_of (gap_of n a b) ≤ 1 → ((u : Exponents) → unsigned_abs (coef (gap_of n a b) u) ≤ most) → EachAffine n (relation a r b)
relation_affine n a Le b p q d f = ((affine_turned n a b 0 p q d f (omega arith), tt), tt)
relation_affine n a Lt b p q d f = ((affine_turned n a b 1 p q d f (omega arith), tt), tt)
relation_affine n a Ge b p q d f = ((affine_kept n a b 0 p q d f (omega arith), tt), tt)
relation_affine n a Gt b p q d f = ((affine_kept n a b 1 p q d f (omega arith), tt), tt)
relation_affine n a Eq b p q d f = ((affine_turned n a b 0 p q d f (omega arith), (affine_kept n a b 0 p q d f (omega arith), tt)), tt)
relation_affine n a Ne b p q d f = ((affine_turned n a b 1 p q d f (omega arith), tt), ((affine_kept n a b 1 p q d f (omega arith), tt), tt))

pub below-Num : (n k : ℕ) → is_below n (Num k) ≡ true
unfolding roll-Expr denote.Hole.Carrier.roll
below-Num n k = fold-roll-Expr Bool (below_step n) (F.Num k)

falsity_affine : (n : ℕ) → EachAffine n ((falsity ∷ []) ∷ [])
falsity_affine n = (
  (
    record {
      big_below = below-Num n 0;
      small_below = below-Num n 0;
      low = subst (λ x. degree_of x ≤ 1) (sym (gap_of_zeros n)) (omega arith);
      small = λ u. subst (λ x. unsigned_abs (coef x u) ≤ most) (sym (gap_of_zeros n)) (omega arith);
      little = omega arith;
    },
    tt,
  ),
  tt,
)

-- ---- a condition without faults of comparisons has affine facts

gap_affine : (p : TermList) → gap_fault p ≡ None → (degree_of p ≤ 1) × (coefs_fit p ≡ true)
gap_affine p e = by (ltb 1 (degree_of p)) refl (coefs_fit p) refl e
  where
    by : (b : Bool) → ltb 1 (degree_of p) ≡ b → (t : Bool) → coefs_fit p ≡ t → (if b then Some NotAffine else (if t then None else Some CoefficientRange)) ≡ None → (degree_of p ≤ 1) × (t ≡ true)
    by true q t r e = cc
    by false q true r e = (ltb-false 1 (degree_of p) q, refl)
    by false q false r e = cc

abbrev OfAffine : ℕ → Cond → Type 0
OfAffine n c = cond_is_below n c ≡ true → comparison_fault n c ≡ None → EachAffine n (facts_of c false) × EachAffine n (facts_of c true)

affine_layer : (n : ℕ) (L : Cond-F Cond) → EachCond (OfAffine n) L → cond_below_step n (map-Cond Cond Bool (cond_is_below n) L) ≡ true → comparison_step n (map-Cond Cond _ (comparison_fault n) L) ≡ None
    → EachAffine n (facts_step (map-Cond Cond _ facts_of L) false) × EachAffine n (facts_step (map-Cond Cond _ facts_of L) true)
affine_layer n G.True h b e = ((tt, tt), falsity_affine n)
affine_layer n G.False h b e = (falsity_affine n, (tt, tt))
affine_layer n (G.Cmp x r y) h b e =
    let p = and_parts (is_below n x) (is_below n y) b in
    let g = gap_affine (gap_of n x y) (none_parts (fault_of n y) (gap_fault (gap_of n x y)) (none_parts (fault_of n x) (option_or (fault_of n y) (gap_fault (gap_of n x y))) e).1).1 in
    let f : (u : Exponents) → unsigned_abs (coef (gap_of n x y) u) ≤ most = λ u. coef_fits (gap_of n x y) u (gap_canonical n x y) g.1 in
    (relation_affine n x r y p.0 p.1 g.0 f, relation_affine n x (opposite r) y p.0 p.1 g.0 f)
affine_layer n (G.Not c) h b e = let q = h b e in (q.1, q.0)
affine_layer n (G.And c d) h b e =
    let p = and_parts (cond_is_below n c) (cond_is_below n d) b in
    let o = none_parts (comparison_fault n c) (comparison_fault n d) e in
    let q = h.0 p.0 o.0 in
    let r = h.1 p.1 o.1 in
    (each_crossed n (facts_of c false) (facts_of d false) q.0 r.0, each-++ (AllByRecursion (IsAffineFact n)) (facts_of c true) (facts_of d true) q.1 r.1)
affine_layer n (G.Or c d) h b e =
    let p = and_parts (cond_is_below n c) (cond_is_below n d) b in
    let o = none_parts (comparison_fault n c) (comparison_fault n d) e in
    let q = h.0 p.0 o.0 in
    let r = h.1 p.1 o.1 in
    (each-++ (AllByRecursion (IsAffineFact n)) (facts_of c false) (facts_of d false) q.0 r.0, each_crossed n (facts_of c true) (facts_of d true) q.1 r.1)

facts_affine : (n : ℕ) (c : Cond) → OfAffine n c
facts_affine n c = Cond-induction (OfAffine n) (λ L h b o.
    let e : facts_of (roll-Cond L) ≡ facts_step (map-Cond Cond _ facts_of L) = fold-roll-Cond (Bool → List (List Fact)) facts_step L in
    let t : cond_is_below n (roll-Cond L) ≡ cond_below_step n (map-Cond Cond Bool (cond_is_below n) L) = fold-roll-Cond Bool (cond_below_step n) L in
    let u : comparison_fault n (roll-Cond L) ≡ comparison_step n (map-Cond Cond _ (comparison_fault n) L) = fold-roll-Cond (Option FormFault) (comparison_step n) L in
    let p : _ = affine_layer n L h (sym t ∙ b) (sym u ∙ o) in
    (subst (λ f. EachAffine n (f false)) (sym e) p.0, subst (λ f. EachAffine n (f true)) (sym e) p.1)) c

pub cases_affine : (n : ℕ) (c : Cond) (negated : Bool) → cond_is_below n c ≡ true → comparison_fault n c ≡ None → EachAffine n (facts_of c negated)
cases_affine n c false b e = (facts_affine n c b e).0
cases_affine n c true b e = (facts_affine n c b e).1

-- ---- what the atoms say
some_say : (n : ℕ) (fs : List (List Fact)) (s : State) → EachAffine n fs → some_hold (atoms n fs) s ≡ some_of fs s
some_say n [] s h = refl
some_say n (f ∷ fs) s h = ap₂ ◌||◌ (all_say n f s h.0) (some_say n fs s h.1)

pub cases_tell : (n : ℕ) (c : Cond) (negated : Bool) (s : State) → cond_is_below n c ≡ true → comparison_fault n c ≡ None → some_hold (conjunctions_of n c negated) s ≡ told c negated s
cases_tell n c t s b e = some_say n (facts_of c t) s (cases_affine n c t b e) ∙ facts_tell c t s

-- ---- their sizes
each_full : (n : ℕ) (fs : List (List Fact)) → EachAffine n fs → AllCases (IsFullAtom n) (atoms n fs)
each_full n [] h = tt
each_full n (f ∷ fs) h = (all_full n f h.0, each_full n fs h.1)

pub cases_full : (n : ℕ) (c : Cond) (negated : Bool) → cond_is_below n c ≡ true → comparison_fault n c ≡ None → AllCases (IsFullAtom n) (conjunctions_of n c negated)
cases_full n c t b e = each_full n (facts_of c t) (cases_affine n c t b e)

pub never_atom : (n : ℕ) (z : Polynomial) (a : Atom) (l : List Atom) → z ≡ constant (pos 0) n → a ≡ gap_atom z false 1 → l ≡ a ∷ [] → l ≡ atom_of n falsity ∷ []
never_atom n z a l e f g = g ∙ ap (λ x. x ∷ []) (f ∙ ap (λ x. gap_atom x false 1) e ∙ never_is n)

-- ---- what the code of each arm makes
pub made-And : (n : ℕ) (x c d e f : Cond) (t : Bool) (l r w : List (List Atom)) → x ≡ And c d → e ≡ c → f ≡ d → l ≡ conjunctions_of n e t → r ≡ conjunctions_of n f t → w ≡ combined (not t) l r → w ≡ conjunctions_of n x t
made-And n x c d e f t l r w q g h i j k =
    k ∙ ap₂ (combined (not t)) (i ∙ ap (λ y. conjunctions_of n y t) g) (j ∙ ap (λ y. conjunctions_of n y t) h) ∙ sym (cases-And n c d t) ∙ ap (λ y. conjunctions_of n y t) (sym q)

pub made-Or : (n : ℕ) (x c d e f : Cond) (t : Bool) (l r w : List (List Atom)) → x ≡ Or c d → e ≡ c → f ≡ d → l ≡ conjunctions_of n e t → r ≡ conjunctions_of n f t → w ≡ combined t l r → w ≡ conjunctions_of n x t
made-Or n x c d e f t l r w q g h i j k =
    k ∙ ap₂ (combined t) (i ∙ ap (λ y. conjunctions_of n y t) g) (j ∙ ap (λ y. conjunctions_of n y t) h) ∙ sym (cases-Or n c d t) ∙ ap (λ y. conjunctions_of n y t) (sym q)

pub made-Cmp : (n : ℕ) (x : Cond) (a : Expr) (r : Rel) (b : Expr) (t : Bool) (p : Polynomial) (o : Rel) (w : List (List Atom)) → x ≡ Cmp a r b → p ≡ polynomial n (gap_of n a b) → o ≡ (if t then opposite r else r) → w ≡ gap_cases p o → w ≡ conjunctions_of n x t
made-Cmp n x a r b t p o w q e f g = g ∙ ap₂ gap_cases e f ∙ sym (cases-Cmp n a r b t) ∙ ap (λ y. conjunctions_of n y t) (sym q)

pub made_full : (n : ℕ) (c : Cond) (t : Bool) (l : List (List Atom)) → cond_is_below n c ≡ true → comparison_fault n c ≡ None → l ≡ conjunctions_of n c t → AllCases (IsFullAtom n) l
made_full n c t l b e f = subst (AllCases (IsFullAtom n)) (sym f) (cases_full n c t b e)
