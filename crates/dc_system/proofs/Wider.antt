-- The form of an expression over one more place is the same form with one more exponent: it has the same faults.
use Rattle.std.specs.Prelude.{◌≡◌, ℕ, zero, suc, ◌+◌, max, Bool, true, false, ◌&&◌, ltb, leb, List, [], ◌∷◌, ◌++◌, length, ℤ, pos, ◌+ℤ◌, ◌*ℤ◌, unsigned_abs, Some, None, refl, slice_index_or}
use Rattle.std.specs.declared.option.Option.{Option}
use Rattle.std.specs.Option.{option_or}
use Rattle.std.proofs.Common.{sym, ◌∙◌, ap, ap₂, arith, inl, inr, add-one}
use Rattle.std.proofs.lemmas.Int.{ints}
use Rattle.std.proofs.lemmas.List.{length_push}
use Rattle.std.proofs.lemmas.Bool.{ltb-true, lt-ltb, and_parts, and_from}
use Rattle.dc_syntax.specs.declared.tree.Expr.{Expr, Sub, Expr-F, roll-Expr, map-Expr, fold-roll-Expr}
use Rattle.dc_syntax.specs.declared.tree.Expr.TheOpen as F
use Rattle.dc_syntax.specs.declared.tree.Cond.{Cond, Cond-F, roll-Cond, map-Cond, fold-roll-Cond}
use Rattle.dc_syntax.specs.declared.tree.Cond.TheOpen as G
use Rattle.dc_syntax.specs.Trees.{EachExpr, EachCond}
use Rattle.dc_syntax.proofs.Inductions.{Expr-induction, Cond-induction}
use Rattle.dc_poly.specs.Sums.{unit_at}
use Rattle.dc_poly.proofs.Canon.{same_mono_is}
use Rattle.dc_poly.specs.Terms.{Exponents, TermList, term, same_mono, coef, power, front, others, mono_value, value, degree, degree_of, Greater, Before, lower, level, Ahead, Canonical, Places}
use Rattle.dc_poly.proofs.Unique.{values_unique}
use Rattle.dc_affine.specs.declared.form.FormFault.{FormFault}
use Rattle.dc_affine.specs.declared.form.FormFault.TheVariants.{NoMemory}
use Rattle.dc_poly.specs.NormalForm.{most, coefs_fit}
use Rattle.dc_affine.specs.Forms.{Formed, formed, form_step, fault_of, own_fault, affine_fault, bend, is_below, below_step, IsCause}
use Rattle.dc_affine.specs.Atoms.{gap_of, gap_fault, comparison_fault, comparison_step, width_fault, dnf_fault, cond_is_below, cond_below_step}
use Rattle.dc_affine.proofs.FormLaws.{form_value, form_proper, formed-Sub}

-- ---- one more exponent, which is 0
abbrev pub wide : Exponents → Exponents
wide m = m ++ 0 ∷ []

abbrev pub widened : TermList → TermList
widened [] = []
widened (t ∷ p) = term (wide t.mono) t.coef ∷ widened p

wide_degree : (m : Exponents) → degree (wide m) ≡ degree m
wide_degree [] = refl
wide_degree (e ∷ m) = ap (λ x. e + x) (wide_degree m)

wide_greater : (m k : Exponents) → length m ≡ length k → Greater m k → Greater (wide m) (wide k)
wide_greater [] [] l h = absurd h
wide_greater [] (f ∷ k) l h = absurd (omega arith)
wide_greater (e ∷ m) [] l h = absurd h
wide_greater (e ∷ m) (f ∷ k) l (inl h) = inl h
wide_greater (e ∷ m) (f ∷ k) l (inr h) = inr (h.0, wide_greater m k (omega arith) h.1)

wide_before : (m k : Exponents) → length m ≡ length k → Before m k → Before (wide m) (wide k)
wide_before m k l (lower h) = lower (let a = wide_degree m in let b = wide_degree k in omega arith)
wide_before m k l (level d h) = level (wide_degree m ∙ d ∙ sym (wide_degree k)) (wide_greater m k l h)

wide_ahead : (n : ℕ) (m : Exponents) (p : TermList) → length m ≡ n → Places n p → Ahead m p → Ahead (wide m) (widened p)
wide_ahead n m [] l j h = tt
wide_ahead n m (t ∷ p) l j h = (wide_before m t.mono (l ∙ sym j.0) h.0, wide_ahead n m p l j.1 h.1)

wide_canonical : (n : ℕ) (p : TermList) → Places n p → Canonical p → Canonical (widened p)
wide_canonical n [] j h = tt
wide_canonical n (t ∷ p) j h = (h.0, wide_ahead n t.mono p j.0 j.1 h.1, wide_canonical n p j.1 h.2)

wide_places : (n : ℕ) (p : TermList) → Places n p → Places (n + 1) (widened p)
wide_places n [] j = tt
wide_places n (t ∷ p) j = (length_push t.mono 0 ∙ ap (λ x. x + 1) j.0, wide_places n p j.1)

wide_mono_value : (m : Exponents) (s : List ℤ) → mono_value (wide m) s ≡ mono_value m s
wide_mono_value [] s = refl
wide_mono_value (e ∷ m) s = ap (λ x. power (front s) e *ℤ x) (wide_mono_value m (others s))

wide_value : (p : TermList) (s : List ℤ) → value (widened p) s ≡ value p s
wide_value [] s = refl
wide_value (t ∷ p) s = ap₂ (λ x y. t.coef *ℤ x +ℤ y) (wide_mono_value t.mono s) (wide_value p s)

wide_degree_of : (p : TermList) → degree_of (widened p) ≡ degree_of p
wide_degree_of [] = refl
wide_degree_of (t ∷ p) = ap₂ max (wide_degree t.mono) (wide_degree_of p)

wide_fit : (p : TermList) → coefs_fit (widened p) ≡ coefs_fit p
wide_fit [] = refl
wide_fit (t ∷ p) = ap (λ b. leb (unsigned_abs t.coef) most && b) (wide_fit p)

-- the last exponent of each term is 0
abbrev exponent : Exponents → ℕ → ℕ
exponent m n = slice_index_or m n 0

pub wide_last : (n : ℕ) (m : Exponents) → length m ≡ n → exponent (wide m) n ≡ 0
wide_last zero [] l = refl
wide_last (suc n) [] l = absurd (omega arith)
wide_last zero (e ∷ m) l = absurd (omega arith)
wide_last (suc n) (e ∷ m) l = wide_last n m (omega arith)

pub unit_last : (n : ℕ) → exponent (unit_at (suc n) n) n ≡ 1
unit_last zero = refl
unit_last (suc n) = unit_last n

not_same : (n : ℕ) (m : Exponents) → length m ≡ n → (b : Bool) → same_mono (wide m) (unit_at (suc n) n) ≡ b → b ≡ false
not_same n m l true e =
    let q : wide m ≡ unit_at (suc n) n = same_mono_is (wide m) (unit_at (suc n) n) e in
    let x : exponent (wide m) n ≡ exponent (unit_at (suc n) n) n = ap (λ k. exponent k n) q in
    let a : exponent (wide m) n ≡ 0 = wide_last n m l in
    let b : exponent (unit_at (suc n) n) n ≡ 1 = unit_last n in
    absurd (omega arith)
not_same n m l false e = refl

pub wide_coef_last : (n : ℕ) (p : TermList) → Places n p → coef (widened p) (unit_at (n + 1) n) ≡ pos 0
wide_coef_last n p j = rw (add-one n) (by p j)
  where
    by : (p : TermList) → Places n p → coef (widened p) (unit_at (suc n) n) ≡ pos 0
    by [] j = refl
    by (t ∷ p) j = rw (not_same n t.mono j.0 (same_mono (wide t.mono) (unit_at (suc n) n)) refl) (let r = by p j.1 in omega (arith, ints))

-- ---- variables below n are below n + 1
lt_of : (k n : ℕ) → ltb k n ≡ true → ltb k (n + 1) ≡ true
lt_of k n h = let q = ltb-true k n h in lt-ltb k (n + 1) (omega arith)

abbrev Below : ℕ → Expr → Type 0
Below n e = is_below n e ≡ true → is_below (n + 1) e ≡ true

below_layer : (n : ℕ) (L : Expr-F Expr) → EachExpr (Below n) L → below_step n (map-Expr Expr Bool (is_below n) L) ≡ true → below_step (n + 1) (map-Expr Expr Bool (is_below (n + 1)) L) ≡ true
below_layer n (F.Num k) h b = refl
below_layer n (F.Var k) h b = lt_of k n b
below_layer n (F.Neg a) h b = h b
below_layer n (F.Add x y) h b = let p = and_parts (is_below n x) (is_below n y) b in and_from _ _ (h.0 p.0) (h.1 p.1)
below_layer n (F.Sub x y) h b = let p = and_parts (is_below n x) (is_below n y) b in and_from _ _ (h.0 p.0) (h.1 p.1)
below_layer n (F.Mul x y) h b = let p = and_parts (is_below n x) (is_below n y) b in and_from _ _ (h.0 p.0) (h.1 p.1)

pub below_wider : (n : ℕ) (e : Expr) → Below n e
below_wider n e = Expr-induction (Below n) (λ L h b.
    let f : is_below n (roll-Expr L) ≡ below_step n (map-Expr Expr Bool (is_below n) L) = fold-roll-Expr Bool (below_step n) L in
    let g : is_below (n + 1) (roll-Expr L) ≡ below_step (n + 1) (map-Expr Expr Bool (is_below (n + 1)) L) = fold-roll-Expr Bool (below_step (n + 1)) L in
    g ∙ below_layer n L h (sym f ∙ b)) e

abbrev CondBelow : ℕ → Cond → Type 0
CondBelow n c = cond_is_below n c ≡ true → cond_is_below (n + 1) c ≡ true

cond_layer : (n : ℕ) (L : Cond-F Cond) → EachCond (CondBelow n) L → cond_below_step n (map-Cond Cond Bool (cond_is_below n) L) ≡ true → cond_below_step (n + 1) (map-Cond Cond Bool (cond_is_below (n + 1)) L) ≡ true
cond_layer n G.True h b = refl
cond_layer n G.False h b = refl
cond_layer n (G.Cmp x r y) h b = let p = and_parts (is_below n x) (is_below n y) b in and_from _ _ (below_wider n x p.0) (below_wider n y p.1)
cond_layer n (G.Not c) h b = h b
cond_layer n (G.And c d) h b = let p = and_parts (cond_is_below n c) (cond_is_below n d) b in and_from _ _ (h.0 p.0) (h.1 p.1)
cond_layer n (G.Or c d) h b = let p = and_parts (cond_is_below n c) (cond_is_below n d) b in and_from _ _ (h.0 p.0) (h.1 p.1)

pub cond_below_wider : (n : ℕ) (c : Cond) → CondBelow n c
cond_below_wider n c = Cond-induction (CondBelow n) (λ L h b.
    let f : cond_is_below n (roll-Cond L) ≡ cond_below_step n (map-Cond Cond Bool (cond_is_below n) L) = fold-roll-Cond Bool (cond_below_step n) L in
    let g : cond_is_below (n + 1) (roll-Cond L) ≡ cond_below_step (n + 1) (map-Cond Cond Bool (cond_is_below (n + 1)) L) = fold-roll-Cond Bool (cond_below_step (n + 1)) L in
    g ∙ cond_layer n L h (sym f ∙ b)) c

-- ---- the form
pub form_wider : (n : ℕ) (e : Expr) → is_below n e ≡ true → (formed (n + 1) e).terms ≡ widened (formed n e).terms
form_wider n e b =
    let p = form_proper n e in
    let q = form_proper (n + 1) e in
    values_unique (n + 1) (formed (n + 1) e).terms (widened (formed n e).terms) q.in_order (wide_canonical n (formed n e).terms p.padded p.in_order) q.padded (wide_places n (formed n e).terms p.padded)
    (λ s l. form_value (n + 1) e (below_wider n e b) s ∙ sym (form_value n e b s) ∙ sym (wide_value (formed n e).terms s))

own_wider : (p : TermList) → own_fault (widened p) ≡ own_fault p
own_wider p = rw (wide_degree_of p, wide_fit p) refl

bend_wider : (p : TermList) → bend (widened p) ≡ bend p
bend_wider p = rw (wide_degree_of p) refl

gap_fault_wider : (p : TermList) → gap_fault (widened p) ≡ gap_fault p
gap_fault_wider p = rw (wide_degree_of p, wide_fit p) refl

-- ---- the first fault
abbrev SameFault : ℕ → Expr → Type 0
SameFault n e = is_below n e ≡ true → fault_of (n + 1) e ≡ fault_of n e

abbrev layer : ℕ → Expr-F Expr → Formed
layer n L = form_step n (map-Expr Expr Formed (formed n) L)

fault_layer : (n : ℕ) (L : Expr-F Expr) → EachExpr (SameFault n) L → below_step n (map-Expr Expr Bool (is_below n) L) ≡ true → (layer (n + 1) L).terms ≡ widened (layer n L).terms → (layer (n + 1) L).fault ≡ (layer n L).fault
fault_layer n (F.Num k) h b e = ap own_fault e ∙ own_wider (layer n (F.Num k)).terms
fault_layer n (F.Var k) h b e = ap own_fault e ∙ own_wider (layer n (F.Var k)).terms
fault_layer n (F.Neg a) h b e = ap₂ option_or (h b) (ap own_fault e ∙ own_wider (layer n (F.Neg a)).terms)
fault_layer n (F.Add x y) h b e = let p = and_parts (is_below n x) (is_below n y) b in ap₂ option_or (ap₂ option_or (h.0 p.0) (h.1 p.1)) (ap own_fault e ∙ own_wider (layer n (F.Add x y)).terms)
fault_layer n (F.Sub x y) h b e = let p = and_parts (is_below n x) (is_below n y) b in ap₂ option_or (ap₂ option_or (h.0 p.0) (h.1 p.1)) (ap own_fault e ∙ own_wider (layer n (F.Sub x y)).terms)
fault_layer n (F.Mul x y) h b e = let p = and_parts (is_below n x) (is_below n y) b in ap₂ option_or (ap₂ option_or (h.0 p.0) (h.1 p.1)) (ap own_fault e ∙ own_wider (layer n (F.Mul x y)).terms)

pub fault_wider : (n : ℕ) (e : Expr) → SameFault n e
fault_wider n e = Expr-induction (SameFault n) (λ L h b.
    let f : formed n (roll-Expr L) ≡ layer n L = fold-roll-Expr Formed (form_step n) L in
    let g : formed (n + 1) (roll-Expr L) ≡ layer (n + 1) L = fold-roll-Expr Formed (form_step (n + 1)) L in
    let q : is_below n (roll-Expr L) ≡ below_step n (map-Expr Expr Bool (is_below n) L) = fold-roll-Expr Bool (below_step n) L in
    ap (λ (x : Formed). x.fault) g
    ∙ fault_layer n L h (sym q ∙ b) (ap (λ (x : Formed). x.terms) (sym g) ∙ form_wider n (roll-Expr L) b ∙ ap (λ (x : Formed). widened x.terms) f)
    ∙ ap (λ (x : Formed). x.fault) (sym f)) e

pub affine_fault_wider : (n : ℕ) (e : Expr) → is_below n e ≡ true → affine_fault (n + 1) e ≡ affine_fault n e
affine_fault_wider n e b = ap₂ option_or (fault_wider n e b) (ap bend (form_wider n e b) ∙ bend_wider (formed n e).terms)

-- ---- of a condition
below-Sub : (n : ℕ) (a b : Expr) → is_below n (Sub a b) ≡ (is_below n a && is_below n b)
unfolding roll-Expr denote.Hole.Carrier.roll
below-Sub n a b = fold-roll-Expr Bool (below_step n) (F.Sub a b)

gap_is : (n : ℕ) (a b : Expr) → gap_of n a b ≡ (formed n (Sub a b)).terms
gap_is n a b = ap (λ (x : Formed). x.terms) (sym (formed-Sub n a b))

pub gap_wider : (n : ℕ) (a b : Expr) → is_below n a ≡ true → is_below n b ≡ true → gap_of (n + 1) a b ≡ widened (gap_of n a b)
gap_wider n a b p q = gap_is (n + 1) a b ∙ form_wider n (Sub a b) (below-Sub n a b ∙ and_from _ _ p q) ∙ ap widened (sym (gap_is n a b))

abbrev SameGaps : ℕ → Cond → Type 0
SameGaps n c = cond_is_below n c ≡ true → comparison_fault (n + 1) c ≡ comparison_fault n c

gaps_layer : (n : ℕ) (L : Cond-F Cond) → EachCond (SameGaps n) L → cond_below_step n (map-Cond Cond Bool (cond_is_below n) L) ≡ true → comparison_step (n + 1) (map-Cond Cond _ (comparison_fault (n + 1)) L) ≡ comparison_step n (map-Cond Cond _ (comparison_fault n) L)
gaps_layer n G.True h b = refl
gaps_layer n G.False h b = refl
gaps_layer n (G.Cmp x r y) h b =
    let p = and_parts (is_below n x) (is_below n y) b in
    ap₂ option_or (fault_wider n x p.0) (ap₂ option_or (fault_wider n y p.1) (ap gap_fault (gap_wider n x y p.0 p.1) ∙ gap_fault_wider (gap_of n x y)))
gaps_layer n (G.Not c) h b = h b
gaps_layer n (G.And c d) h b = let p = and_parts (cond_is_below n c) (cond_is_below n d) b in ap₂ option_or (h.0 p.0) (h.1 p.1)
gaps_layer n (G.Or c d) h b = let p = and_parts (cond_is_below n c) (cond_is_below n d) b in ap₂ option_or (h.0 p.0) (h.1 p.1)

pub comparison_wider : (n : ℕ) (c : Cond) → SameGaps n c
comparison_wider n c = Cond-induction (SameGaps n) (λ L h b.
    let f : comparison_fault n (roll-Cond L) ≡ comparison_step n (map-Cond Cond _ (comparison_fault n) L) = fold-roll-Cond (Option FormFault) (comparison_step n) L in
    let g : comparison_fault (n + 1) (roll-Cond L) ≡ comparison_step (n + 1) (map-Cond Cond _ (comparison_fault (n + 1)) L) = fold-roll-Cond (Option FormFault) (comparison_step (n + 1)) L in
    let q : cond_is_below n (roll-Cond L) ≡ cond_below_step n (map-Cond Cond Bool (cond_is_below n) L) = fold-roll-Cond Bool (cond_below_step n) L in
    g ∙ gaps_layer n L h (sym q ∙ b) ∙ sym f) c

pub dnf_wider : (n : ℕ) (c : Cond) (t : Bool) → cond_is_below n c ≡ true → dnf_fault (n + 1) c t ≡ dnf_fault n c t
dnf_wider n c t b = ap (λ x. option_or x (width_fault c t)) (comparison_wider n c b)

-- ---- a fault of the wider form is want of memory
only_memory : (f : FormFault) (o p : Option FormFault) → o ≡ p → p ≡ None → IsCause f o → f ≡ NoMemory
only_memory f o p e n (inl m) = m
only_memory f o p e n (inr m) = let q : Some f ≡ None = sym m ∙ e ∙ n in cc

pub form_cause : (n : ℕ) (e : Expr) (f : FormFault) → is_below n e ≡ true → fault_of n e ≡ None → IsCause f (fault_of (n + 1) e) → f ≡ NoMemory
form_cause n e f b p c = only_memory f _ _ (fault_wider n e b) p c

pub bound_cause : (n : ℕ) (e : Expr) (f : FormFault) → is_below n e ≡ true → affine_fault n e ≡ None → IsCause f (affine_fault (n + 1) e) → f ≡ NoMemory
bound_cause n e f b p c = only_memory f _ _ (affine_fault_wider n e b) p c

pub cases_cause : (n : ℕ) (c : Cond) (t : Bool) (f : FormFault) → cond_is_below n c ≡ true → dnf_fault n c t ≡ None → IsCause f (dnf_fault (n + 1) c t) → f ≡ NoMemory
cases_cause n c t f b p k = only_memory f _ _ (dnf_wider n c t b) p k

pub ruleset widening = (below_wider, cond_below_wider, form_cause, bound_cause, cases_cause)
