-- A condition, or its negation, is true exactly where some conjunction of its facts is.
use Rattle.std.specs.Prelude.{◌≡◌, List, [], ◌∷◌, ◌++◌, Bool, true, false, not, ◌&&◌, ◌||◌, if◌then◌else◌, T, ℤ, pos, ◌-ℤ◌, ◌≤ℤ◌, ◌<ℤ◌, int_le, int_lt, refl}
use Rattle.std.proofs.Common.{sym, ◌∙◌, ap, ap₂, subst, arith}
use Rattle.std.proofs.lemmas.Int.{ints}
use Rattle.std.specs.Cmp.{both_ways}
use Rattle.std.proofs.Math.Bool.{and_assoc, and-false}
use lib.Signed.{le_z_yes, lt_z_yes, lt_z_no}
use Rattle.dc_syntax.specs.declared.tree.Expr.{Expr}
use Rattle.dc_syntax.specs.declared.tree.Rel.{Rel}
use Rattle.dc_syntax.specs.declared.tree.Rel.TheVariants.{Lt, Le, Gt, Ge, Eq, Ne}
use Rattle.dc_syntax.specs.declared.tree.Cond.{Cond, True, False, Cmp, Not, And, Or, Cond-F, roll-Cond, map-Cond, fold-roll-Cond}
use Rattle.dc_syntax.specs.declared.tree.Cond.TheOpen as G
use Rattle.dc_syntax.specs.Value.{State, value, compared, truth, truth_step}
use Rattle.dc_syntax.specs.Trees.{EachCond}
use Rattle.dc_syntax.proofs.Inductions.{Cond-induction}
use Rattle.dc_syntax.proofs.Parts.{value-Num}
use Rattle.dc_affine.specs.Table.{Fact, fact, fact_true, all_of, some_of, after, crossed, falsity, relation, opposite, facts_of, facts_step}
use Rattle.dc_affine.specs.Laws.{told}
use Rattle.dc_math.specs.Tests.{to_true}

abbrev Conj : Type 0
Conj = List Fact

is_true : {b : Bool} → b ≡ true → T b
is_true e = subst T (sym e) tt

pub le_of : (a b : ℤ) → int_le a b ≡ true → a ≤ℤ b
le_of a b e = le_z_yes (is_true e)

lt_of : (a b : ℤ) → int_lt a b ≡ true → a <ℤ b
lt_of a b e = lt_z_yes (is_true e)

pub of_le : (a b : ℤ) → a ≤ℤ b → int_le a b ≡ true
of_le a b h = to_true (int_le a b) h.le

of_lt : (a b : ℤ) → a <ℤ b → int_lt a b ≡ true
of_lt a b h = to_true (int_lt a b) h.lt

not-not : (b : Bool) → not (not b) ≡ b
not-not true = refl
not-not false = refl

not-int_lt : (a b : ℤ) → not (int_lt a b) ≡ int_le b a
not-int_lt a b = both_ways _ _ (λ e. of_le b a (lt_z_no (is_true e))) (λ e. no (int_lt a b) refl (le_of b a e))
  where
    no : (t : Bool) → int_lt a b ≡ t → b ≤ℤ a → not t ≡ true
    no true e h = let k : a <ℤ b = lt_of a b e in absurd (omega (arith, ints))
    no false e h = refl

not-int_le : (a b : ℤ) → not (int_le a b) ≡ int_lt b a
not-int_le a b = ap not (sym (not-int_lt b a)) ∙ not-not (int_lt b a)

gap_le : (u v : ℤ) → int_le (pos 0) (v -ℤ u -ℤ pos 0) ≡ int_le u v
gap_le u v = both_ways _ _ (λ e. let h : pos 0 ≤ℤ (v -ℤ u -ℤ pos 0) = le_of _ _ e in of_le u v (omega (arith, ints))) (λ e. let h : u ≤ℤ v = le_of _ _ e in of_le (pos 0) (v -ℤ u -ℤ pos 0) (omega (arith, ints)))

gap_lt : (u v : ℤ) → int_le (pos 0) (v -ℤ u -ℤ pos 1) ≡ int_lt u v
gap_lt u v = both_ways _ _ (λ e. let h : pos 0 ≤ℤ (v -ℤ u -ℤ pos 1) = le_of _ _ e in of_lt u v (omega (arith, ints))) (λ e. let h : u <ℤ v = lt_of _ _ e in of_le (pos 0) (v -ℤ u -ℤ pos 1) (omega (arith, ints)))

single : (b : Bool) → ((b && true) || false) ≡ b
single true = refl
single false = refl

pair : (a b : Bool) → ((a && (b && true)) || false) ≡ (a && b)
pair true true = refl
pair true false = refl
pair false b = refl

either : (a b : Bool) → ((a && true) || ((b && true) || false)) ≡ (a || b)
either true b = refl
either false true = refl
either false false = refl

not-and : (a b : Bool) → not (a && b) ≡ (not b || not a)
not-and true true = refl
not-and true false = refl
not-and false true = refl
not-and false false = refl

relation_true : (a : Expr) (r : Rel) (b : Expr) (s : State) → some_of (relation a r b) s ≡ compared r (value a s) (value b s)
relation_true a Le b s = single (fact_true (fact b a 0) s) ∙ gap_le (value a s) (value b s)
relation_true a Lt b s = single (fact_true (fact b a 1) s) ∙ gap_lt (value a s) (value b s)
relation_true a Ge b s = single (fact_true (fact a b 0) s) ∙ gap_le (value b s) (value a s)
relation_true a Gt b s = single (fact_true (fact a b 1) s) ∙ gap_lt (value b s) (value a s)
relation_true a Eq b s = pair (fact_true (fact b a 0) s) (fact_true (fact a b 0) s) ∙ ap₂ ◌&&◌ (gap_le (value a s) (value b s)) (gap_le (value b s) (value a s))
relation_true a Ne b s = either (fact_true (fact b a 1) s) (fact_true (fact a b 1) s) ∙ ap₂ ◌||◌ (gap_lt (value a s) (value b s) ∙ sym (not-int_le (value b s) (value a s))) (gap_lt (value b s) (value a s) ∙ sym (not-int_le (value a s) (value b s))) ∙ sym (not-and (int_le (value a s) (value b s)) (int_le (value b s) (value a s)))

opposite_not : (r : Rel) (u v : ℤ) → compared (opposite r) u v ≡ not (compared r u v)
opposite_not Le u v = sym (not-int_le u v)
opposite_not Lt u v = sym (not-int_lt u v)
opposite_not Ge u v = sym (not-int_le v u)
opposite_not Gt u v = sym (not-int_lt v u)
opposite_not Eq u v = refl
opposite_not Ne u v = sym (not-not (int_le u v && int_le v u))

or_assoc : (a b c : Bool) → ((a || b) || c) ≡ (a || (b || c))
or_assoc true b c = refl
or_assoc false b c = refl

and-or : (a b c : Bool) → (a && (b || c)) ≡ ((a && b) || (a && c))
and-or true b c = refl
and-or false b c = refl

or-and : (a b c : Bool) → ((a || b) && c) ≡ ((a && c) || (b && c))
or-and true true true = refl
or-and true true false = refl
or-and true false true = refl
or-and true false false = refl
or-and false b c = refl

all_of-++ : (f g : Conj) (s : State) → all_of (f ++ g) s ≡ (all_of f s && all_of g s)
all_of-++ [] g s = refl
all_of-++ (x ∷ f) g s = ap (λ b. fact_true x s && b) (all_of-++ f g s) ∙ sym (and_assoc (fact_true x s) (all_of f s) (all_of g s))

some_of-++ : (a b : List Conj) (s : State) → some_of (a ++ b) s ≡ (some_of a s || some_of b s)
some_of-++ [] b s = refl
some_of-++ (f ∷ a) b s = ap (λ x. all_of f s || x) (some_of-++ a b s) ∙ sym (or_assoc (all_of f s) (some_of a s) (some_of b s))

some_of-after : (f : Conj) (gs : List Conj) (s : State) → some_of (after f gs) s ≡ (all_of f s && some_of gs s)
some_of-after f [] s = sym (and-false (all_of f s))
some_of-after f (g ∷ gs) s = ap₂ ◌||◌ (all_of-++ f g s) (some_of-after f gs s) ∙ sym (and-or (all_of f s) (all_of g s) (some_of gs s))

some_of-crossed : (fs gs : List Conj) (s : State) → some_of (crossed fs gs) s ≡ (some_of fs s && some_of gs s)
some_of-crossed [] gs s = refl
some_of-crossed (f ∷ fs) gs s = some_of-++ (after f gs) (crossed fs gs) s ∙ ap₂ ◌||◌ (some_of-after f gs s) (some_of-crossed fs gs s) ∙ sym (or-and (all_of f s) (some_of fs s) (some_of gs s))

falsity_false : (s : State) → some_of ((falsity ∷ []) ∷ []) s ≡ false
falsity_false s = single (fact_true falsity s) ∙ ap₂ (λ a b. int_le (pos 0) (a -ℤ b -ℤ pos 1)) (value-Num 0 s) (value-Num 0 s)

-- ---- the facts of each condition, by those of its parts
pub facts-True : (negated : Bool) → facts_of True negated ≡ (if negated then (falsity ∷ []) ∷ [] else [] ∷ [])
unfolding roll-Cond denote.Hole.Carrier.roll
facts-True true = ap (λ f. f true) (fold-roll-Cond (Bool → List Conj) facts_step G.True)
facts-True false = ap (λ f. f false) (fold-roll-Cond (Bool → List Conj) facts_step G.True)

pub facts-False : (negated : Bool) → facts_of False negated ≡ (if negated then [] ∷ [] else (falsity ∷ []) ∷ [])
unfolding roll-Cond denote.Hole.Carrier.roll
facts-False true = ap (λ f. f true) (fold-roll-Cond (Bool → List Conj) facts_step G.False)
facts-False false = ap (λ f. f false) (fold-roll-Cond (Bool → List Conj) facts_step G.False)

pub facts-Cmp : (a : Expr) (r : Rel) (b : Expr) (negated : Bool) → facts_of (Cmp a r b) negated ≡ relation a (if negated then opposite r else r) b
unfolding roll-Cond denote.Hole.Carrier.roll
facts-Cmp a r b true = ap (λ f. f true) (fold-roll-Cond (Bool → List Conj) facts_step (G.Cmp a r b))
facts-Cmp a r b false = ap (λ f. f false) (fold-roll-Cond (Bool → List Conj) facts_step (G.Cmp a r b))

pub facts-Not : (c : Cond) (negated : Bool) → facts_of (Not c) negated ≡ facts_of c (not negated)
unfolding roll-Cond denote.Hole.Carrier.roll
facts-Not c negated = ap (λ f. f negated) (fold-roll-Cond (Bool → List Conj) facts_step (G.Not c))

-- crossed, or one after the other
abbrev pub joined : Bool → List Conj → List Conj → List Conj
joined true f g = crossed f g
joined false f g = f ++ g

pub facts-And : (c d : Cond) (negated : Bool) → facts_of (And c d) negated ≡ joined (not negated) (facts_of c negated) (facts_of d negated)
unfolding roll-Cond denote.Hole.Carrier.roll
facts-And c d true = ap (λ f. f true) (fold-roll-Cond (Bool → List Conj) facts_step (G.And c d))
facts-And c d false = ap (λ f. f false) (fold-roll-Cond (Bool → List Conj) facts_step (G.And c d))

pub facts-Or : (c d : Cond) (negated : Bool) → facts_of (Or c d) negated ≡ joined negated (facts_of c negated) (facts_of d negated)
unfolding roll-Cond denote.Hole.Carrier.roll
facts-Or c d true = ap (λ f. f true) (fold-roll-Cond (Bool → List Conj) facts_step (G.Or c d))
facts-Or c d false = ap (λ f. f false) (fold-roll-Cond (Bool → List Conj) facts_step (G.Or c d))

-- ---- the law, by induction over the condition
not-or : (a b : Bool) → not (a || b) ≡ (not a && not b)
not-or true b = refl
not-or false b = refl

not-and' : (a b : Bool) → not (a && b) ≡ (not a || not b)
not-and' true b = refl
not-and' false b = refl

abbrev Tells : Cond → Type 0
Tells c = (s : State) → (some_of (facts_of c false) s ≡ truth c s) × (some_of (facts_of c true) s ≡ not (truth c s))

at_layer : (L : Cond-F Cond) → EachCond Tells L → (s : State) → (some_of (facts_step (map-Cond Cond _ facts_of L) false) s ≡ truth_step (map-Cond Cond _ truth L) s) × (some_of (facts_step (map-Cond Cond _ facts_of L) true) s ≡ not (truth_step (map-Cond Cond _ truth L) s))
at_layer G.True h s = (refl, falsity_false s)
at_layer G.False h s = (falsity_false s, refl)
at_layer (G.Cmp a r b) h s = (relation_true a r b s, relation_true a (opposite r) b s ∙ opposite_not r (value a s) (value b s))
at_layer (G.Not c) h s = ((h s).1, (h s).0 ∙ sym (not-not (truth c s)))
at_layer (G.And c d) h s =
    (some_of-crossed (facts_of c false) (facts_of d false) s ∙ ap₂ ◌&&◌ (h.0 s).0 (h.1 s).0, some_of-++ (facts_of c true) (facts_of d true) s ∙ ap₂ ◌||◌ (h.0 s).1 (h.1 s).1 ∙ sym (not-and' (truth c s) (truth d s)))
at_layer (G.Or c d) h s =
    (some_of-++ (facts_of c false) (facts_of d false) s ∙ ap₂ ◌||◌ (h.0 s).0 (h.1 s).0, some_of-crossed (facts_of c true) (facts_of d true) s ∙ ap₂ ◌&&◌ (h.0 s).1 (h.1 s).1 ∙ sym (not-or (truth c s) (truth d s)))

tells : (c : Cond) → Tells c
tells c = Cond-induction Tells (λ L h s.
    let e : facts_of (roll-Cond L) ≡ facts_step (map-Cond Cond _ facts_of L) = fold-roll-Cond (Bool → List Conj) facts_step L in
    let t : truth (roll-Cond L) ≡ truth_step (map-Cond Cond _ truth L) = fold-roll-Cond (State → Bool) truth_step L in
    let p : _ = at_layer L h s in
    (ap (λ f. some_of (f false) s) e ∙ p.0 ∙ sym (ap (λ f. f s) t), ap (λ f. some_of (f true) s) e ∙ p.1 ∙ sym (ap (λ f. not (f s)) t))) c

pub facts_tell : (c : Cond) (negated : Bool) (s : State) → some_of (facts_of c negated) s ≡ told c negated s
facts_tell c false s = (tells c s).0
facts_tell c true s = (tells c s).1
