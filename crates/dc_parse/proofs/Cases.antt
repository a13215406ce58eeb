-- How many conjunctions a condition has, and how long they are.
use Rattle.std.proofs.Common.{◌≡◌, ℕ, suc, ◌+◌, ◌*◌, ◌<◌, ◌≤◌, Bool, true, false, not, ltb, List, [], ◌∷◌, ◌++◌, length, map, refl, sym, ap, ◌∙◌, subst, arith, length-append, Some, None, if◌then◌else◌}
use Rattle.std.proofs.lemmas.Bool.Decides.{nat_tests}
use Rattle.std.proofs.lemmas.List.{length-map}
use Rattle.std.specs.declared.option.Option.{Option}
use Rattle.std.specs.Option.{option_or}
use Rattle.dc_syntax.specs.declared.tree.Expr.{Expr}
use Rattle.dc_syntax.specs.declared.tree.Rel.{Rel}
use Rattle.dc_syntax.specs.declared.tree.Rel.TheVariants as r
use Rattle.dc_syntax.specs.declared.tree.Cond.{Cond, Cond-F, roll-Cond, map-Cond, fold-roll-Cond}
use Rattle.dc_syntax.specs.declared.tree.Cond.TheOpen as G
use Rattle.dc_syntax.specs.Trees.{EachCond}
use Rattle.dc_syntax.proofs.Inductions.{Cond-induction}
use Rattle.dc_affine.specs.declared.atom.Atom.{Atom}
use Rattle.dc_affine.specs.declared.form.FormFault.{FormFault}
use Rattle.dc_affine.specs.declared.form.FormFault.TheVariants.{ConditionTooWide}
use Rattle.dc_affine.specs.Atoms.{atom_of, conjunctions_of, comparison_fault, width_fault, dnf_fault, AllCases, IsFullAtom}
use Rattle.dc_affine.specs.Table.{Fact, after, crossed, relation, opposite, facts_of, facts_step}
use Rattle.dc_program.specs.Limits.{operators, cond_operators, cond_operators_step}
use Rattle.dc_program.specs.Programs.{AllShort, IsCondition}

-- ---- lengths of lists of conjunctions

longer : {A : Type 0} (m n : ℕ) (fs : List (List A)) → m ≤ n → AllShort m fs → AllShort n fs
longer m n [] l h = tt
longer m n (f ∷ fs) l h = (omega (arith, h.0), longer m n fs l h.1)

short_both : {A : Type 0} (n : ℕ) (fs gs : List (List A)) → AllShort n fs → AllShort n gs → AllShort n (fs ++ gs)
short_both n [] gs h g = g
short_both n (f ∷ fs) gs h g = (h.0, short_both n fs gs h.1 g)

short_after : {A : Type 0} (m n : ℕ) (f : List A) (gs : List (List A)) → length f ≤ m → AllShort n gs → AllShort (m + n) (after f gs)
short_after m n f [] l h = tt
short_after m n f (g ∷ gs) l h = (omega (arith, length-append f g, h.0), short_after m n f gs l h.1)

short_crossed : {A : Type 0} (m n : ℕ) (fs gs : List (List A)) → AllShort m fs → AllShort n gs → AllShort (m + n) (crossed fs gs)
short_crossed m n [] gs h g = tt
short_crossed m n (f ∷ fs) gs h g = short_both (m + n) (after f gs) (crossed fs gs) (short_after m n f gs h.0 g) (short_crossed m n fs gs h.1 g)

short_map : {A B : Type 0} (n : ℕ) (f : A → B) (fs : List (List A)) → AllShort n fs → AllShort n (map (map f) fs)
short_map n f [] h = tt
short_map n f (g ∷ fs) h = (omega (arith, h.0, length-map g f), short_map n f fs h.1)

some_both : {A : Type 0} (fs gs : List A) → 1 ≤ length fs → 1 ≤ length (fs ++ gs)
some_both fs gs h = omega (arith, length-append fs gs)

some_crossed : {A : Type 0} (fs gs : List (List A)) → 1 ≤ length fs → 1 ≤ length gs → 1 ≤ length (crossed fs gs)
some_crossed [] gs h g = absurd (omega arith)
some_crossed (f ∷ fs) [] h g = absurd (omega arith)
some_crossed (f ∷ fs) (x ∷ gs) h g = omega arith

-- ---- conditions: at most two atoms for each comparison, of which there is one more than operators at most

pub record Sized (n : ℕ) (fs : List (List Fact)) : Type 0 where
  pub short : AllShort (2 * (n + 1)) fs
  pub some : 1 ≤ length fs

sized_relation : (n : ℕ) (a : Expr) (q : Rel) (b : Expr) → Sized n (relation a q b)
sized_relation n a r.Lt b = record { short = (omega arith, tt); some = omega arith }
sized_relation n a r.Le b = record { short = (omega arith, tt); some = omega arith }
sized_relation n a r.Gt b = record { short = (omega arith, tt); some = omega arith }
sized_relation n a r.Ge b = record { short = (omega arith, tt); some = omega arith }
sized_relation n a r.Eq b = record { short = (omega arith, tt); some = omega arith }
sized_relation n a r.Ne b = record { short = (omega arith, (omega arith, tt)); some = omega arith }

sized_joined : (m n : ℕ) (fs gs : List (List Fact)) → Sized m fs → Sized n gs → Sized (m + (1 + n)) (fs ++ gs)
sized_joined m n fs gs f g = record {
  short = short_both _ fs gs (longer _ _ fs (omega arith) f.short) (longer _ _ gs (omega arith) g.short);
  some = some_both fs gs f.some;
}

sized_crossed : (m n : ℕ) (fs gs : List (List Fact)) → Sized m fs → Sized n gs → Sized (m + (1 + n)) (crossed fs gs)
sized_crossed m n fs gs f g = record {
  short = longer _ _ (crossed fs gs) (omega arith) (short_crossed _ _ fs gs f.short g.short);
  some = some_crossed fs gs f.some g.some;
}

abbrev IsSized : Cond → Type 0
IsSized c = (negated : Bool) → Sized (cond_operators c) (facts_of c negated)

sized_layer : (L : Cond-F Cond) → EachCond IsSized L → (negated : Bool) → Sized (cond_operators_step (map-Cond Cond ℕ cond_operators L)) (facts_step (map-Cond Cond (Bool → List (List Fact)) facts_of L) negated)
sized_layer G.True h false = record { short = (omega arith, tt); some = omega arith }
sized_layer G.True h true = record { short = (omega arith, tt); some = omega arith }
sized_layer G.False h false = record { short = (omega arith, tt); some = omega arith }
sized_layer G.False h true = record { short = (omega arith, tt); some = omega arith }
sized_layer (G.Cmp a q b) h false = sized_relation (operators a + operators b) a q b
sized_layer (G.Cmp a q b) h true = sized_relation (operators a + operators b) a (opposite q) b
sized_layer (G.Not c) h negated = let s = h (not negated) in record { short = longer _ _ (facts_of c (not negated)) (omega arith) s.short; some = s.some }
sized_layer (G.And c d) h false = sized_crossed (cond_operators c) (cond_operators d) _ _ (h.0 false) (h.1 false)
sized_layer (G.And c d) h true = sized_joined (cond_operators c) (cond_operators d) _ _ (h.0 true) (h.1 true)
sized_layer (G.Or c d) h false = sized_joined (cond_operators c) (cond_operators d) _ _ (h.0 false) (h.1 false)
sized_layer (G.Or c d) h true = sized_crossed (cond_operators c) (cond_operators d) _ _ (h.0 true) (h.1 true)

sized : (c : Cond) → IsSized c
sized = Cond-induction IsSized (λ L h negated.
    let f : facts_of (roll-Cond L) ≡ facts_step (map-Cond Cond (Bool → List (List Fact)) facts_of L) = fold-roll-Cond (Bool → List (List Fact)) facts_step L in
    let g : cond_operators (roll-Cond L) ≡ cond_operators_step (map-Cond Cond ℕ cond_operators L) = fold-roll-Cond ℕ cond_operators_step L in
    subst (λ z. Sized z (facts_of (roll-Cond L) negated)) (sym g) (subst (λ z. Sized (cond_operators_step (map-Cond Cond ℕ cond_operators L)) (z negated)) (sym f) (sized_layer L h negated)))

none_second : (d u : Option FormFault) → option_or d u ≡ None → u ≡ None
none_second None u h = h
none_second (Some f) u h = absurd cc

not_wider : (n : ℕ) → (if ltb 64 n then Some ConditionTooWide else None) ≡ None → n ≤ 64
not_wider n h = go (ltb 64 n) refl h
  where
    less : ltb 64 n ≡ false → n ≤ 64
    less e = grind (arith, nat_tests)

    go : (b : Bool) → ltb 64 n ≡ b → (if b then Some ConditionTooWide else None) ≡ None → n ≤ 64
    go true e g = absurd cc
    go false e g = less e

pub condition_meets : (n : ℕ) (c : Cond) (cases : List (List Atom)) → cond_operators c ≤ 64 → dnf_fault n c false ≡ None → cases ≡ conjunctions_of n c false → AllCases (IsFullAtom n) cases → IsCondition n cases
condition_meets n c cases o d e a =
    let s : Sized (cond_operators c) (facts_of c false) = sized c false in
    let l : length cases ≡ length (facts_of c false) = ap length e ∙ length-map (facts_of c false) (map (atom_of n)) in
    let w : length (facts_of c false) ≤ 64 = not_wider _ (none_second (comparison_fault n c) (width_fault c false) d) in
    record {
      some = omega (arith, s.some);
      few = omega arith;
      short = subst (AllShort 130) (sym e) (short_map 130 (atom_of n) (facts_of c false) (longer _ _ (facts_of c false) (omega arith) s.short));
      atoms = a;
    }
