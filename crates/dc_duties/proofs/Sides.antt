-- Results and sides.
use Rattle.std.specs.Prelude.{◌≡◌, ◌≢◌, ℕ, zero, suc, ◌<◌, ◌≤◌, true, false, eqb, List, [], ◌∷◌, length, slice_index_or, unsigned_abs, ℤ, pos, All, Result, Ok, Err, IfOk}
use Rattle.std.specs.List.{AllByRecursion}
use Rattle.std.proofs.Common.{refl, sym, ◌∙◌, ap, ap₂, subst, arith, eq-eqb, length-append}
use Rattle.std.proofs.lemmas.Bool.{ne_eqb}
use Rattle.dc_syntax.specs.declared.tree.Side.{Side}
use Rattle.dc_syntax.specs.declared.tree.Side.TheVariants.{New, Old}
use Rattle.dc_poly.specs.Terms.{TermList, Polynomial, IsPolynomial, weight}
use Rattle.dc_poly.specs.Sums.{constant, constant_of, sum_of, negation_of, plus, negated}
use Rattle.dc_poly.specs.NormalForm.{IsNormalForm}
use Rattle.dc_poly.specs.Conditions.{CanAdd}
use Rattle.dc_poly.proofs.FewTerms.{normal_light}
use Rattle.dc_poly.proofs.Sizes.{weight-constant, weight-plus, weight-negated}
use Rattle.dc_affine.specs.declared.atom.Atom.{Atom}
use Rattle.dc_system.specs.declared.edges.Edge.{Edge}
use Rattle.dc_system.specs.declared.edges.System.{System}
use Rattle.dc_system.specs.Shapes.{IsForm, IsEdge, IsWithin, IsWellFormed}
use Rattle.dc_claims.specs.Duties.{Pair, system_of, atoms_at, atoms_of, edge_at, exit_of, places_of, same_side, IsThere}
use Rattle.dc_claims.specs.declared.duty.Duty.{Duty}
use Rattle.dc_claims.specs.declared.duty.Duty.TheVariants.{Along, AtExit, AtEntry}
use Rattle.dc_affine.specs.Atoms.{IsAtom}
use Rattle.dc_poly.specs.Terms.{Exponents}
use Rattle.std.proofs.lemmas.List.{get_or_default}
use Rattle.dc_claims.specs.Parts.{when, itself, at_inputs, bound_part, part_along, part_at, part_at_entry, part_at_exit, rest_of}
use Rattle.dc_claims.specs.Plans.{IsPair, IsPlan, AreAtoms, IsCase}
use Rattle.dc_claims.proofs.Fits.{all_set, atoms_fit, few_places, pair_fits, is_edge, is_within}
use Rattle.dc_duties.specs.declared.plan.Programs.{Programs}
use Rattle.dc_duties.specs.declared.plan.SidePlan.{SidePlan}
use Rattle.dc_duties.specs.Lent.{plan_of, lent, cost_at}
use Rattle.dc_claims.specs.Blocks.{IsPart}

-- ---- results
pub ok_so : {X E : Type 0} {P Q : X → Type 0} (r : Result X E) → ((x : X) → P x → Q x) → IfOk r P → IfOk r Q
ok_so (Ok x) f h = f x h
ok_so (Err e) f h = tt

pub ok_both : {X E : Type 0} {P R Q : X → Type 0} (r : Result X E) → ((x : X) → P x → R x → Q x) → IfOk r P → IfOk r R → IfOk r Q
ok_both (Ok x) f h g = f x h g
ok_both (Err e) f h g = tt

-- ---- parts
pub part_constant : (n : ℕ) (c : ℤ) (q : Polynomial) → unsigned_abs c ≤ 1 → q ≡ constant c n → IsPolynomial q → IsPart n 1 q
part_constant n c q l e k = record {
  places = ap (λ (p : Polynomial). p.places) e;
  kind = k;
  light = (let a = ap (λ (p : Polynomial). weight p.terms) e in let b = weight-constant c n in omega arith);
}

pub wider : (n : ℕ) (q : Polynomial) → IsPart n 1 q → IsPart n 2 q
wider n q h = record { places = h.places; kind = h.kind; light = (let a = h.light in omega arith) }

pub part_at_places : (n m c : ℕ) (q : Polynomial) → n ≡ m → IsPart n c q → IsPart m c q
part_at_places n m c q e h = subst (λ i. IsPart i c q) e h

pub part_negated : (n c : ℕ) (p q : Polynomial) → IsPart n c p → q ≡ negation_of p → IsPolynomial q → IsPart n c q
part_negated n c p q h e k = record {
  places = ap (λ (p : Polynomial). p.places) e ∙ h.places;
  kind = k;
  light = (let a = ap (λ (p : Polynomial). weight p.terms) e in let b = weight-negated p.terms in let d = h.light in omega arith);
}

-- of a difference
pub can_subtract : (p q m : Polynomial) → IsPart p.places 1 p → IsPart p.places 1 q → m ≡ negation_of q → CanAdd p m
can_subtract p q m h g e = record {
  same_places = ap (λ (p : Polynomial). p.places) e ∙ g.places;
  light = (let a = ap (λ (p : Polynomial). weight p.terms) e in let b = weight-negated q.terms in let c = h.light in let d = g.light in omega arith);
}

pub difference_part : (p q m r : Polynomial) → IsPart p.places 1 p → IsPart p.places 1 q → m ≡ negation_of q → r ≡ sum_of p m → IsPolynomial r → IsPart p.places 2 r
difference_part p q m r h g e s k = record {
  places = ap (λ (p : Polynomial). p.places) s;
  kind = k;
  light = (let a = ap (λ (p : Polynomial). weight p.terms) e in let b = weight-negated q.terms in let c = h.light in let d = g.light in
      let f = ap (λ (p : Polynomial). weight p.terms) s in let i = weight-plus p.terms m.terms in omega arith);
}

pub difference_terms : (p q m r : Polynomial) → m ≡ negation_of q → r ≡ sum_of p m → r.terms ≡ plus p.terms (negated q.terms)
difference_terms p q m r e s = ap (λ (p : Polynomial). p.terms) s ∙ ap (λ (n : Polynomial). plus p.terms n.terms) e

pub form_part : (n : ℕ) (q : Polynomial) → IsForm n q → IsPart n 1 q
form_part n q h = record {
  places = h.has_places;
  kind = h.kind;
  light = (let a = normal_light q.places q.terms h.kind.few h.kind.in_order h.kind.padded h.narrow in omega arith);
}

-- ---- a location that is not, and one that is
pub when_not : (a b : ℕ) (q : TermList) → a ≢ b → [] ≡ when (eqb a b) q
when_not a b q h = ap (λ t. when t q) (sym (ne_eqb a b h))

pub when_is : (a b : ℕ) (q : TermList) → a ≡ b → q ≡ when (eqb a b) q
when_is a b q h = ap (λ t. when t q) (sym (eq-eqb a b h))

pub same_side_refl : (s : Side) → same_side s s ≡ true
same_side_refl New = refl
same_side_refl Old = refl

-- ---- systems of sides
module _ (p : Programs) where
  pub system_is : (side : Side) (q : SidePlan) → q ≡ plan_of p side → q.system.now ≡ system_of (lent p) side
  system_is New q e = ap (λ (q : SidePlan). q.system.now) e
  system_is Old q e = ap (λ (q : SidePlan). q.system.now) e

  pub atoms_are : (side : Side) (q : SidePlan) (l : ℕ) → q ≡ plan_of p side → slice_index_or q.families.now l [] ≡ atoms_at (lent p) side l
  atoms_are New q l e = ap (λ (q : SidePlan). slice_index_or q.families.now l []) e
  atoms_are Old q l e = ap (λ (q : SidePlan). slice_index_or q.families.now l []) e

  module _ (pair : IsPair (lent p)) where
    pub plan_fits : (side : Side) (q : SidePlan) → q ≡ plan_of p side → IsPlan q.system.now q.families.now
    plan_fits New q e = subst (λ (q : SidePlan). IsPlan q.system.now q.families.now) (sym e) pair.new
    plan_fits Old q e = subst (λ (q : SidePlan). IsPlan q.system.now q.families.now) (sym e) pair.old

    pub edge_kind : (side : Side) (n : ℕ) → n < length (system_of (lent p) side).edges → IsEdge (system_of (lent p) side).vars (edge_at (system_of (lent p) side) n)
    edge_kind side n l = is_edge (lent p) 0 1 (all_set (lent p)) (pair_fits (lent p) pair) side n l

    pub edge_ends : (side : Side) (n : ℕ) → n < length (system_of (lent p) side).edges → IsWithin (system_of (lent p) side).locs (edge_at (system_of (lent p) side) n)
    edge_ends side n l = is_within (lent p) 0 1 (all_set (lent p)) (pair_fits (lent p) pair) side n l

    few_in : (n l : ℕ) (xs : List (List Atom)) → AllByRecursion (AreAtoms n) xs → length (slice_index_or xs l []) ≤ 1024
    few_in n l [] h = omega arith
    few_in n zero (x ∷ xs) h = h.0.few
    few_in n (suc l) (x ∷ xs) h = few_in n l xs h.1

    pub few_atoms : (side : Side) (l : ℕ) → length (atoms_at (lent p) side l) ≤ 1024
    few_atoms New l = few_in _ l (lent p).new_atoms pair.new.each
    few_atoms Old l = few_in _ l (lent p).old_atoms pair.old.each

    few_of_case : (n l : ℕ) (xs : List (List Atom)) → AllByRecursion (IsCase n) xs → length (slice_index_or xs l []) ≤ 256
    few_of_case n l [] h = omega arith
    few_of_case n zero (x ∷ xs) h = h.0.few
    few_of_case n (suc l) (x ∷ xs) h = few_of_case n l xs h.1

    pub few_case : (l : ℕ) → length (slice_index_or (lent p).cases l []) ≤ 256
    few_case l = few_of_case _ l (lent p).cases pair.cases.each

    pub well_formed : (side : Side) → IsWellFormed (system_of (lent p) side)
    well_formed New = pair.new.system
    well_formed Old = pair.old.system

    pub one_each : (side : Side) (q : SidePlan) → q ≡ plan_of p side → length q.families.now ≡ (system_of (lent p) side).locs
    one_each side q e = let h = plan_fits side q e in h.one_each ∙ ap (λ (s : System). s.locs) (system_is side q e)

-- ---- normal forms
pub all_normal : (n : ℕ) (us : List Polynomial) → AllByRecursion (IsForm n) us → All (λ (u : Polynomial). IsNormalForm u.terms) us
all_normal n [] h k d l = absurd (omega arith)
all_normal n (u ∷ us) h zero d l = h.0.narrow
all_normal n (u ∷ us) h (suc k) d l = all_normal n us h.1 k d (omega arith)

-- ---- an element of a list that is known by its parts
pub indexed : {A : Type 0} (xs ys : List A) (i : ℕ) (x d : A) → xs ≡ ys → i < length ys → x ≡ slice_index_or xs i x → x ≡ slice_index_or ys i d
indexed xs ys i x d e l h = h ∙ ap (λ zs. slice_index_or zs i x) e ∙ get_or_default ys i x d l

-- ---- what is no part of a duty, and what is
pub entry_bound : (p : Pair) (o : Duty) (n i : ℕ) → n ≡ places_of p o → o ≡ AtEntry i → constant_of (pos 1) n ≡ bound_part p o
entry_bound p o n i e s = ap (constant_of (pos 1)) (e ∙ ap (places_of p) s) ∙ sym (ap (bound_part p) s)

pub exit_not : (side : Side) (x l : ℕ) (m : Exponents) → l ≢ x → [] ≡ part_at_exit side x l m
exit_not New x l m h = when_not l x (itself m) h
exit_not Old x l m h = ap negated (when_not l x (itself m) h)

pub entry_not : (side : Side) (params l : ℕ) (m : Exponents) → l ≢ 0 → [] ≡ part_at_entry side params l m
entry_not New params l m h = ap negated (when_not l 0 (at_inputs params m) h)
entry_not Old params l m h = when_not l 0 (at_inputs params m) h

module _ (p : Pair) (o : Duty) (own side : Side) (l : ℕ) (m : Exponents) where
  pub foreign_along : (n : ℕ) → o ≡ Along own n → same_side own side ≡ false → [] ≡ part_at p o side l m
  foreign_along n e h =
      ap (λ b. when b (part_along own (system_of p own).vars (edge_at (system_of p own) n) l m)) (sym h) ∙ sym (ap (λ o. part_at p o side l m) e)

  pub foreign_exit : o ≡ AtExit own → same_side own side ≡ false → [] ≡ part_at p o side l m
  foreign_exit e h = ap (λ b. when b (part_at_exit own (exit_of (system_of p own)) l m)) (sym h) ∙ sym (ap (λ o. part_at p o side l m) e)

  pub own_along : (n v : ℕ) (g : Edge) → o ≡ Along own n → own ≡ side → v ≡ (system_of p side).vars → g ≡ edge_at (system_of p own) n → part_along side v g l m ≡ part_at p o side l m
  own_along n v g e h s q =
      ap₂ (λ i f. part_along side i f l m) (s ∙ ap (λ w. (system_of p w).vars) (sym h)) q
      ∙ subst (λ w. part_along w (system_of p own).vars (edge_at (system_of p own) n) l m ≡ when (same_side own w) (part_along own (system_of p own).vars (edge_at (system_of p own) n) l m)) h
      (ap (λ b. when b (part_along own (system_of p own).vars (edge_at (system_of p own) n) l m)) (sym (same_side_refl own)))
      ∙ sym (ap (λ o. part_at p o side l m) e)

  pub own_exit : (s : System) → o ≡ AtExit own → own ≡ side → s ≡ system_of p own → part_at_exit side (exit_of s) l m ≡ part_at p o side l m
  own_exit s e h q =
      ap (λ z. part_at_exit side (exit_of z) l m) q
      ∙ subst (λ w. part_at_exit w (exit_of (system_of p own)) l m ≡ when (same_side own w) (part_at_exit own (exit_of (system_of p own)) l m)) h
      (ap (λ b. when b (part_at_exit own (exit_of (system_of p own)) l m)) (sym (same_side_refl own)))
      ∙ sym (ap (λ o. part_at p o side l m) e)

pub entry_part : (p : Pair) (o : Duty) (side : Side) (l n i : ℕ) (m : Exponents) → o ≡ AtEntry i → n ≡ places_of p o → part_at_entry side n l m ≡ part_at p o side l m
entry_part p o side l n i m e s = ap (λ k. part_at_entry side k l m) (s ∙ ap (places_of p) e) ∙ sym (ap (λ o. part_at p o side l m) e)

pub cost_is : (p : Pair) (o : Duty) (side : Side) (n : ℕ) (g : Edge) → o ≡ Along side n → g ≡ edge_at (system_of p side) n → cost_at side g ≡ rest_of p o
cost_is p o side n g e q = ap (cost_at side) q ∙ by side ∙ sym (ap (rest_of p) e)
  where
    by : (side : Side) → cost_at side (edge_at (system_of p side) n) ≡ rest_of p (Along side n)
    by New = refl
    by Old = refl

-- ---- atoms of duties
module _ (p : Programs) (pair : IsPair (lent p)) where
  pub params_below : (side : Side) → (lent p).new.params ≤ (system_of (lent p) side).vars
  params_below New = pair.new.system.params_first
  params_below Old = let h = pair.old.system.params_first in let e = pair.params in omega arith

  pub few_duty_places : (o : Duty) → places_of (lent p) o ≤ 11
  few_duty_places o = few_places (lent p) 0 1 (all_set (lent p)) (pair_fits (lent p) pair) o

  pub duty_atoms_fit : (o : Duty) → IsThere (lent p) o → AllByRecursion (IsAtom (places_of (lent p) o)) (atoms_of (lent p) o)
  duty_atoms_fit o h = atoms_fit (lent p) 0 1 (all_set (lent p)) (pair_fits (lent p) pair) o h

  pub few_duty_atoms : (o : Duty) → IsThere (lent p) o → length (atoms_of (lent p) o) ≤ 2048
  few_duty_atoms (Along side n) h =
      let a = length-append (atoms_at (lent p) side (edge_at (system_of (lent p) side) n).from) (edge_at (system_of (lent p) side) n).guard in
      let b = few_atoms p pair side (edge_at (system_of (lent p) side) n).from in
      let c = (edge_kind p pair side n h).few_atoms in
      omega arith
  few_duty_atoms (AtExit side) h = let b = few_atoms p pair side (exit_of (system_of (lent p) side)) in omega arith
  few_duty_atoms (AtEntry n) h = let b = few_case p pair n in omega arith
