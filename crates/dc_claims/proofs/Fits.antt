-- What a fitting plan gives each duty: its locations are there, its atoms are over its places, and its polynomials have its places.
use Rattle.std.specs.Prelude.{◌≡◌, ℕ, zero, suc, ◌+◌, ◌≤◌, ◌<◌, Bool, true, false, eqb, List, [], ◌∷◌, ◌++◌, map, take, drop, length, slice_index_or, pos}
use Rattle.std.specs.List.{AllByRecursion, range_with_len, list_all}
use Rattle.std.proofs.Common.{◌∙◌, ap, subst, arith, length-append}
use Rattle.std.proofs.lemmas.List.{length-take-le, length-map}
use Rattle.std.proofs.lemmas.List.Elements.{All-from_recursion}
use Rattle.dc_math.specs.Members.{each_all, each_at, each-++, each-map, each-flat_map, each-range}
use Rattle.dc_math.specs.Rational.{ℚ, neg_ℚ}
use Rattle.dc_syntax.specs.declared.tree.Side.{Side}
use Rattle.dc_syntax.specs.declared.tree.Side.TheVariants.{New, Old}
use Rattle.dc_poly.specs.Terms.{Exponents, TermList, Places, term, Polynomial, polynomial}
use Rattle.dc_poly.specs.Sums.{plus, negated}
use Rattle.dc_poly.proofs.Padded.{AllPadded, Places-plus, Places-negated, Places-constant, Places-composed}
use Rattle.dc_affine.specs.declared.atom.Atom.{Atom}
use Rattle.dc_affine.specs.Atoms.{IsAtom}
use Rattle.dc_system.specs.declared.edges.Edge.{Edge}
use Rattle.dc_system.specs.Shapes.{IsForm, IsEdge, IsWithin, IsWellFormed}
use Rattle.dc_handelman.proofs.Values.{all_products}
use Rattle.dc_poly.specs.Monomials.{IsWithin as IsMonomial}
use Rattle.dc_template.proofs.Listed.{are_monomials}
use Rattle.dc_claims.specs.Duties.{Pair, system_of, atoms_at, edge_at, no_edge, exit_of, atoms_of, places_of, IsThere, Flags}
use Rattle.dc_claims.specs.declared.duty.Duty.{Duty}
use Rattle.dc_claims.specs.declared.duty.Duty.TheVariants.{Along, AtExit, AtEntry}
use Rattle.dc_claims.specs.declared.duty.Unknown.TheVariants.{Bound, Coefficient}
use Rattle.dc_claims.specs.Claims.{monomials_at}
use Rattle.dc_claims.specs.Parts.{unknowns_at, unknowns_on, unknowns_of, when, before, behind, itself, at_inputs, monomial_at, part_of, rest_of}
use Rattle.dc_claims.specs.Problems.{products_at, product_number}
use Rattle.dc_claims.specs.Claims.{Potential, Multipliers}
use Rattle.dc_claims.specs.Plans.{IsPair, IsFit}
use Rattle.dc_claims.specs.Laws.{unknown_value}
use Rattle.dc_claims.specs.Plans.{AreAtoms, IsCase}
use Rattle.dc_poly.specs.Combinations.{Multiple, multiple, HavePlaces}
use Rattle.dc_claims.proofs.PartValues.{AreLocations}
use Rattle.dc_claims.proofs.AtDuty.{unknown_parts, rest_part, product_parts, difference}

-- ---- atoms
wider : (n : ℕ) (gs : List Atom) → AllByRecursion (IsAtom n) gs → AllByRecursion (IsAtom (n + 1)) gs
wider n [] h = tt
wider n (a ∷ gs) h = (record { few = (let l = h.0.few in omega arith); coefs_within = h.0.coefs_within; constant_within = h.0.constant_within }, wider n gs h.1)

pub atoms_in : (n l : ℕ) (xs : List (List Atom)) → AllByRecursion (AreAtoms n) xs → AllByRecursion (IsAtom n) (slice_index_or xs l [])
atoms_in n l [] h = tt
atoms_in n zero (x ∷ xs) h = h.0.within
atoms_in n (suc l) (x ∷ xs) h = atoms_in n l xs h.1

case_in : (n l : ℕ) (xs : List (List Atom)) → AllByRecursion (IsCase n) xs → AllByRecursion (IsAtom n) (slice_index_or xs l [])
case_in n l [] h = tt
case_in n zero (x ∷ xs) h = h.0.within
case_in n (suc l) (x ∷ xs) h = case_in n l xs h.1

-- ---- places
pub Places-when : (n : ℕ) (b : Bool) (q : TermList) → Places n q → Places n (when b q)
Places-when n true q h = h
Places-when n false q h = tt

pub Places-before : (n : ℕ) (m : Exponents) → length m ≡ n → Places (n + 1) (before m)
Places-before n m h = (length-append m (0 ∷ []) ∙ ap (λ i. i + 1) h, tt)

pub Places-itself : (n : ℕ) (m : Exponents) → length m ≡ n → Places n (itself m)
Places-itself n m h = (h, tt)

pub Places-difference : (n : ℕ) (b c : Bool) (q r : TermList) → Places n q → Places n r → Places n (plus (when b q) (negated (when c r)))
Places-difference n b c q r h g = Places-plus n (when b q) (negated (when c r)) (Places-when n b q h) (Places-negated n (when c r) (Places-when n c r g))

all_padded : (n : ℕ) (us : List Polynomial) → AllByRecursion (IsForm n) us → AllPadded n us
all_padded n [] h = tt
all_padded n (u ∷ us) h = (subst (λ i. Places i u.terms) h.0.has_places h.0.kind.padded, all_padded n us h.1)

pub Places-behind : (n : ℕ) (e : Edge) (m : Exponents) → IsEdge n e → Places (n + 1) (behind n e m)
Places-behind n e m h = Places-composed (n + 1) (term m (pos 1) ∷ []) e.update (all_padded (n + 1) e.update h.updates)

pub Places-inputs : (n : ℕ) (m : Exponents) → n ≤ length m → Places n (at_inputs n m)
Places-inputs n m h = Places-when n (list_all (eqb 0) (drop n m)) (itself (take n m)) (length-take-le n m h, tt)

module _ (p : Pair) (d k : ℕ) (f : Flags) (fit : IsFit p d k f) where
  pub formed : (side : Side) → IsWellFormed (system_of p side)
  formed New = fit.pair.new.system
  formed Old = fit.pair.old.system

  pub location_atoms : (side : Side) (l : ℕ) → AllByRecursion (IsAtom (system_of p side).vars) (atoms_at p side l)
  location_atoms New l = atoms_in _ l p.new_atoms fit.pair.new.each
  location_atoms Old l = atoms_in _ l p.old_atoms fit.pair.old.each

  pub is_edge : (side : Side) (n : ℕ) → n < length (system_of p side).edges → IsEdge (system_of p side).vars (edge_at (system_of p side) n)
  is_edge side n h = All-from_recursion _ _ (formed side).edges n no_edge h

  pub is_within : (side : Side) (n : ℕ) → n < length (system_of p side).edges → IsWithin (system_of p side).locs (edge_at (system_of p side) n)
  is_within side n h = All-from_recursion _ _ (formed side).ends n no_edge h

  pub atoms_fit : (o : Duty) → IsThere p o → AllByRecursion (IsAtom (places_of p o)) (atoms_of p o)
  atoms_fit (Along side n) h = each-++ (IsAtom _) _ _ (wider _ _ (location_atoms side (edge_at (system_of p side) n).from)) (is_edge side n h).atoms
  atoms_fit (AtExit side) h = location_atoms side (exit_of (system_of p side))
  atoms_fit (AtEntry n) h = case_in _ n p.cases fit.pair.cases.each

  pub few_places : (o : Duty) → places_of p o ≤ 11
  few_places (Along side n) = let h = (formed side).few_vars in omega arith
  few_places (AtExit side) = let h = (formed side).few_vars in omega arith
  few_places (AtEntry n) = let h = (formed New).few_vars in let g = (formed New).params_first in omega arith

  pub mono_length : (side : Side) (i : ℕ) → i < length (monomials_at p d side) → length (monomial_at p d side i) ≡ (system_of p side).vars
  mono_length side i h = (each_at (IsMonomial (system_of p side).vars d) (monomials_at p d side) i [] (are_monomials (system_of p side).vars d).only h).places

  -- ---- the parts
  at_exit : (side : Side) (l i : ℕ) → i < length (monomials_at p d side) → Places (system_of p side).vars (when (eqb l (exit_of (system_of p side))) (itself (monomial_at p d side i)))
  at_exit side l i b = Places-when (system_of p side).vars (eqb l (exit_of (system_of p side))) (itself (monomial_at p d side i)) (Places-itself (system_of p side).vars (monomial_at p d side i) (mono_length side i b))

  at_entry : (side : Side) (l i : ℕ) → i < length (monomials_at p d side) → p.new.params ≤ (system_of p side).vars → Places p.new.params (when (eqb l 0) (at_inputs p.new.params (monomial_at p d side i)))
  at_entry side l i b g = Places-when p.new.params (eqb l 0) (at_inputs p.new.params (monomial_at p d side i)) (Places-inputs p.new.params (monomial_at p d side i) (let e = mono_length side i b in omega arith))

  part_padded : (o : Duty) → IsThere p o → (side : Side) (l i : ℕ) → i < length (monomials_at p d side) → Places (places_of p o) (part_of p d o (Coefficient side l i))
  part_padded (Along New n) h New l i b =
      let e = edge_at p.new n in
      let m = monomial_at p d New i in
      Places-difference (p.new.vars + 1) (eqb l e.from) (eqb l e.to) (before m) (behind p.new.vars e m) (Places-before p.new.vars m (mono_length New i b)) (Places-behind p.new.vars e m (is_edge New n h))
  part_padded (Along New n) h Old l i b = tt
  part_padded (Along Old n) h New l i b = tt
  part_padded (Along Old n) h Old l i b =
      let e = edge_at p.old n in
      let m = monomial_at p d Old i in
      Places-difference (p.old.vars + 1) (eqb l e.to) (eqb l e.from) (behind p.old.vars e m) (before m) (Places-behind p.old.vars e m (is_edge Old n h)) (Places-before p.old.vars m (mono_length Old i b))
  part_padded (AtExit New) h New l i b = at_exit New l i b
  part_padded (AtExit New) h Old l i b = tt
  part_padded (AtExit Old) h New l i b = tt
  part_padded (AtExit Old) h Old l i b = Places-negated p.old.vars (when (eqb l (exit_of p.old)) (itself (monomial_at p d Old i))) (at_exit Old l i b)
  part_padded (AtEntry n) h New l i b = Places-negated p.new.params (when (eqb l 0) (at_inputs p.new.params (monomial_at p d New i))) (at_entry New l i b (formed New).params_first)
  part_padded (AtEntry n) h Old l i b = at_entry Old l i b (let g = (formed Old).params_first in let q = fit.pair.params in omega arith)

  bound_padded : (o : Duty) → Places (places_of p o) (part_of p d o Bound)
  bound_padded (Along side n) = tt
  bound_padded (AtExit side) = tt
  bound_padded (AtEntry n) = Places-constant (pos 1) p.new.params

  rest_padded : (o : Duty) → IsThere p o → Places (places_of p o) (rest_of p o)
  rest_padded (Along New n) h = Places-negated (p.new.vars + 1) (edge_at p.new n).cost.terms (let c = (is_edge New n h).cost in subst (λ i. Places i (edge_at p.new n).cost.terms) c.has_places c.kind.padded)
  rest_padded (Along Old n) h = let c = (is_edge Old n h).cost in subst (λ i. Places i (edge_at p.old n).cost.terms) c.has_places c.kind.padded
  rest_padded (AtExit side) h = tt
  rest_padded (AtEntry n) h = tt

  product_padded : (o : Duty) → IsThere p o → (i : ℕ) → i < length (products_at p k o) → Places (places_of p o) (product_number p k o i).terms
  product_padded o h i b =
      let q = all_products (places_of p o) k (atoms_of p o) (few_places o) fit.few_products (atoms_fit o h) i (polynomial 0 []) b in
      subst (λ n. Places n (product_number p k o i).terms) q.places q.kind.padded

  side_padded : (o : Duty) → IsThere p o → (side : Side) → AllByRecursion (λ u. Places (places_of p o) (part_of p d o u)) (unknowns_on p d side)
  side_padded o h side =
      each-flat_map (λ u. Places (places_of p o) (part_of p d o u)) (unknowns_at p d side) _
      (each_all _ _ (λ l. each-map (λ u. Places (places_of p o) (part_of p d o u)) (Coefficient side l) _ (each-range (λ i. Places (places_of p o) (part_of p d o (Coefficient side l i))) 0 (length (monomials_at p d side)) (λ i a b. part_padded o h side l i (omega arith)))))

  pub difference_padded : (o : Duty) (t : ℚ) (φ χ : Potential) (multipliers : Multipliers) → IsThere p o → HavePlaces (places_of p o) (difference p d k t φ χ multipliers o)
  difference_padded o t φ χ multipliers h =
      let u : AllByRecursion (λ u. Places (places_of p o) (part_of p d o u)) (unknowns_of p d) = (bound_padded o, each-++ (λ u. Places (places_of p o) (part_of p d o u)) (unknowns_on p d New) (unknowns_on p d Old) (side_padded o h New) (side_padded o h Old)) in
      let r : HavePlaces (places_of p o) (rest_part p d k t φ χ multipliers o ∷ product_parts p d k t φ χ multipliers o) = (
        rest_padded o h,
        each-map (λ (c : Multiple). Places (places_of p o) c.terms) (λ i. multiple (neg_ℚ (multipliers o i)) (product_number p k o i).terms) (range_with_len 0 (length (products_at p k o)))
            (each-range (λ i. Places (places_of p o) (product_number p k o i).terms) 0 (length (products_at p k o)) (λ i a b. product_padded o h i (omega arith))),
      ) in
      each-++ (λ (c : Multiple). Places (places_of p o) c.terms) (unknown_parts p d k t φ χ multipliers o) _ (each-map (λ (c : Multiple). Places (places_of p o) c.terms) (λ u. multiple (unknown_value t φ χ u) (part_of p d o u)) (unknowns_of p d) u) r

  pub locations_fit : (o : Duty) (t : ℚ) (φ χ : Potential) → IsThere p o → AreLocations p d k t φ χ o
  locations_fit (Along side n) t φ χ h = let w = is_within side n h in (w.from, w.to)
  locations_fit (AtExit side) t φ χ h = let w = (formed side).some_location in omega arith
  locations_fit (AtEntry n) t φ χ h = ((let w = (formed New).some_location in omega arith), (let w = (formed Old).some_location in omega arith))

-- ---- a pair fits with every flag set
abbrev pub all_set : Pair → Flags
all_set p = record {
  new_edges = map (λ e. true) p.new.edges;
  new_exit = true;
  old_edges = map (λ e. true) p.old.edges;
  old_exit = true;
  cases = map (λ c. true) p.cases;
}

pub pair_fits : (p : Pair) → IsPair p → IsFit p 0 1 (all_set p)
pair_fits p pair = record {
  pair = pair;
  flags = record { new = length-map p.new.edges (λ e. true); old = length-map p.old.edges (λ e. true); cases = length-map p.cases (λ c. true) };
  degree = omega arith;
  some_products = omega arith;
  few_products = omega arith;
}
