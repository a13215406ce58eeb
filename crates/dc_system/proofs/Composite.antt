-- A composed edge is an edge of a well formed system.
use Rattle.std.specs.Prelude.{◌≡◌, ℕ, suc, ◌+◌, ◌≤◌, true, leb, List, [], ◌∷◌, ◌++◌, length, slice_index_or, ℤ, pos, unsigned_abs, Some, refl}
use Rattle.std.specs.List.{AllByRecursion}
use Rattle.std.proofs.Common.{sym, ◌∙◌, ap, subst, arith, length-append}
use Rattle.std.proofs.lemmas.Bool.{leb-true, and_parts, or_parts}
use Rattle.std.proofs.lemmas.List.{length-map}
use Rattle.dc_math.specs.Members.{each-++}
use Rattle.dc_poly.specs.Terms.{degree_of, Polynomial, Places}
use Rattle.dc_poly.specs.Sums.{unit_at, plus, composition_of, places_of, sum_of}
use Rattle.dc_poly.specs.Sums as sums
use Rattle.dc_poly.specs.Affine.{units}
use Rattle.dc_poly.proofs.Values.{Canonical-composed, Canonical-plus}
use Rattle.dc_poly.proofs.Padded.{AllPadded, Places-composed, Places-plus, Places-variable}
use Rattle.dc_affine.specs.declared.atom.Atom.{Atom}
use Rattle.dc_poly.specs.NormalForm.{most, coefs_fit, IsNormalForm}
use Rattle.dc_affine.specs.Atoms.{AllFit, IsAtom}
use Rattle.dc_affine.proofs.Units.{length-units}
use Rattle.dc_system.specs.declared.edges.Edge.{Edge}
use Rattle.dc_system.specs.Edges.{chosen}
use Rattle.dc_system.specs.Shapes.{IsForm, Skips, AtomSkips, IsUnchosen, IsEdge}
use Rattle.dc_system.specs.Composed.{after, coef_at, atom_at, atoms_at, forms_at, composed, numbers_fit, atom_fits, atoms_fit, form_fits, forms_fit, compose_of}
use Rattle.dc_system.proofs.Weights.{form_polynomial}
use Rattle.dc_system.proofs.Shape.{units_at}
use Rattle.dc_system.proofs.Wider.{unit_last}
use Rattle.dc_system.proofs.Skipping.{skip-plus, skip-composed, no_coef_at}
use Rattle.dc_system.proofs.Crossings.{Composable, made_by}

abbrev sums_degree : Polynomial → ℕ
sums_degree p = degree_of p.terms

abbrev nat_at : List ℕ → ℕ → ℕ
nat_at m n = slice_index_or m n 0

abbrev int_at : List ℤ → ℕ → ℤ
int_at m n = slice_index_or m n (pos 0)

-- ---- the values after an edge
pub after_places : (n : ℕ) (e : Edge) → IsEdge n e → places_of (after n e) ≡ n + 1
after_places n e h = by e.update h.updates
  where
    by : (us : List Polynomial) → AllByRecursion (IsForm (n + 1)) us → places_of (us ++ chosen n ∷ []) ≡ n + 1
    by [] j = refl
    by (u ∷ us) j = j.0.has_places

forms_padded : (m : ℕ) (us : List Polynomial) (q : Polynomial) → AllByRecursion (IsForm m) us → Places m q.terms → AllPadded m (us ++ q ∷ [])
forms_padded m [] q h k = (k, tt)
forms_padded m (u ∷ us) q h k = (subst (λ i. Places i u.terms) h.0.has_places h.0.kind.padded, forms_padded m us q h.1 k)

pub after_padded : (n : ℕ) (e : Edge) → IsEdge n e → AllPadded (places_of (after n e)) (after n e)
after_padded n e h = subst (λ i. AllPadded i (after n e)) (sym (after_places n e h)) (forms_padded (n + 1) e.update (chosen n) h.updates (Places-variable n (n + 1)))

-- ---- forms
narrow_of : (p : Polynomial) → form_fits p ≡ true → IsNormalForm p.terms
narrow_of p h = let q = and_parts (leb (sums_degree p) 2) (coefs_fit p.terms) h in record { low = leb-true (sums_degree p) 2 q.0; fits = q.1 }

form_at : (n : ℕ) (e : Edge) (p : Polynomial) → n ≤ 10 → IsEdge n e → form_fits (composition_of p (after n e)) ≡ true → IsForm (n + 1) (composition_of p (after n e))
form_at n e p h j f =
    let q = after_places n e j in
    record {
      has_places = q;
      kind = form_polynomial (places_of (after n e)) (sums.composed (places_of (after n e)) p.terms (after n e)) (omega arith) (Canonical-composed (places_of (after n e)) p.terms (after n e)) (Places-composed (places_of (after n e)) p.terms (after n e) (after_padded n e j)) (narrow_of (composition_of p (after n e)) f);
      narrow = narrow_of (composition_of p (after n e)) f;
    }

all_forms_at : (n : ℕ) (e : Edge) (ps : List Polynomial) → n ≤ 10 → IsEdge n e → forms_fit (forms_at ps (after n e)) ≡ true → AllByRecursion (IsForm (n + 1)) (forms_at ps (after n e))
all_forms_at n e [] h j f = tt
all_forms_at n e (p ∷ ps) h j f =
    let q = and_parts (form_fits (composition_of p (after n e))) (forms_fit (forms_at ps (after n e))) f in
    (form_at n e p h j q.0, all_forms_at n e ps h j q.1)

cost_at : (n : ℕ) (e f : Edge) → n ≤ 10 → IsEdge n e → form_fits (sum_of e.cost (composition_of f.cost (after n e))) ≡ true → IsForm (n + 1) (sum_of e.cost (composition_of f.cost (after n e)))
cost_at n e f h j g =
    let m = places_of (after n e) in
    let q : m ≡ n + 1 = after_places n e j in
    let o : e.cost.places ≡ n + 1 = j.cost.has_places in
    let c = sums.composed m f.cost.terms (after n e) in
    let k : Places e.cost.places c = subst (λ i. Places i c) (q ∙ sym o) (Places-composed m f.cost.terms (after n e) (after_padded n e j)) in
    record {
      has_places = o;
      kind = form_polynomial e.cost.places (plus e.cost.terms c) (omega arith) (Canonical-plus e.cost.terms c (Canonical-composed m f.cost.terms (after n e))) (Places-plus e.cost.places e.cost.terms c j.cost.kind.padded k) (narrow_of (sum_of e.cost (composition_of f.cost (after n e))) g);
      narrow = narrow_of (sum_of e.cost (composition_of f.cost (after n e))) g;
    }

-- ---- atoms
numbers_all : (cs : List ℤ) → numbers_fit cs ≡ true → AllFit cs
numbers_all [] h = tt
numbers_all (c ∷ cs) h = let q = and_parts (leb (unsigned_abs c) most) (numbers_fit cs) h in (leb-true (unsigned_abs c) most q.0, numbers_all cs q.1)

sized : (m : ℕ) (a : Atom) (vs : List Polynomial) → atom_fits (atom_at m a vs) ≡ true → IsAtom m (atom_at m a vs)
sized m a vs h =
    let b = atom_at m a vs in
    let q = and_parts (leb (unsigned_abs b.c0) 2147483648) (numbers_fit b.coefs) h in
    let l : length b.coefs ≡ m = length-map (units m) (coef_at a.coefs vs) ∙ length-units m in
    record { few = omega arith; coefs_within = numbers_all b.coefs q.1; constant_within = leb-true (unsigned_abs b.c0) 2147483648 q.0 }

all_sized : (m : ℕ) (gs : List Atom) (vs : List Polynomial) → atoms_fit (atoms_at m gs vs) ≡ true → AllByRecursion (IsAtom m) (atoms_at m gs vs)
all_sized m [] vs h = tt
all_sized m (a ∷ gs) vs h = let q = and_parts (atom_fits (atom_at m a vs)) (atoms_fit (atoms_at m gs vs)) h in (sized m a vs q.0, all_sized m gs vs q.1)

-- ---- no chosen value

last_unit : (n : ℕ) → slice_index_or (unit_at (n + 1) n) n 0 ≡ 1
last_unit n = subst (λ m. nat_at (unit_at m n) n ≡ 1) (let q : suc n ≡ n + 1 = omega arith in q) (unit_last n)

atom_skips : (n : ℕ) (e : Edge) (a : Atom) → IsEdge n e → IsUnchosen n e → AtomSkips n a → AtomSkips n (atom_at (n + 1) a (after n e))
atom_skips n e a h u s =
    units_at (coef_at a.coefs (after n e)) (n + 1) n (omega arith)
    ∙ no_coef_at n e.update (chosen n) a.coefs (unit_at (n + 1) n) (last_unit n) u.update (ap (λ k. int_at a.coefs k) h.one_each ∙ s)

atoms_skip : (n : ℕ) (e : Edge) (gs : List Atom) → IsEdge n e → IsUnchosen n e → AllByRecursion (AtomSkips n) gs → AllByRecursion (AtomSkips n) (atoms_at (n + 1) gs (after n e))
atoms_skip n e [] h u s = tt
atoms_skip n e (a ∷ gs) h u s = (atom_skips n e a h u s.0, atoms_skip n e gs h u s.1)

form_skips : (n : ℕ) (e : Edge) (p : Polynomial) → IsEdge n e → IsUnchosen n e → Skips n p → Skips n (composition_of p (after n e))
form_skips n e p h u s = skip-composed n (places_of (after n e)) p.terms e.update (chosen n) u.update (subst (λ k. Skips k p) (sym h.one_each) s)

forms_skip : (n : ℕ) (e : Edge) (ps : List Polynomial) → IsEdge n e → IsUnchosen n e → AllByRecursion (Skips n) ps → AllByRecursion (Skips n) (forms_at ps (after n e))
forms_skip n e [] h u s = tt
forms_skip n e (p ∷ ps) h u s = (form_skips n e p h u s.0, forms_skip n e ps h u s.1)

-- ---- the whole
pub composed_edge : (n : ℕ) (e f : Edge) → n ≤ 10 → IsEdge n e → IsEdge n f → Composable n e f → IsEdge n (composed n e f)
composed_edge n e f h j k c = record {
  one_each = length-map f.update (λ p. composition_of p (after n e)) ∙ k.one_each;
  updates = all_forms_at n e f.update h j c.updates;
  cost = cost_at n e f h j c.cost;
  few_atoms = (let a = length-append e.guard (atoms_at (n + 1) f.guard (after n e)) in let b = length-map f.guard (λ a. atom_at (n + 1) a (after n e)) in let d = c.few in omega arith);
  atoms = each-++ (IsAtom (n + 1)) e.guard (atoms_at (n + 1) f.guard (after n e)) j.atoms (all_sized (n + 1) f.guard (after n e) c.atoms);
  unchosen = λ q. let a = or_parts e.any f.any q in let u = j.unchosen a.0 in let v = k.unchosen a.1 in record {
    guard = each-++ (AtomSkips n) e.guard (atoms_at (n + 1) f.guard (after n e)) u.guard (atoms_skip n e f.guard j u v.guard);
    update = forms_skip n e f.update j u v.update;
    cost = skip-plus n e.cost.terms (composition_of f.cost (after n e)).terms u.cost (form_skips n e f.cost j u v.cost);
  };
}

pub compose_edge : (n : ℕ) (e f g : Edge) → n ≤ 10 → IsEdge n e → IsEdge n f → compose_of n e f ≡ Some g → IsEdge n g
compose_edge n e f g h j k q = let d = made_by n e f g q in subst (IsEdge n) (sym d.is) (composed_edge n e f h j k d.can)
