-- What the shape of a certificate's part gives.
use Rattle.std.specs.Prelude.{◌≡◌, ℕ, zero, suc, ◌<◌, ◌≤◌, ◌&&◌, Bool, true, false, eqb, leb, if◌then◌else◌, List, [], ◌∷◌, length}
use Rattle.std.specs.List.{list_all}
use Rattle.std.proofs.Common.{refl, ◌∙◌, ap, arith, get_or, length-append}
use Rattle.std.proofs.lemmas.Bool.{and_parts, and_from, eqb-true, leb-true, le-leb}
use Rattle.dc_math.specs.Members.{each_at_or, each_is}
use Rattle.dc_affine.specs.declared.atom.Atom.{Atom}
use Rattle.dc_system.specs.declared.edges.Edge.{Edge}
use Rattle.dc_system.specs.declared.edges.System.{System}
use Rattle.dc_system.specs.Shapes as shapes
use Rattle.dc_cert.specs.Vectors.{in_range}
use Rattle.dc_cert.specs.declared.certificate.EdgeCert.{EdgeCert}
use Rattle.dc_cert.specs.declared.certificate.SideCert.{SideCert}
use Rattle.dc_cert.specs.declared.sparse.Sparse.{Sparse}
use Rattle.dc_cert.specs.declared.certificate.Liveness.{Liveness}
use Rattle.dc_cert.specs.Ranges.{AreAtoms, IsEdge, IsSide, is_live}
use Rattle.dc_clauses.specs.Lines.{line_in_range}
use Rattle.dc_clauses.specs.Sides.{paired, atoms_at, edge_atoms, edge_places, is_full, has_keeps, entry_fits, edge_fits, shape_fits, exit_atoms}
use Rattle.dc_clauses.specs.Lent.{IsPart, IsShaped, IsEdgePart, keeps_fit, entry_fits_cases}

-- ---- one of a list
pub test_or : {A : Type 0} (p : A → Bool) (xs : List A) (k : ℕ) (d : A) → list_all p xs ≡ true → p d ≡ true → p (get_or xs k d) ≡ true
test_or p [] k d h e = e
test_or p (y ∷ ys) zero d h e = (and_parts (p y) (list_all p ys) h).0
test_or p (y ∷ ys) (suc k) d h e = test_or p ys k d (and_parts (p y) (list_all p ys) h).1 e

pub test_pair : {A B : Type 0} (f : A → B → Bool) (xs : List A) (ys : List B) (k : ℕ) (x : A) (y : B) → list_all (λ b. b) (paired f xs ys) ≡ true
    → k < length xs → k < length ys → x ≡ get_or xs k x → y ≡ get_or ys k y → f x y ≡ true
test_pair f [] ys k x y h l g e q = absurd (omega arith)
test_pair f (a ∷ xs) [] k x y h l g e q = absurd (omega arith)
test_pair f (a ∷ xs) (b ∷ ys) zero x y h l g e q = ap (λ z. f z y) e ∙ ap (f a) q ∙ (and_parts (f a b) (list_all (λ b. b) (paired f xs ys)) h).0
test_pair f (a ∷ xs) (b ∷ ys) (suc k) x y h l g e q = test_pair f xs ys k x y (and_parts (f a b) (list_all (λ b. b) (paired f xs ys)) h).1 (omega arith) (omega arith) e q

-- ---- the atoms of a location
no_atoms : AreAtoms []
no_atoms = record { few = omega arith; each = tt }

pub location_atoms : (s : System) (x : SideCert) (l : ℕ) → IsPart s x → AreAtoms (atoms_at x l)
location_atoms s x l p = each_at_or AreAtoms x.families l [] p.families no_atoms

pub edge_part : (s : System) (x : SideCert) (k : ℕ) (e : Edge) (c : EdgeCert) → IsShaped s x → k < length s.edges → e ≡ get_or s.edges k e → c ≡ get_or x.edges k c → IsEdgePart s x e c
edge_part s x k e c h l q r =
    let edge : shapes.IsEdge s.vars e = each_is (shapes.IsEdge s.vars) s.edges k e h.part.system.edges l q in
    let source : AreAtoms (atoms_at x e.from) = location_atoms s x e.from h.part in
    let n : k < length x.edges = (let o = h.one_each in omega arith) in
    record {
      few_vars = h.part.system.few_vars;
      edge = edge;
      cert = each_is IsEdge x.edges k c h.part.edges n r;
      few_atoms = (let a = source.few in let b = edge.few_atoms in let d = length-append (atoms_at x e.from) e.guard in omega arith);
      target = location_atoms s x e.to h.part;
      full = test_or (is_full s) x.families e.to [] h.full refl;
      fits = test_pair (edge_fits s x) s.edges x.edges k e c h.edges_fit l n q r;
    }

-- ---- there are at most as many keeps as atoms
few_keeps : (line : Liveness) (atoms : List Atom) (keeps : List Sparse) → has_keeps line atoms keeps ≡ true → length keeps ≤ length atoms
few_keeps line atoms keeps h = by (is_live line) (eqb-true (length keeps) (if is_live line then length atoms else 0) h)
  where
    by : (b : Bool) → length keeps ≡ (if b then length atoms else 0) → length keeps ≤ length atoms
    by true e = omega arith
    by false e = omega arith

pub keeps_few : (s : System) (x : SideCert) (e : Edge) (c : EdgeCert) → IsEdgePart s x e c → length c.keeps ≤ length (atoms_at x e.to)
keeps_few s x e c p =
    let range = line_in_range (length (edge_atoms x e)) (edge_places s.vars e) c.live in
    let keeps = has_keeps c.live (atoms_at x e.to) c.keeps in
    let rest = list_all (in_range (length (edge_atoms x e))) c.keeps in
    few_keeps c.live (atoms_at x e.to) c.keeps (and_parts keeps rest (and_parts range (keeps && rest) p.fits).1).0

-- ---- the keeps of a case
pub case_keeps : (x : SideCert) (cases : List (List Atom)) (k : ℕ) (case : List Atom) (ks : List Sparse) → entry_fits_cases x cases ≡ true → k < length cases → k < length x.entry_keeps
    → case ≡ get_or cases k case → ks ≡ get_or x.entry_keeps k ks → (length ks ≤ length (atoms_at x 0)) × (list_all (in_range (length case)) ks ≡ true)
case_keeps x cases k case ks h l g e q =
    let p = and_parts (leb (length ks) (length (atoms_at x 0))) (list_all (in_range (length case)) ks) (test_pair (keeps_fit x) cases x.entry_keeps k case ks h l g e q) in
    (leb-true (length ks) (length (atoms_at x 0)) p.0, p.1)

-- clause 1 gives it for all cases that have a line
pub entry_cases : (x : SideCert) (cases : List (List Atom)) (when : List Liveness) (kss : List (List Sparse)) → entry_fits (atoms_at x 0) cases when kss ≡ true
    → list_all (λ fits. fits) (paired (keeps_fit x) cases kss) ≡ true
entry_cases x [] when kss h = refl
entry_cases x (case ∷ cases) when [] h = refl
entry_cases x (case ∷ cases) [] (ks ∷ kss) h = absurd cc
entry_cases x (case ∷ cases) (w ∷ ws) (ks ∷ kss) h =
    let has = has_keeps w (atoms_at x 0) ks in
    let range = list_all (in_range (length case)) ks in
    let rest = entry_fits (atoms_at x 0) cases ws kss in
    let p = and_parts has (range && rest) h in
    let q = and_parts range rest p.1 in
    and_from (leb (length ks) (length (atoms_at x 0)) && range) (list_all (λ fits. fits) (paired (keeps_fit x) cases kss))
    (and_from (leb (length ks) (length (atoms_at x 0))) range (le-leb (length ks) (length (atoms_at x 0)) (few_keeps w (atoms_at x 0) ks p.0)) q.0)
    (entry_cases x cases ws kss q.1)

-- ---- a certificate's parts, and their shapes
pub is_part : (s : System) (n : ℕ) (x : SideCert) → shapes.IsWellFormed s → IsSide n x → IsPart s x
is_part s n x h g = record { system = h; families = g.families; entry_keeps = g.entry_keeps; edges = g.edges; exit_line = g.exit_line }

module _ (s : System) (cases : List (List Atom)) (when : List Liveness) (x : SideCert) (p : IsPart s x) (h : shape_fits s cases when x ≡ true) where
  abbrev locations : Bool
  locations = eqb (length x.families) s.locs

  abbrev entry : Bool
  entry = entry_fits (atoms_at x 0) cases when x.entry_keeps

  abbrev edges : Bool
  edges = eqb (length x.edges) (length s.edges)

  abbrev each : Bool
  each = list_all (λ fits. fits) (paired (edge_fits s x) s.edges x.edges)

  abbrev exit : Bool
  exit = line_in_range (length (exit_atoms s x)) s.vars x.exit_line

  pub is_shaped : IsShaped s x
  is_shaped =
      let a = and_parts locations (list_all (is_full s) x.families && (entry && (edges && (each && exit)))) h in
      let b = and_parts (list_all (is_full s) x.families) (entry && (edges && (each && exit))) a.1 in
      let c = and_parts entry (edges && (each && exit)) b.1 in
      let d = and_parts edges (each && exit) c.1 in
      let e = and_parts each exit d.1 in
      record {
        part = p;
        one_list_each = eqb-true (length x.families) s.locs a.0;
        full = b.0;
        one_each = eqb-true (length x.edges) (length s.edges) d.0;
        edges_fit = e.0;
        exit_fits = e.1;
      }

  pub entry_shaped : entry_fits_cases x cases ≡ true
  entry_shaped =
      let a = and_parts locations (list_all (is_full s) x.families && (entry && (edges && (each && exit)))) h in
      let b = and_parts (list_all (is_full s) x.families) (entry && (edges && (each && exit))) a.1 in
      entry_cases x cases when x.entry_keeps (and_parts entry (edges && (each && exit)) b.1).0
