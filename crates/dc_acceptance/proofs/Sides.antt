-- Clauses 1 to 6 of one side of what is made.
use Rattle.std.specs.Prelude.{◌≡◌, ℕ, zero, suc, ◌<◌, ◌&&◌, max, Bool, true, false, eqb, if◌then◌else◌, List, [], ◌∷◌, map, length, slice_get, ℤ, pos, Some}
use Rattle.std.specs.List.{AllByRecursion, list_all}
use Rattle.std.proofs.Common.{refl, sym, ◌∙◌, ap, subst, arith}
use Rattle.std.proofs.lemmas.Bool.{eq-eqb, and_from}
use Rattle.std.proofs.lemmas.List.{get_or-take}
use Rattle.dc_math.specs.Members.{Among, head, tail, each_left, each_right, each_among}
use Rattle.dc_affine.specs.declared.atom.Atom.{Atom}
use Rattle.dc_affine.specs.Atoms.{IsFullAtom}
use Rattle.dc_system.specs.declared.edges.Edge.{Edge}
use Rattle.dc_system.specs.declared.edges.System.{System}
use Rattle.dc_system.specs.Shapes.{IsWellFormed}
use Rattle.dc_system.specs.After.{is_affine_after, atom_after}
use Rattle.dc_cert.specs.Vectors.{in_range}
use Rattle.dc_cert.specs.declared.sparse.Sparse.{Sparse}
use Rattle.dc_cert.specs.declared.certificate.Liveness.{Liveness}
use Rattle.dc_cert.specs.declared.certificate.EdgeCert.{EdgeCert}
use Rattle.dc_cert.specs.declared.certificate.SideCert.{SideCert}
use Rattle.dc_cert.specs.Ranges.{is_live}
use Rattle.dc_points.specs.Points.{Point, MeetsAt, MeetsAll, IsDead}
use Rattle.dc_points.specs.Stated.{coefficient_of}
use Rattle.dc_points.specs.Flags.{AreFlags}
use Rattle.dc_families.specs.Graphs.{Graph, graph_of}
use Rattle.dc_families.specs.Families.{family_of}
use Rattle.dc_families.specs.Moves.{at_start, form_after}
use Rattle.dc_families.specs.Rounds.{IsInductive}
use Rattle.dc_families.proofs.Lists.{differ}
use Rattle.dc_families.proofs.Tests.{has_among, among_has}
use Rattle.dc_invariant.specs.Keeps.{AreEntryKeeps, AreEdgeParts, IsSidePart}
use Rattle.dc_session.specs.Made.{AreCaseLines}
use Rattle.dc_clauses.specs.Lines.{line_in_range, line_parts, keep_parts}
use Rattle.dc_clauses.specs.Sides.{paired, joined, atoms_at, edge_atoms, exit_atoms, edge_places, is_full, has_keeps, entry_fits, edge_fits, shape_fits, case_test, numbered_case, case_tests, entry_test, entry_tests, edge_test, edge_tests, keep_test, keep_tests, exit_test}
use Rattle.dc_acceptance.proofs.Passing.{Passes, AllPass, pass_both, all_pass, numbered_pass}
use Rattle.dc_acceptance.proofs.Lines.{line_passes, line_ranges, keep_passes, keeps_many, keeps_range, flagged_pass}

-- ---- what is known of a side
pub record IsMadeSide (budget : ℕ) (s : System) (cases : List (List Atom)) (live flags : List Bool) (when : List Liveness) (x : SideCert) : Type 0 where
  pub system : IsWellFormed s
  pub one_each : length x.families ≡ s.locs
  pub full : AllByRecursion (AllByRecursion (IsFullAtom s.vars)) x.families
  pub inductive : IsInductive (graph_of s) cases (family_of x.families)
  pub right : AreFlags flags (map (edge_atoms x) s.edges)
  pub lines : AreCaseLines s.params budget cases live when
  pub part : IsSidePart (graph_of s) x.families budget cases live flags x

-- ---- what passes
pub record SidePasses (s : System) (cases : List (List Atom)) (when : List Liveness) (x : SideCert) : Type 0 where
  pub shape : shape_fits s cases when x ≡ true
  pub lines : AllPass (case_tests s.params cases when)
  pub entry : AllPass (entry_tests s cases x)
  pub edges : AllPass (edge_tests s x)
  pub keeps : AllPass (keep_tests s x)
  pub exit : Passes (exit_test s x)

-- ---- lists
max_self : (n : ℕ) → max n n ≡ n
max_self n = omega arith

has_all : (w : Liveness) (b : Bool) (atoms : List Atom) (ks : List Sparse) → is_live w ≡ b → length ks ≡ length (if b then atoms else []) → has_keeps w atoms ks ≡ true
has_all w b atoms ks e l = eq-eqb (length ks) (if is_live w then length atoms else 0) (l ∙ by b ∙ sym (ap (λ d. if d then length atoms else 0) e))
  where
    by : (d : Bool) → length (if d then atoms else []) ≡ (if d then length atoms else 0)
    by true = refl
    by false = refl

-- ---- the lines of the cases
pub lines_many : (n budget : ℕ) (cases : List (List Atom)) (live : List Bool) (ws : List Liveness) → AreCaseLines n budget cases live ws → length ws ≡ length cases
lines_many n budget [] [] [] h = refl
lines_many n budget [] [] (w ∷ ws) h = absurd h
lines_many n budget [] (b ∷ live) ws h = absurd h
lines_many n budget (case ∷ cases) [] ws h = absurd h
lines_many n budget (case ∷ cases) (b ∷ live) [] h = absurd h
lines_many n budget (case ∷ cases) (b ∷ live) (w ∷ ws) h = ap suc (lines_many n budget cases live ws h.2)

line_at : (n budget : ℕ) (cases : List (List Atom)) (live : List Bool) (ws : List Liveness) (k : ℕ) → AreCaseLines n budget cases live ws → k < length cases
    → Passes (case_test n (slice_get cases k) (slice_get ws k))
line_at n budget [] live ws k h l = absurd (omega arith)
line_at n budget (case ∷ cases) [] ws k h l = absurd h
line_at n budget (case ∷ cases) (b ∷ live) [] k h l = absurd h
line_at n budget (case ∷ cases) (b ∷ live) (w ∷ ws) zero h l =
    all_pass (Some (line_in_range (length case) n w) ∷ line_parts case n w) (line_ranges case n budget w h.1, line_passes case n budget w h.1)
line_at n budget (case ∷ cases) (b ∷ live) (w ∷ ws) (suc k) h l = line_at n budget cases live ws k h.2 (omega arith)

pub cases_pass : (n budget : ℕ) (cases : List (List Atom)) (live : List Bool) (ws : List Liveness) → AreCaseLines n budget cases live ws → AllPass (case_tests n cases ws)
cases_pass n budget cases live ws h =
    numbered_pass (numbered_case n cases ws) (max (length cases) (length ws))
    (λ k l. line_at n budget cases live ws k h (subst (λ m. k < m) (ap (max (length cases)) (lines_many n budget cases live ws h) ∙ max_self (length cases)) l))

-- ---- atoms with the locals 0
start_coefficient : (params : ℕ) (a : Atom) (i : ℕ) → i < params → coefficient_of (at_start params a) i ≡ coefficient_of a i
start_coefficient params a i l = get_or-take params a.coefs i (pos 0) l

-- ---- one side
module _ (budget : ℕ) (s : System) (cases : List (List Atom)) (live flags : List Bool) (when : List Liveness) (x : SideCert) (h : IsMadeSide budget s cases live flags when x) where
  abbrev g : Graph
  g = graph_of s

  -- ---- the shape
  full_one : (atoms : List Atom) → AllByRecursion (IsFullAtom s.vars) atoms → is_full s atoms ≡ true
  full_one [] k = refl
  full_one (a ∷ atoms) k = and_from (eqb (length a.coefs) s.vars) (is_full s atoms) (eq-eqb (length a.coefs) s.vars k.0.one_each) (full_one atoms k.1)

  full_each : (fs : List (List Atom)) → AllByRecursion (AllByRecursion (IsFullAtom s.vars)) fs → list_all (is_full s) fs ≡ true
  full_each [] k = refl
  full_each (atoms ∷ fs) k = and_from (is_full s atoms) (list_all (is_full s) fs) (full_one atoms k.0) (full_each fs k.1)

  entry_shape : (cs : List (List Atom)) (bs : List Bool) (ws : List Liveness) (kss : List (List Sparse)) → AreCaseLines s.params budget cs bs ws
      → AreEntryKeeps g x.families budget cs bs kss → entry_fits (atoms_at x 0) cs ws kss ≡ true
  entry_shape [] [] [] [] k m = refl
  entry_shape [] [] [] (ks ∷ kss) k m = absurd m
  entry_shape [] [] (w ∷ ws) kss k m = absurd k
  entry_shape [] (b ∷ bs) ws kss k m = absurd k
  entry_shape (c ∷ cs) [] ws kss k m = absurd k
  entry_shape (c ∷ cs) (b ∷ bs) [] kss k m = absurd k
  entry_shape (c ∷ cs) (b ∷ bs) (w ∷ ws) [] k m = absurd m
  entry_shape (c ∷ cs) (b ∷ bs) (w ∷ ws) (ks ∷ kss) k m =
      let atoms : List Atom = if b then atoms_at x 0 else [] in
      let form : Atom → List ℤ = λ a. (at_start s.params a).coefs in
      and_from (has_keeps w (atoms_at x 0) ks) (list_all (in_range (length c)) ks && entry_fits (atoms_at x 0) cs ws kss)
      (has_all w b (atoms_at x 0) ks k.0 (keeps_many c s.params budget form (at_start s.params) atoms ks m.0))
      (and_from (list_all (in_range (length c)) ks) (entry_fits (atoms_at x 0) cs ws kss)
      (keeps_range c s.params budget form (at_start s.params) atoms ks m.0) (entry_shape cs bs ws kss k.2 m.1))

  pub edges_many : (es : List Edge) (fs : List Bool) (ps : List EdgeCert) → AreEdgeParts g x.families budget es fs ps → length ps ≡ length es
  edges_many [] fs [] k = refl
  edges_many [] fs (p ∷ ps) k = absurd k
  edges_many (e ∷ es) [] ps k = absurd k
  edges_many (e ∷ es) (f ∷ fs) [] k = absurd k
  edges_many (e ∷ es) (f ∷ fs) (p ∷ ps) k = ap suc (edges_many es fs ps k.1)

  edge_shapes : (es : List Edge) (fs : List Bool) (ps : List EdgeCert) → AreEdgeParts g x.families budget es fs ps → list_all (λ fits. fits) (paired (edge_fits s x) es ps) ≡ true
  edge_shapes [] fs ps k = refl
  edge_shapes (e ∷ es) [] ps k = absurd k
  edge_shapes (e ∷ es) (f ∷ fs) [] k = absurd k
  edge_shapes (e ∷ es) (f ∷ fs) (p ∷ ps) k =
      let atoms : List Atom = if f then atoms_at x e.to else [] in
      let form : Atom → List ℤ = λ a. form_after s.vars e a.coefs in
      let ranges = list_all (in_range (length (edge_atoms x e))) p.keeps in
      and_from (edge_fits s x e p) (list_all (λ fits. fits) (paired (edge_fits s x) es ps))
      (and_from (line_in_range (length (edge_atoms x e)) (edge_places s.vars e) p.live) (has_keeps p.live (atoms_at x e.to) p.keeps && ranges)
      (line_ranges (edge_atoms x e) (edge_places s.vars e) budget p.live k.0.line)
      (and_from (has_keeps p.live (atoms_at x e.to) p.keeps) ranges
      (has_all p.live f (atoms_at x e.to) p.keeps k.0.flag (keeps_many (edge_atoms x e) (edge_places s.vars e) budget form (atom_after s.vars e) atoms p.keeps k.0.keeps))
      (keeps_range (edge_atoms x e) (edge_places s.vars e) budget form (atom_after s.vars e) atoms p.keeps k.0.keeps)))
      (edge_shapes es fs ps k.1)

  shape : shape_fits s cases when x ≡ true
  shape =
      let exit = line_in_range (length (exit_atoms s x)) s.vars x.exit_line in
      let each = list_all (λ fits. fits) (paired (edge_fits s x) s.edges x.edges) in
      let edges = eqb (length x.edges) (length s.edges) in
      let entry = entry_fits (atoms_at x 0) cases when x.entry_keeps in
      and_from (eqb (length x.families) s.locs) (list_all (is_full s) x.families && (entry && (edges && (each && exit)))) (eq-eqb (length x.families) s.locs h.one_each)
      (and_from (list_all (is_full s) x.families) (entry && (edges && (each && exit))) (full_each x.families h.full)
      (and_from entry (edges && (each && exit)) (entry_shape cases live when x.entry_keeps h.lines h.part.entry_keeps)
      (and_from edges (each && exit) (eq-eqb (length x.edges) (length s.edges) (edges_many s.edges flags x.edges h.part.edges))
      (and_from each exit (edge_shapes s.edges flags x.edges h.part.edges) (line_ranges (exit_atoms s x) s.vars budget x.exit_line h.part.exit_line)))))

  -- ---- the keeps of the entry
  entries_pass : (cs : List (List Atom)) (bs : List Bool) (kss : List (List Sparse)) → AreEntryKeeps g x.families budget cs bs kss
      → AllPass (joined (paired (λ case ks. paired (entry_test s case) (atoms_at x 0) ks) cs kss))
  entries_pass [] bs kss k = tt
  entries_pass (c ∷ cs) [] kss k = absurd k
  entries_pass (c ∷ cs) (b ∷ bs) [] k = absurd k
  entries_pass (c ∷ cs) (b ∷ bs) (ks ∷ kss) k =
      pass_both (paired (entry_test s c) (atoms_at x 0) ks) (joined (paired (λ case js. paired (entry_test s case) (atoms_at x 0) js) cs kss))
      (flagged_pass c s.params budget (λ a. (at_start s.params a).coefs) (at_start s.params) (entry_test s c) b (atoms_at x 0) ks
      (λ e a m j w. all_pass (keep_parts c s.params a [] j) (keep_passes c s.params budget (at_start s.params a).coefs a (at_start s.params a) [] j w tt (start_coefficient s.params a) refl))
      k.0)
      (entries_pass cs bs kss k.1)

  -- ---- the lines of the edges
  edges_pass : (es : List Edge) (fs : List Bool) (ps : List EdgeCert) → AreEdgeParts g x.families budget es fs ps → AllPass (paired (edge_test s x) es ps)
  edges_pass [] fs ps k = tt
  edges_pass (e ∷ es) [] ps k = absurd k
  edges_pass (e ∷ es) (f ∷ fs) [] k = absurd k
  edges_pass (e ∷ es) (f ∷ fs) (p ∷ ps) k =
      (all_pass (line_parts (edge_atoms x e) (edge_places s.vars e) p.live) (line_passes (edge_atoms x e) (edge_places s.vars e) budget p.live k.0.line), edges_pass es fs ps k.1)

  -- ---- the keeps of the edges. Along a live edge the atoms of its target are affine
  affine : (e : Edge) → Among e s.edges → ¬ IsDead (edge_atoms x e) → (a : Atom) → Among a (atoms_at x e.to) → is_affine_after e a.coefs ≡ true
  affine e m alive a k = by (is_affine_after e a.coefs) refl
    where
      given : (p : Point) → MeetsAll p (edge_atoms x e) → is_affine_after e a.coefs ≡ true
      given p q =
          ((h.inductive e.to a (among_has a (atoms_at x e.to) k)).edges e m refl p
          (record { each = λ b i. each_among (MeetsAt p) (each_left (MeetsAt p) (atoms_at x e.from) e.guard q) (has_among (atoms_at x e.from) b i) })
          (each_right (MeetsAt p) (atoms_at x e.from) e.guard q)).0

      by : (b : Bool) → is_affine_after e a.coefs ≡ b → is_affine_after e a.coefs ≡ true
      by true q = q
      by false q = absurd (alive (λ p r. differ (sym (given p r) ∙ q)))

  keeps_pass : (es : List Edge) (fs : List Bool) (ps : List EdgeCert) → ((e : Edge) → Among e es → Among e s.edges) → AreFlags fs (map (edge_atoms x) es)
      → AreEdgeParts g x.families budget es fs ps → AllPass (joined (paired (λ e c. paired (keep_test s x e) (atoms_at x e.to) c.keeps) es ps))
  keeps_pass [] fs ps m r k = tt
  keeps_pass (e ∷ es) [] ps m r k = absurd k
  keeps_pass (e ∷ es) (f ∷ fs) [] m r k = absurd k
  keeps_pass (e ∷ es) (f ∷ fs) (p ∷ ps) m r k =
      pass_both (paired (keep_test s x e) (atoms_at x e.to) p.keeps) (joined (paired (λ d c. paired (keep_test s x d) (atoms_at x d.to) c.keeps) es ps))
      (flagged_pass (edge_atoms x e) (edge_places s.vars e) budget (λ a. form_after s.vars e a.coefs) (atom_after s.vars e) (keep_test s x e) f (atoms_at x e.to) p.keeps
      (λ q a i j w. all_pass (keep_parts (edge_atoms x e) (edge_places s.vars e) (atom_after s.vars e a) (Some (is_affine_after e a.coefs) ∷ []) j)
      (keep_passes (edge_atoms x e) (edge_places s.vars e) budget (form_after s.vars e a.coefs) (atom_after s.vars e a) (atom_after s.vars e a) (Some (is_affine_after e a.coefs) ∷ []) j w
      (affine e (m e head) (r.0.0 q) a i, tt) (λ c l. refl) refl))
      k.0.keeps)
      (keeps_pass es fs ps (λ d i. m d (tail i)) r.1 k.1)

  pub side_passes : SidePasses s cases when x
  side_passes = record {
    shape = shape;
    lines = cases_pass s.params budget cases live when h.lines;
    entry = entries_pass cases live x.entry_keeps h.part.entry_keeps;
    edges = edges_pass s.edges flags x.edges h.part.edges;
    keeps = keeps_pass s.edges flags x.edges (λ e m. m) h.right h.part.edges;
    exit = all_pass (line_parts (exit_atoms s x) s.vars x.exit_line) (line_passes (exit_atoms s x) s.vars budget x.exit_line h.part.exit_line);
  }
