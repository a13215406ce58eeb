-- What the clauses give of one program: its atoms are an inductive family, and the lines tell what is live.
use Rattle.std.specs.Prelude.{◌≡◌, ℕ, zero, suc, ◌<◌, ◌≤◌, Bool, true, false, eqb, leb, max, ◌-◌, drop, if◌then◌else◌, List, [], ◌∷◌, map, length, Option, Some, None, slice_get, ℤ}
use Rattle.std.specs.List.{AllByRecursion, list_all}
use Rattle.std.proofs.Common.{refl, sym, ◌∙◌, ap, ap₂, subst, arith, get_or}
use Rattle.std.proofs.lemmas.Bool.{and_parts, and_from, eqb-true, leb-true, leb-false}
use Rattle.dc_math.specs.Members.{Among, head, tail, each-++, each_is, each_among, among_each, among_at}
use Rattle.dc_syntax.specs.Value.{State}
use Rattle.dc_affine.specs.declared.atom.Atom.{Atom}
use Rattle.dc_affine.specs.Atoms.{IsAtom, Allowed, holds_at, all_hold}
use Rattle.dc_system.specs.declared.edges.Edge.{Edge}
use Rattle.dc_system.specs.declared.edges.System.{System}
use Rattle.dc_system.specs.Shapes.{IsWellFormed}
use Rattle.dc_system.specs.Paths.{Path}
use Rattle.dc_system.specs.After.{atom_after, is_affine_after}
use Rattle.dc_cert.specs.declared.sparse.Sparse.{Sparse}
use Rattle.dc_cert.specs.declared.certificate.Liveness.{Liveness}
use Rattle.dc_cert.specs.declared.certificate.EdgeCert.{EdgeCert}
use Rattle.dc_cert.specs.declared.certificate.SideCert.{SideCert}
use Rattle.dc_cert.specs.Ranges.{is_live}
use Rattle.dc_points.specs.Points.{Point, MeetsAt, MeetsAll, Entails}
use Rattle.dc_points.specs.Flags.{IsFlag, AreFlags}
use Rattle.dc_points.proofs.Flags.{flag-false}
use Rattle.dc_points.proofs.Whole.{over_atoms}
use Rattle.dc_families.specs.Graphs.{graph_of}
use Rattle.dc_families.specs.Families.{family_of}
use Rattle.dc_families.specs.Moves.{at_start}
use Rattle.dc_families.specs.Rounds.{MeetsFamily, CasesGive, EdgeGives, IsInductive, IsOver}
use Rattle.dc_families.proofs.Tests.{has_among, among_has}
use Rattle.dc_families.proofs.Reached.{reached_meet}
use Rattle.dc_families.proofs.Folds.{systems_are_graphs}
use Rattle.dc_claims.specs.Runs.{start_in}
use Rattle.dc_clauses.specs.Steps.{Test}
use Rattle.dc_clauses.specs.Lines.{line_in_range, line_parts}
use Rattle.dc_clauses.specs.Sides.{paired, atoms_at, edge_atoms, edge_places, exit_atoms, is_full, has_keeps, case_range, entry_fits, numbered_case, case_test, case_tests, entry_test, entry_tests, edge_test, edge_tests, keep_test, keep_tests, exit_test}
use Rattle.dc_clauses.specs.Lent.{IsCase, IsShaped, IsEdgePart}
use Rattle.dc_clauses.proofs.Shaped.{test_or, location_atoms, edge_part}
use Rattle.dc_check.proofs.Shown.{one_true, keep_shows}
use Rattle.dc_check.proofs.Implied.{line_flag, edge_flag, keep_gives, entry_gives}
use Rattle.dc_check.proofs.Tested.{AreTrue, pair_true, list_true, numbered_true}

-- ---- lists
-- the item with a number
pub picked : {A : Type 0} (xs : List A) (k : ℕ) → k < length xs → (x : A) × (x ≡ get_or xs k x)
picked [] k l = absurd (omega arith)
picked (x ∷ xs) zero l = (x, refl)
picked (x ∷ xs) (suc k) l = picked xs k (omega arith)

pub of_option : {A : Type 0} (xs : List A) (k : ℕ) (x : A) → k < length xs → x ≡ get_or xs k x → slice_get xs k ≡ Some x
of_option [] k x l e = absurd (omega arith)
of_option (y ∷ xs) zero x l e = ap Some (sym e)
of_option (y ∷ xs) (suc k) x l e = of_option xs k x (omega arith) e

no_option : {A : Type 0} (xs : List A) (k : ℕ) → length xs ≤ k → slice_get xs k ≡ None
no_option [] k l = refl
no_option (y ∷ xs) zero l = absurd (omega arith)
no_option (y ∷ xs) (suc k) l = no_option xs k (omega arith)

-- one flag each
pub are_flags : {A B : Type 0} (live : B → Bool) (f : A → List Atom) (xs : List A) (ys : List B) → length ys ≡ length xs
    → ((k : ℕ) (x : A) (y : B) → k < length xs → x ≡ get_or xs k x → y ≡ get_or ys k y → IsFlag (live y) (f x)) → AreFlags (map live ys) (map f xs)
are_flags live f [] [] l h = tt
are_flags live f [] (y ∷ ys) l h = absurd (omega arith)
are_flags live f (x ∷ xs) [] l h = absurd (omega arith)
are_flags live f (x ∷ xs) (y ∷ ys) l h = (h 0 x y (omega arith) refl refl, are_flags live f xs ys (omega arith) (λ k a b g e q. h (suc k) a b (omega arith) e q))

map_same : {A : Type 0} (xs : List A) → map (λ (x : A). x) xs ≡ xs
map_same [] = refl
map_same (x ∷ xs) = ap (λ ys. x ∷ ys) (map_same xs)

-- ---- atoms of one coefficient for each variable
pub full_atoms : (n : ℕ) (atoms : List Atom) → list_all (λ (a : Atom). eqb (length a.coefs) n) atoms ≡ true → AllByRecursion (IsAtom 10) atoms → AllByRecursion (IsAtom n) atoms
full_atoms n [] h g = tt
full_atoms n (a ∷ atoms) h g =
    let b = and_parts (eqb (length a.coefs) n) (list_all (λ (a : Atom). eqb (length a.coefs) n) atoms) h in
    (record { few = (let e = eqb-true (length a.coefs) n b.0 in omega arith); coefs_within = g.0.coefs_within; constant_within = g.0.constant_within }, full_atoms n atoms b.1 g.1)

pub all_true : (atoms : List Atom) (x : List ℤ) → ((a : Atom) → Among a atoms → holds_at a x ≡ true) → all_hold atoms x ≡ true
all_true [] x h = refl
all_true (a ∷ atoms) x h = and_from (holds_at a x) (all_hold atoms x) (h a head) (all_true atoms x (λ b m. h b (tail m)))

-- as many keeps as atoms where a line says live
as_many : (line : Liveness) (atoms : List Atom) (keeps : List Sparse) → has_keeps line atoms keeps ≡ true → is_live line ≡ true → length keeps ≡ length atoms
as_many line atoms keeps h e = eqb-true (length keeps) (if is_live line then length atoms else 0) h ∙ ap (λ (b : Bool). if b then length atoms else 0) e

pub entry_at : (atoms : List Atom) (cases : List (List Atom)) (when : List Liveness) (kss : List (List Sparse)) (i : ℕ) (w : Liveness) (ks : List Sparse) → entry_fits atoms cases when kss ≡ true
    → i < length when → i < length kss → w ≡ get_or when i w → ks ≡ get_or kss i ks → has_keeps w atoms ks ≡ true
entry_at atoms cases [] kss i w ks h l g e q = absurd (omega arith)
entry_at atoms cases (u ∷ ws) [] i w ks h l g e q = absurd cc
entry_at atoms cases (u ∷ ws) (js ∷ kss) zero w ks h l g e q = ap₂ (λ a b. has_keeps a atoms b) e q ∙ (and_parts (has_keeps u atoms js) _ h).0
entry_at atoms cases (u ∷ ws) (js ∷ kss) (suc i) w ks h l g e q =
    entry_at atoms (drop 1 cases) ws kss i w ks (and_parts (case_range (slice_get cases 0) js) _ (and_parts (has_keeps u atoms js) _ h).1).1 (omega arith) (omega arith) e q

-- ---- one program
module _ (s : System) (cases : List (List Atom)) (when : List Liveness) (x : SideCert) (wf : IsWellFormed s) (h : IsShaped s x) where
  pub location_full : (l : ℕ) → AllByRecursion (IsAtom s.vars) (atoms_at x l)
  location_full l = full_atoms s.vars (atoms_at x l) (test_or (is_full s) x.families l [] h.full refl) (location_atoms s x l h.part).each

  -- ---- edges
  module _ (lines : AreTrue (edge_tests s x)) where
    pub edge_is_flag : (k : ℕ) (e : Edge) (c : EdgeCert) → k < length s.edges → e ≡ get_or s.edges k e → c ≡ get_or x.edges k c → IsFlag (is_live c.live) (edge_atoms x e)
    edge_is_flag k e c l q r =
        let p = edge_part s x k e c h l q r in
        let t : edge_test s x e c ≡ Some true = ap₂ (edge_test s x) q r ∙ pair_true (edge_test s x) s.edges x.edges k e c lines l (let o = h.one_each in omega arith) in
        edge_flag s.vars e (atoms_at x e.from) p.edge (location_full e.from) c.live t

    pub edges_are_flags : AreFlags (map (λ (c : EdgeCert). is_live c.live) x.edges) (map (edge_atoms x) s.edges)
    edges_are_flags = are_flags (λ (c : EdgeCert). is_live c.live) (edge_atoms x) s.edges x.edges h.one_each edge_is_flag

    meets_atoms : (l : ℕ) (p : Point) → MeetsFamily (family_of x.families) l p → MeetsAll p (atoms_at x l)
    meets_atoms l p m = among_each (MeetsAt p) (atoms_at x l) (λ a r. m.each a (among_has a (atoms_at x l) r))

    pub edge_gives : AreTrue (keep_tests s x) → (k : ℕ) (e : Edge) (c : EdgeCert) (a : Atom) (p : Point) → k < length s.edges → e ≡ get_or s.edges k e → c ≡ get_or x.edges k c → Among a (atoms_at x e.to)
        → MeetsAll p (edge_atoms x e) → (is_affine_after e a.coefs ≡ true) × MeetsAt p (atom_after s.vars e a)
    edge_gives keeps k e c a p l q r m g = by (is_live c.live) refl
      where
        part : IsEdgePart s x e c
        part = edge_part s x k e c h l q r

        kept : has_keeps c.live (atoms_at x e.to) c.keeps ≡ true
        kept = (and_parts (has_keeps c.live (atoms_at x e.to) c.keeps) _ (and_parts (line_in_range (length (edge_atoms x e)) (edge_places s.vars e) c.live) _ part.fits).1).0

        all : AreTrue (paired (keep_test s x e) (atoms_at x e.to) c.keeps)
        all =
            subst (λ (d : Edge). AreTrue (paired (keep_test s x d) (atoms_at x d.to) c.keeps)) (sym q)
            (subst (λ (d : EdgeCert). AreTrue (paired (keep_test s x (get_or s.edges k e)) (atoms_at x (get_or s.edges k e).to) d.keeps)) (sym r)
            (list_true (λ (d : Edge) (f : EdgeCert). paired (keep_test s x d) (atoms_at x d.to) f.keeps) s.edges x.edges k e c keeps l (let o = h.one_each in omega arith)))

        shown : (j : ℕ) (v : Sparse) → j < length (atoms_at x e.to) → j < length c.keeps → a ≡ get_or (atoms_at x e.to) j a → v ≡ get_or c.keeps j v → keep_test s x e a v ≡ Some true
        shown j v i n u w = ap₂ (keep_test s x e) u w ∙ pair_true (keep_test s x e) (atoms_at x e.to) c.keeps j a v all i n

        gives : (v : Sparse) → keep_test s x e a v ≡ Some true → (is_affine_after e a.coefs ≡ true) × MeetsAt p (atom_after s.vars e a)
        gives v t =
            let more : List Test = Some (is_affine_after e a.coefs) ∷ [] in
            let b : Some (is_affine_after e a.coefs) ≡ Some true = (one_true (Some (is_affine_after e a.coefs)) [] (keep_shows (edge_atoms x e) (edge_places s.vars e) (atom_after s.vars e a) more v t).0).0 in
            (cc, keep_gives s.vars e (atoms_at x e.from) part.edge (location_full e.from) a more v t p g)

        by : (b : Bool) → is_live c.live ≡ b → (is_affine_after e a.coefs ≡ true) × MeetsAt p (atom_after s.vars e a)
        by true z =
            let o = among_at a a (atoms_at x e.to) m in
            let n : length c.keeps ≡ length (atoms_at x e.to) = as_many c.live (atoms_at x e.to) c.keeps kept z in
            let i : o.0 < length c.keeps = (let y : o.0 < length (atoms_at x e.to) = o.1 in omega arith) in
            let v = picked c.keeps o.0 i in
            gives v.0 (shown o.0 v.0 o.1 i (sym o.2) v.1)
        by false z = absurd (flag-false (is_live c.live) (edge_atoms x e) (edge_is_flag k e c l q r) z p g)

    pub each_edge_gives : AreTrue (keep_tests s x) → (e : Edge) (a : Atom) → Among e s.edges → Among a (atoms_at x e.to) → EdgeGives (graph_of s) (family_of x.families) e a
    each_edge_gives keeps e a m n p mf mg =
        let o = among_at e e s.edges m in
        let i : o.0 < length x.edges = (let y : o.0 < length s.edges = o.1 in let z = h.one_each in omega arith) in
        let c = picked x.edges o.0 i in
        edge_gives keeps o.0 e c.0 a p o.1 (sym o.2) c.1 n (each-++ (MeetsAt p) (atoms_at x e.from) e.guard (meets_atoms e.from p mf) mg)

  -- ---- the cases
  module _ (lines : AreTrue (case_tests s.params cases when)) where
    tested : (k : ℕ) → k < max (length cases) (length when) → numbered_case s.params cases when k ≡ Some true
    tested k l = numbered_true (numbered_case s.params cases when) (max (length cases) (length when)) lines k l

    no_case : (o : Option Liveness) → case_test s.params None o ≡ Some true → ⊥
    no_case o e = absurd cc

    no_line : (o : Option (List Atom)) → case_test s.params o None ≡ Some true → ⊥
    no_line None e = absurd cc
    no_line (Some case) e = absurd cc

    pub has_line : (k : ℕ) → k < length cases → k < length when
    has_line k l = by (leb (length when) k) refl
      where
        by : (b : Bool) → leb (length when) k ≡ b → k < length when
        by false e = (let d = leb-false (length when) k e in omega arith)
        by true e = absurd (no_line (slice_get cases k) (ap (case_test s.params (slice_get cases k)) (sym (no_option when k (leb-true (length when) k e))) ∙ tested k (omega arith)))

    pub has_case : (k : ℕ) → k < length when → k < length cases
    has_case k l = by (leb (length cases) k) refl
      where
        by : (b : Bool) → leb (length cases) k ≡ b → k < length cases
        by false e = (let d = leb-false (length cases) k e in omega arith)
        by true e = absurd (no_case (slice_get when k) (ap (λ o. case_test s.params o (slice_get when k)) (sym (no_option cases k (leb-true (length cases) k e))) ∙ tested k (omega arith)))

    pub same_count : length when ≡ length cases
    same_count = by (leb (length when) (length cases)) (leb (length cases) (length when)) refl refl
      where
        by : (a b : Bool) → leb (length when) (length cases) ≡ a → leb (length cases) (length when) ≡ b → length when ≡ length cases
        by true true e q = (let d = leb-true (length when) (length cases) e in let f = leb-true (length cases) (length when) q in omega arith)
        by false b e q = absurd (let d = leb-false (length when) (length cases) e in let f = has_case (length cases) (omega arith) in omega arith)
        by true false e q = absurd (let d = leb-false (length cases) (length when) q in let f = has_line (length when) (omega arith) in omega arith)

    module _ (ok : AllByRecursion (IsCase s.params) cases) where
      pub case_is_flag : (k : ℕ) (case : List Atom) (w : Liveness) → k < length cases → case ≡ get_or cases k case → w ≡ get_or when k w → IsFlag (is_live w) case
      case_is_flag k case w l q r =
          let t : case_test s.params (Some case) (Some w) ≡ Some true = ap₂ (case_test s.params) (sym (of_option cases k case l q)) (sym (of_option when k w (has_line k l) r)) ∙ tested k (omega arith) in
          line_flag case s.params w (over_atoms s.params case (each_is (IsCase s.params) cases k case ok l q).within) (one_true (Some (line_in_range (length case) s.params w)) (line_parts case s.params w) t).1

      pub cases_are_flags : AreFlags (map is_live when) cases
      cases_are_flags = subst (λ xs. AreFlags (map is_live when) xs) (map_same cases) (are_flags is_live (λ (case : List Atom). case) cases when same_count case_is_flag)

      module _ (keeps : AreTrue (entry_tests s cases x)) (one_each : length x.entry_keeps ≡ length when) (fit : entry_fits (atoms_at x 0) cases when x.entry_keeps ≡ true) where
        pub case_gives : (k : ℕ) (case : List Atom) (w : Liveness) (ks : List Sparse) (a : Atom) → k < length cases → case ≡ get_or cases k case → w ≡ get_or when k w → ks ≡ get_or x.entry_keeps k ks
            → Among a (atoms_at x 0) → Entails case (at_start s.params a)
        case_gives k case w ks a l q r u m = by (is_live w) refl
          where
            line : k < length when
            line = has_line k l

            all : AreTrue (paired (entry_test s case) (atoms_at x 0) ks)
            all =
                subst (λ (d : List Atom). AreTrue (paired (entry_test s d) (atoms_at x 0) ks)) (sym q)
                (subst (λ (d : List Sparse). AreTrue (paired (entry_test s (get_or cases k case)) (atoms_at x 0) d)) (sym u)
                (list_true (λ (d : List Atom) (f : List Sparse). paired (entry_test s d) (atoms_at x 0) f) cases x.entry_keeps k case ks keeps l (omega (arith, line))))

            by : (b : Bool) → is_live w ≡ b → Entails case (at_start s.params a)
            by true z =
                let o = among_at a a (atoms_at x 0) m in
                let n : length ks ≡ length (atoms_at x 0) = as_many w (atoms_at x 0) ks (entry_at (atoms_at x 0) cases when x.entry_keeps k w ks fit line (omega (arith, line)) r u) z in
                let i : o.0 < length ks = (let y : o.0 < length (atoms_at x 0) = o.1 in omega arith) in
                let v = picked ks o.0 i in
                let t : entry_test s case a v.0 ≡ Some true = ap₂ (entry_test s case) (sym o.2) v.1 ∙ pair_true (entry_test s case) (atoms_at x 0) ks o.0 a v.0 all o.1 i in
                entry_gives case s.params a v.0 (over_atoms s.params case (each_is (IsCase s.params) cases k case ok l q).within) t
            by false z = λ p g. absurd (flag-false (is_live w) case (case_is_flag k case w l q r) z p g)

        pub cases_give : (a : Atom) → Among a (atoms_at x 0) → CasesGive (graph_of s) cases a
        cases_give a m case n =
            let o = among_at case case cases n in
            let i : o.0 < length when = has_line o.0 o.1 in
            let w = picked when o.0 i in
            let j : o.0 < length x.entry_keeps = omega (arith, i) in
            let ks = picked x.entry_keeps o.0 j in
            case_gives o.0 case w.0 ks.0 a o.1 (sym o.2) w.1 ks.1 m

        -- ---- so the atoms are an inductive family, and hold wherever a path leads
        pub inductive : AreTrue (edge_tests s x) → AreTrue (keep_tests s x) → IsInductive (graph_of s) cases (family_of x.families)
        inductive edges moved l a j = record {
          entry = λ z. cases_give a (has_among (atoms_at x 0) a (subst (λ i. family_of x.families i a ≡ true) z j));
          edges = λ e m z. each_edge_gives edges moved e a m (has_among (atoms_at x e.to) a (subst (λ i. family_of x.families i a ≡ true) (sym z) j));
        }

  pub over : IsOver s.vars (family_of x.families)
  over l a j = each_among (λ b. length b.coefs ≤ s.vars) (over_atoms s.vars (atoms_at x l) (location_full l)) (has_among (atoms_at x l) a j)

  pub exit_is_flag : exit_test s x ≡ Some true → IsFlag (is_live x.exit_line) (exit_atoms s x)
  exit_is_flag t = line_flag (exit_atoms s x) s.vars x.exit_line (over_atoms s.vars (exit_atoms s x) (location_full (s.locs - 1))) t

  pub reached : IsInductive (graph_of s) cases (family_of x.families) → (v : State) (l : ℕ) (y : State) (cost : ℤ) → length v ≡ s.params → Allowed cases v → Path s.edges 0 (start_in s v) cost l y → all_hold (atoms_at x l) y ≡ true
  reached ind v l y cost n a p =
      all_true (atoms_at x l) y (λ b m. reached_meet (graph_of s) cases (family_of x.families) v l y cost b (systems_are_graphs s wf) over ind n a p (among_has b (atoms_at x l) m))
