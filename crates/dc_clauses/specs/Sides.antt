-- Clauses 1 to 6: the atoms of the two programs, and what shows them.
use Rattle.std.specs.Prelude.{ℕ, ◌+◌, ◌-◌, Bool, true, false, ◌&&◌, eqb, if◌then◌else◌, List, [], ◌∷◌, ◌++◌, drop, flat_map, length, map, max, slice_index_or, slice_get, Option, Some, None}
use Rattle.std.specs.List.{list_all, range_with_len}
use Rattle.dc_affine.specs.declared.atom.Atom.{Atom}
use Rattle.dc_system.specs.declared.edges.Edge.{Edge}
use Rattle.dc_system.specs.declared.edges.System.{System}
use Rattle.dc_system.specs.After.{atom_after, is_affine_after}
use Rattle.dc_cert.specs.Vectors.{in_range}
use Rattle.dc_cert.specs.declared.sparse.Sparse.{Sparse}
use Rattle.dc_cert.specs.declared.certificate.Liveness.{Liveness}
use Rattle.dc_cert.specs.declared.certificate.EdgeCert.{EdgeCert}
use Rattle.dc_cert.specs.declared.certificate.SideCert.{SideCert}
use Rattle.dc_cert.specs.declared.certificate.Certificate.{Certificate}
use Rattle.dc_cert.specs.Ranges.{is_live}
use Rattle.dc_clauses.specs.Steps.{Test, all_of, Step, counted}
use Rattle.dc_clauses.specs.Lines.{line_parts, line_in_range, keep_parts}

-- two lists, item by item; what one of them has more is left out
abbrev pub paired : {A B C : Type 0} → (A → B → C) → List A → List B → List C
paired f [] ys = []
paired f (x ∷ xs) [] = []
paired f (x ∷ xs) (y ∷ ys) = f x y ∷ paired f xs ys

abbrev pub joined : List (List Test) → List Test
joined tss = flat_map (λ ts. ts) tss

-- the atoms of a location, those along an edge, and those of the exit
abbrev pub atoms_at : SideCert → ℕ → List Atom
atoms_at x l = slice_index_or x.families l []

abbrev pub edge_atoms : SideCert → Edge → List Atom
edge_atoms x e = atoms_at x e.from ++ e.guard

abbrev pub exit_atoms : System → SideCert → List Atom
exit_atoms s x = atoms_at x (s.locs - 1)

-- the places over which an edge speaks: the variables, and the chosen value where it has one
abbrev pub edge_places : ℕ → Edge → ℕ
edge_places n e = if e.any then n + 1 else n

-- ---- clause 1: the shape
-- one coefficient for each variable
abbrev pub is_full : System → List Atom → Bool
is_full s atoms = list_all (λ (a : Atom). eqb (length a.coefs) s.vars) atoms

-- one keep for each atom where the line says live, else none
abbrev pub has_keeps : Liveness → List Atom → List Sparse → Bool
has_keeps line atoms keeps = eqb (length keeps) (if is_live line then length atoms else 0)

-- the keeps of a case are in range; those of a case that doesn't exist count so
abbrev pub case_range : Option (List Atom) → List Sparse → Bool
case_range None keeps = true
case_range (Some case) keeps = list_all (in_range (length case)) keeps

-- the keeps of the entry, with the line of each case
abbrev pub entry_fits : List Atom → List (List Atom) → List Liveness → List (List Sparse) → Bool
entry_fits atoms cases [] [] = true
entry_fits atoms cases [] (ks ∷ kss) = false
entry_fits atoms cases (w ∷ ws) [] = false
entry_fits atoms cases (w ∷ ws) (ks ∷ kss) =
    has_keeps w atoms ks
    && (case_range (slice_get cases 0) ks && entry_fits atoms (drop 1 cases) ws kss)

abbrev pub edge_fits : System → SideCert → Edge → EdgeCert → Bool
edge_fits s x e c =
    line_in_range (length (edge_atoms x e)) (edge_places s.vars e) c.live
    && (has_keeps c.live (atoms_at x e.to) c.keeps
    && list_all (in_range (length (edge_atoms x e))) c.keeps)

abbrev pub shape_fits : System → List (List Atom) → List Liveness → SideCert → Bool
shape_fits s cases when x =
    eqb (length x.families) s.locs
    && (list_all (is_full s) x.families
    && (entry_fits (atoms_at x 0) cases when x.entry_keeps
    && (eqb (length x.edges) (length s.edges)
    && (list_all (λ fits. fits) (paired (edge_fits s x) s.edges x.edges)
    && line_in_range (length (exit_atoms s x)) s.vars x.exit_line))))

-- ---- clause 2: for each number, both the case and its line are there, and the line shows the
-- case dead or live
abbrev pub case_test : ℕ → Option (List Atom) → Option Liveness → Test
case_test n None line = Some false
case_test n (Some case) None = Some false
case_test n (Some case) (Some line) =
    all_of (Some (line_in_range (length case) n line) ∷ line_parts case n line)

abbrev pub numbered_case : ℕ → List (List Atom) → List Liveness → ℕ → Test
numbered_case n cases when k = case_test n (slice_get cases k) (slice_get when k)

abbrev pub case_tests : ℕ → List (List Atom) → List Liveness → List Test
case_tests n cases when =
    map (numbered_case n cases when) (range_with_len 0 (max (length cases) (length when)))

-- ---- clause 3: the keeps of the entry, case by case. Over the parameters alone an atom has its
-- locals set to 0
abbrev pub entry_test : System → List Atom → Atom → Sparse → Test
entry_test s case a k = all_of (keep_parts case s.params a [] k)

abbrev pub entry_tests : System → List (List Atom) → SideCert → List Test
entry_tests s cases x =
    joined (paired (λ case ks. paired (entry_test s case) (atoms_at x 0) ks) cases x.entry_keeps)

-- ---- clause 4: the lines of the edges
abbrev pub edge_test : System → SideCert → Edge → EdgeCert → Test
edge_test s x e c = all_of (line_parts (edge_atoms x e) (edge_places s.vars e) c.live)

abbrev pub edge_tests : System → SideCert → List Test
edge_tests s x = paired (edge_test s x) s.edges x.edges

-- ---- clause 5: the keeps of the edges, each for an atom of the target after the update, which is
-- affine
abbrev pub keep_test : System → SideCert → Edge → Atom → Sparse → Test
keep_test s x e a k =
    all_of (keep_parts (edge_atoms x e) (edge_places s.vars e) (atom_after s.vars e a)
    (Some (is_affine_after e a.coefs) ∷ []) k)

abbrev pub keep_tests : System → SideCert → List Test
keep_tests s x =
    joined (paired (λ e c. paired (keep_test s x e) (atoms_at x e.to) c.keeps) s.edges x.edges)

-- ---- clause 6: the line of the exit
abbrev pub exit_test : System → SideCert → Test
exit_test s x = all_of (line_parts (exit_atoms s x) s.vars x.exit_line)

abbrev pub exit_tests : System → SideCert → System → SideCert → List Test
exit_tests s x t y = exit_test s x ∷ exit_test t y ∷ []

-- ---- clauses 1 to 6 in order, in each of them new before old
module _ (new old : System) (cases : List (List Atom)) (c : Certificate) where
  abbrev pub shape_tests : List Test
  shape_tests =
      Some (shape_fits new cases c.when c.new_side) ∷ Some (shape_fits old cases c.when c.old_side)
      ∷ []

  abbrev pub family_steps : List Step
  family_steps =
      counted 1 0 shape_tests
      ++ (counted 2 0 (case_tests new.params cases c.when)
      ++ (counted 3 0 (entry_tests new cases c.new_side ++ entry_tests old cases c.old_side)
      ++ (counted 4 0 (edge_tests new c.new_side ++ edge_tests old c.old_side)
      ++ (counted 5 0 (keep_tests new c.new_side ++ keep_tests old c.old_side)
      ++ counted 6 0 (exit_tests new c.new_side old c.old_side)))))
