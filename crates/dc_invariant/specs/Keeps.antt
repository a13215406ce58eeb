-- What shows the printed atoms of a program: the problems in order, and the side of the certificate.
use Rattle.std.specs.Prelude.{◌≡◌, ℕ, suc, ◌-◌, Bool, if◌then◌else◌, List, [], ◌∷◌, ◌++◌, map, slice_index_or}
use Rattle.dc_syntax.specs.declared.tree.Side.{Side}
use Rattle.dc_affine.specs.declared.atom.Atom.{Atom}
use Rattle.dc_system.specs.declared.edges.Edge.{Edge}
use Rattle.dc_system.specs.After.{atom_after}
use Rattle.dc_cert.specs.declared.sparse.Sparse.{Sparse}
use Rattle.dc_cert.specs.declared.certificate.EdgeCert.{EdgeCert}
use Rattle.dc_cert.specs.declared.certificate.SideCert.{SideCert}
use Rattle.dc_cert.specs.Ranges.{is_live}
use Rattle.dc_entail.specs.declared.answer.Site.TheVariants as site
use Rattle.dc_points.specs.Stated.{empty_problem, sup_problem}
use Rattle.dc_points.specs.Shown.{AreFlags}
use Rattle.dc_entail.specs.Asked.{Asked, ask}
use Rattle.dc_families.specs.Graphs.{Graph}
use Rattle.dc_families.specs.Moves.{at_start, edge_places, form_after}
use Rattle.dc_greatest.specs.Parts.{for_live, for_edges}
use Rattle.dc_invariant.specs.Shown.{AreKeeps, IsLine}

-- the items with their numbers, from k on
abbrev pub numbered : {A B : Type 0} → (ℕ → A → B) → ℕ → List A → List B
numbered f k [] = []
numbered f k (x ∷ xs) = f k x ∷ numbered f (suc k) xs

module _ (s : Graph) (printed : List (List Atom)) where
  abbrev pub printed_at : ℕ → List Atom
  printed_at l = slice_index_or printed l []

  abbrev pub exit_atoms : List Atom
  exit_atoms = printed_at (s.locs - 1)

  -- the atoms of an edge: those printed at its source, then its guard
  abbrev pub kept_atoms : Edge → List Atom
  kept_atoms e = printed_at e.from ++ e.guard

  -- the flags tell which edges are live
  abbrev pub AreLive : List Bool → Type 0
  AreLive flags = AreFlags flags (map kept_atoms s.edges)

-- ---- the problems: case by case how the case shows each printed atom of the entry; then edge by
-- edge whether it is dead and, where it is live, how it shows each printed atom of its target; then
-- whether the exit is dead
module _ (side : Side) (s : Graph) (printed : List (List Atom)) where
  abbrev pub atom_at_entry : ℕ → List Atom → ℕ → Atom → Asked
  atom_at_entry k case i a =
      ask (site.KeptEntry side k i) (sup_problem case (at_start s.params a).coefs)

  abbrev pub entry_asked : ℕ → List Atom → List Asked
  entry_asked k case = numbered (atom_at_entry k case) 0 (printed_at s printed 0)

  abbrev pub atom_along : ℕ → Edge → ℕ → Atom → Asked
  atom_along k e i a =
      ask (site.KeptAtom side k i)
      (sup_problem (kept_atoms s printed e) (form_after s.vars e a.coefs))

  abbrev pub edge_dead : ℕ → Edge → Asked
  edge_dead k e =
      ask (site.KeptEdge side k) (empty_problem (kept_atoms s printed e) (edge_places s.vars e))

  abbrev pub edge_asked : ℕ → Edge → Bool → List Asked
  edge_asked k e live =
      edge_dead k e ∷ (if live then numbered (atom_along k e) 0 (printed_at s printed e.to) else [])

  abbrev pub exit_asked : Asked
  exit_asked = ask (site.Exit side) (empty_problem (exit_atoms s printed) s.vars)

  abbrev pub keeps_asked : List (List Atom) → List Bool → List Bool → List Asked
  keeps_asked cases live flags =
      for_live entry_asked 0 cases live ++ (for_edges edge_asked 0 s.edges flags ++ exit_asked ∷ [])

  abbrev pub KeepsAsk : List (List Atom) → List Bool → List Asked → Type 0
  KeepsAsk cases live asked =
      (flags : List Bool) × AreLive s printed flags × (asked ≡ keeps_asked cases live flags)

-- ---- the side of the certificate
module _ (s : Graph) (printed : List (List Atom)) (budget : ℕ) where
  -- for each live case a keep of each printed atom of the entry, with the locals 0; for each dead
  -- case none
  abbrev pub AreCaseKeeps : List Atom → Bool → List Sparse → Type 0
  AreCaseKeeps case live keeps =
      AreKeeps case s.params (λ a. (at_start s.params a).coefs) (at_start s.params) budget
      (if live then printed_at s printed 0 else []) keeps

  abbrev pub AreEntryKeeps : List (List Atom) → List Bool → List (List Sparse) → Type 0
  AreEntryKeeps [] live [] = Unit {0}
  AreEntryKeeps [] live (ks ∷ keeps) = ⊥
  AreEntryKeeps (case ∷ cases) [] keeps = ⊥
  AreEntryKeeps (case ∷ cases) (b ∷ live) [] = ⊥
  AreEntryKeeps (case ∷ cases) (b ∷ live) (ks ∷ keeps) =
      AreCaseKeeps case b ks × AreEntryKeeps cases live keeps

  -- for each edge a line, which says whether it is live, and where it is a keep of each printed
  -- atom of its target, after the edge
  pub record IsEdgePart (e : Edge) (live : Bool) (x : EdgeCert) : Type 0 where
    pub flag : is_live x.live ≡ live
    pub line : IsLine (kept_atoms s printed e) (edge_places s.vars e) budget x.live
    pub keeps : AreKeeps (kept_atoms s printed e) (edge_places s.vars e)
        (λ a. form_after s.vars e a.coefs) (atom_after s.vars e) budget
        (if live then printed_at s printed e.to else []) x.keeps

  abbrev pub AreEdgeParts : List Edge → List Bool → List EdgeCert → Type 0
  AreEdgeParts [] flags [] = Unit {0}
  AreEdgeParts [] flags (x ∷ xs) = ⊥
  AreEdgeParts (e ∷ es) [] xs = ⊥
  AreEdgeParts (e ∷ es) (b ∷ flags) [] = ⊥
  AreEdgeParts (e ∷ es) (b ∷ flags) (x ∷ xs) = IsEdgePart e b x × AreEdgeParts es flags xs

  -- the families as they were handed in, and what shows them
  pub record IsSidePart (cases : List (List Atom)) (live flags : List Bool)
      (x : SideCert) : Type 0 where
    pub families : x.families ≡ printed
    pub entry_keeps : AreEntryKeeps cases live x.entry_keeps
    pub edges : AreEdgeParts s.edges flags x.edges
    pub exit_line : IsLine (exit_atoms s printed) s.vars budget x.exit_line
