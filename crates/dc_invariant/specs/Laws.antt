-- Each part of the session is one list of problems, and what is kept of it is one.
use Rattle.std.specs.Prelude.{◌≡◌, ℕ, Bool, List}
use Rattle.dc_syntax.specs.declared.tree.Side.{Side}
use Rattle.std.specs.List.{AllByRecursion}
use Rattle.dc_affine.specs.declared.atom.Atom.{Atom}
use Rattle.dc_affine.specs.Atoms.{IsFullAtom}
use Rattle.dc_cert.specs.declared.certificate.SideCert.{SideCert}
use Rattle.dc_entail.specs.Asked.{Asked}
use Rattle.dc_rows.specs.declared.kinds.Candidates.{Candidates}
use Rattle.dc_families.specs.Graphs.{Graph}
use Rattle.dc_rows.specs.Candidate.{AreCandidates}
use Rattle.dc_families.specs.Families.{Family}
use Rattle.dc_families.specs.Printed.{Question, ArePrinted}
use Rattle.dc_invariant.specs.Prunes.{PrunesAsk}
use Rattle.dc_invariant.specs.Keeps.{KeepsAsk}
use Rattle.dc_invariant.specs.Answers.{TellsKeeps}

-- ---- pruning
abbrev pub HasPruning : Type 0
HasPruning =
    (side : Side) (s : Graph) (c : Candidates) (J : Family) → (asked : List Asked)
    × PrunesAsk side c J s asked

abbrev pub OnePruning : Type 0
OnePruning =
    (side : Side) (s : Graph) (c : Candidates) (J : Family) (ps qs : List Asked)
    → PrunesAsk side c J s ps → PrunesAsk side c J s qs → ps ≡ qs

-- printed atoms are such as `keep_proofs` is handed
abbrev pub PrintedAreAtoms : Type 0
PrintedAreAtoms =
    (s : Graph) (c : Candidates) (J : Family) (printed : List (List Atom))
    (asked : List (List Question))
    → AreCandidates s.vars c → ArePrinted s c J printed asked
    → AllByRecursion (AllByRecursion (IsFullAtom s.vars)) printed

-- ---- keeps
abbrev pub HasKeeping : Type 0
HasKeeping =
    (side : Side) (s : Graph) (printed : List (List Atom)) (cases : List (List Atom))
    (live : List Bool)
    → (asked : List Asked) × KeepsAsk side s printed cases live asked

abbrev pub OneKeeping : Type 0
OneKeeping =
    (side : Side) (s : Graph) (printed : List (List Atom)) (cases : List (List Atom))
    (live : List Bool) (ps qs : List Asked)
    → KeepsAsk side s printed cases live ps → KeepsAsk side s printed cases live qs → ps ≡ qs

-- the side of the certificate is determined
abbrev pub OneSide : Type 0
OneSide =
    (side : Side) (s : Graph) (cases : List (List Atom)) (live : List Bool)
    (printed : List (List Atom)) (budget : ℕ) (x y : SideCert)
    → TellsKeeps side s cases live printed budget x → TellsKeeps side s cases live printed budget y
    → x ≡ y
