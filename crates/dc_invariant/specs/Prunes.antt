-- The problems that are asked for printed atoms, in order.
use Rattle.std.specs.Prelude.{◌≡◌, ℕ, suc, List, [], ◌∷◌, ◌++◌, map}
use Rattle.dc_syntax.specs.declared.tree.Side.{Side}
use Rattle.dc_affine.specs.declared.atom.Atom.{Atom}
use Rattle.dc_entail.specs.declared.answer.Site.TheVariants as site
use Rattle.dc_points.specs.Stated.{sup_problem}
use Rattle.dc_entail.specs.Asked.{Asked, ask}
use Rattle.dc_rows.specs.declared.kinds.Candidates.{Candidates}
use Rattle.dc_rows.specs.Candidate.{row_at}
use Rattle.dc_families.specs.Graphs.{Graph}
use Rattle.dc_families.specs.Families.{Family}
use Rattle.dc_families.specs.Printed.{Question, atoms_of, ArePrinted}

module _ (side : Side) (c : Candidates) (J : Family) where
  -- from which bound on the atoms of other rows entail a row
  abbrev pub question_asked : ℕ → Question → Asked
  question_asked l q =
      ask (site.Prune side l q.row) (sup_problem (atoms_of c J l q.others) (row_at c q.row))

  -- location by location, where the first has number l
  abbrev pub questions_asked : ℕ → List (List Question) → List Asked
  questions_asked l [] = []
  questions_asked l (qs ∷ rest) = map (question_asked l) qs ++ questions_asked (suc l) rest

  -- for the printed atoms of all locations
  abbrev pub PrunesAsk : Graph → List Asked → Type 0
  PrunesAsk s asked =
      (printed : List (List Atom)) × (questions : List (List Question))
      × ArePrinted s c J printed questions × (asked ≡ questions_asked 0 questions)
