-- What `prune` and `keep_proofs` answer.
use Rattle.std.specs.Prelude.{ℕ, Bool, List}
use Rattle.dc_syntax.specs.declared.tree.Side.{Side}
use Rattle.dc_affine.specs.declared.atom.Atom.{Atom}
use Rattle.dc_cert.specs.declared.certificate.SideCert.{SideCert}
use Rattle.dc_entail.specs.Asked.{AllDone}
use Rattle.dc_rows.specs.declared.kinds.Candidates.{Candidates}
use Rattle.dc_families.specs.Graphs.{Graph}
use Rattle.dc_families.specs.Families.{Family}
use Rattle.dc_families.specs.Printed.{Question, ArePrinted}
use Rattle.dc_invariant.specs.Prunes.{questions_asked}
use Rattle.dc_invariant.specs.Keeps.{AreLive, keeps_asked, IsSidePart}

-- the printed atoms of the family, whose problems all come to their end
pub record TellsPrinted (side : Side) (s : Graph) (c : Candidates) (J : Family) (budget : ℕ)
    (printed : List (List Atom)) : Type 0 where
  pub questions : List (List Question)
  pub printed_is : ArePrinted s c J printed questions
  pub through : AllDone budget (questions_asked side c J 0 questions)

-- the side of the certificate, whose problems all come to their end
pub record TellsKeeps (side : Side) (s : Graph) (cases : List (List Atom)) (live : List Bool)
    (printed : List (List Atom)) (budget : ℕ) (x : SideCert) : Type 0 where
  pub flags : List Bool
  pub right : AreLive s printed flags
  pub part : IsSidePart s printed budget cases live flags x
  pub through : AllDone budget (keeps_asked side s printed cases live flags)
