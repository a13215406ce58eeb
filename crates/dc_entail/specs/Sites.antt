-- How a site of an analysis is spelt.
use Rattle.std.specs.Prelude.{ℕ, List, ◌++◌, codes}
use Rattle.std.specs.Fmt.{decimal}
use Rattle.dc_syntax.specs.declared.tree.Side.{Side}
use Rattle.dc_syntax.specs.declared.tree.Side.TheVariants.{New, Old}
use Rattle.dc_entail.specs.declared.answer.Site.{Site}
use Rattle.dc_entail.specs.declared.answer.Site.TheVariants.{When, EntryRow, Edge, EdgeRow, Prune, KeptEntry, KeptEdge, KeptAtom, Exit, Main}

abbrev pub side_text : Side → List ℕ
side_text New = codes "new"
side_text Old = codes "old"

abbrev pub site_text : Site → List ℕ
site_text (When c) = codes "when " ++ decimal c
site_text (EntryRow s c r) =
    side_text s ++ (codes " entry case " ++ (decimal c ++ (codes " row " ++ decimal r)))
site_text (Edge s e) = side_text s ++ (codes " edge " ++ decimal e)
site_text (EdgeRow s e r) =
    side_text s ++ (codes " edge " ++ (decimal e ++ (codes " row " ++ decimal r)))
site_text (Prune s l r) =
    side_text s ++ (codes " prune " ++ (decimal l ++ (codes " row " ++ decimal r)))
site_text (KeptEntry s c a) =
    side_text s ++ (codes " kept entry case " ++ (decimal c ++ (codes " atom " ++ decimal a)))
site_text (KeptEdge s e) = side_text s ++ (codes " kept edge " ++ decimal e)
site_text (KeptAtom s e a) =
    side_text s ++ (codes " kept edge " ++ (decimal e ++ (codes " atom " ++ decimal a)))
site_text (Exit s) = side_text s ++ codes " exit"
site_text Main = codes "main"
