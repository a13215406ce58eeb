use Rattle.dc_printed.proofs.Sources.{printed}
use Rattle.dc_printed.proofs.laws.a_printed_text_has_its_tree.Goals as goal

pub returns : goal.returns
returns c p h = let d = printed p h in d.has
