use Rattle.dc_lines.proofs.LinesOf.{first_is, no_line}
use Rattle.dc_lines.proofs.pieces.first_line.Goals as goal

pub returns-in-Some : goal.returns-in-Some
returns-in-Some c = first_is c.args.text.now c.cut.result.0.now c.cut.result.1.now c.in-Some.rest.now c.cut.ensures.front c.cut.ensures.rest c.in-Some.ensures

pub returns-in-None : goal.returns-in-None
returns-in-None c = no_line c.args.text.now c.cut.result.1.now c.cut.ensures.rest c.in-None.ensures
