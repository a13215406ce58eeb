use Rattle.dc_tokens.proofs.Fronts.{token_at, wide_at}
use Rattle.dc_tokens.proofs.scan.token_piece.Goals as goal

pub returns-in-Some : goal.returns-in-Some
returns-in-Some c = token_at c.args.at c.args.cut.len c.args.bytes.now c.args.cut.kind c.in-Some.value c.requires.longest c.in-Some.ensures.0 c.in-Some.ensures.1

pub returns-in-None : goal.returns-in-None
returns-in-None c = wide_at c.args.at c.args.cut.len c.args.bytes.now c.args.cut.kind c.requires.longest c.in-None.ensures.0 c.in-None.ensures.1
