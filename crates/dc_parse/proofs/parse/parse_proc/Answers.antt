use Rattle.dc_parse.specs.Answers.{SourceOutcome}
use Rattle.dc_parse.proofs.Refused.{refused}
use Rattle.dc_parse.proofs.parse.parse_proc.Goals as goal

pub returns-in-Err-clause-fault : goal.returns-in-Err-clause-fault
returns-in-Err-clause-fault c = refused (SourceOutcome c.args.text.now) c.args.text.now c.in-Err.fault c.locate.result.kind c.locate.result.line c.locate.result.col c.locate.ensures.kind c.locate.ensures.want c.locate.ensures.offset c.in-Err.ensures.fault
