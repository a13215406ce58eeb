use Rattle.std.proofs.Common.{sym, subst}
use Rattle.dc_syntax.specs.Params.{params_of}
use Rattle.dc_parse.specs.Outcomes.{says}
use Rattle.dc_parse.specs.Answers.{ConditionOutcome}
use Rattle.dc_parse.proofs.Refused.{refused}
use Rattle.dc_parse.proofs.parse.parse_when.Goals as goal

pub returns-in-Err-clause-fault : goal.returns-in-Err-clause-fault
returns-in-Err-clause-fault c = refused (ConditionOutcome (params_of c.args.p.now) c.args.text.now) c.args.text.now c.in-Err.fault c.locate.result.kind c.locate.result.line c.locate.result.col c.locate.ensures.kind c.locate.ensures.want c.locate.ensures.offset c.in-Err.ensures.fault

pub returns-in-Ok-lists-clause-says : goal.returns-in-Ok-lists-clause-says
returns-in-Ok-lists-clause-says c = subst (λ v. ConditionOutcome (params_of c.args.p.now) c.args.text.now (says v)) (sym c.in-Ok-lists.ensures) c.in-Ok.ensures.says
