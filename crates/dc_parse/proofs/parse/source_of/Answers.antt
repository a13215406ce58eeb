use Rattle.std.proofs.Common.{length}
use Rattle.dc_grammar.specs.Language.{source}
use Rattle.dc_parse.proofs.Assembled.{raised_found}
use Rattle.dc_parse.proofs.parse.source_of.Goals as goal

pub returns-in-Err : goal.returns-in-Err
returns-in-Err c = raised_found source c.args.tokens.now (length c.args.text.now) c.in-Err.fault c.raise.result c.raise.ensures c.in-Err.ensures
