use Rattle.dc_grammar.specs.Depth.{IsDeep}
use Rattle.dc_grammar.proofs.LanguageReader.{language_ahead}
use Rattle.dc_grammar.proofs.Right.{deep_or_not, nothing_shallow}
use Rattle.dc_grammar.proofs.Verdicts.{has_one_verdict}
use Rattle.dc_grammar.proofs.laws.one_language_verdict.Goals as goal

pub returns : goal.returns
returns c = has_one_verdict language_ahead IsDeep deep_or_not nothing_shallow c.args.tokens.now
