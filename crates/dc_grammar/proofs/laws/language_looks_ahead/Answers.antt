use Rattle.dc_grammar.proofs.LanguageReader.{language_ahead}
use Rattle.dc_grammar.proofs.laws.language_looks_ahead.Goals as goal

pub returns : goal.returns
returns c = language_ahead
