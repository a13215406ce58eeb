use Rattle.dc_grammar.proofs.Alone.{one_tree}
use Rattle.dc_grammar.proofs.LanguageReader.{language_ahead}
use Rattle.dc_grammar.proofs.laws.one_language_tree.Goals as goal

pub returns : goal.returns
returns c = λ x a b d e. one_tree language_ahead x c.args.tokens.now a b d e
