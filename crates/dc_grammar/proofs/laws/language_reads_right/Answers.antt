use Rattle.dc_grammar.proofs.LanguageReader.{language_ahead}
use Rattle.dc_grammar.proofs.Right.{reads_right}
use Rattle.dc_grammar.proofs.laws.language_reads_right.Goals as goal

pub returns : goal.returns
returns c = reads_right language_ahead
