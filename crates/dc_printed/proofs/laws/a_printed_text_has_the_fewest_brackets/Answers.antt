use Rattle.dc_printed.proofs.Fewest.{fewest_brackets}
use Rattle.dc_printed.proofs.laws.a_printed_text_has_the_fewest_brackets.Goals as goal

pub returns : goal.returns
returns c = fewest_brackets
