use Rattle.dc_grammar.proofs.Nesting.{counts_open}
use Rattle.dc_grammar.proofs.laws.the_scan_counts_open_brackets.Goals as goal

pub returns : goal.returns
returns c = counts_open
