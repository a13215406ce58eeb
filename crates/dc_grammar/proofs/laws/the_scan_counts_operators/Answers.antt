use Rattle.dc_grammar.proofs.Standing.{counts_operators}
use Rattle.dc_grammar.proofs.laws.the_scan_counts_operators.Goals as goal

pub returns : goal.returns
returns c = counts_operators
