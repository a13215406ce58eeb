use Rattle.dc_lp.proofs.FoldSums.{sums_fit, leaves_out}
use Rattle.dc_lp.proofs.laws.folds.Goals as goal

pub returns-clause-sum : goal.returns-clause-sum
returns-clause-sum c = sums_fit

pub returns-clause-left_out : goal.returns-clause-left_out
returns-clause-left_out c = leaves_out
