use Rattle.dc_system.proofs.Renumbered.{one_fold_paths, renumbered_paths}
use Rattle.dc_system.proofs.laws.steps_of_a_folding_keep_paths.Goals as goal

pub returns-clause-fold : goal.returns-clause-fold
returns-clause-fold c = one_fold_paths

pub returns-clause-numbers : goal.returns-clause-numbers
returns-clause-numbers c = renumbered_paths
