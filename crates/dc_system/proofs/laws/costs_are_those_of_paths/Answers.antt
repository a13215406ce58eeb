use Rattle.dc_system.proofs.CostPaths.{costs_paths, folded_costs_paths}
use Rattle.dc_system.proofs.laws.costs_are_those_of_paths.Goals as goal

pub returns-clause-plain : goal.returns-clause-plain
returns-clause-plain c = costs_paths

pub returns-clause-folded : goal.returns-clause-folded
returns-clause-folded c = folded_costs_paths
