use Rattle.dc_claims.proofs.Splits.{splits_exist, solutions_split, splits_cost}
use Rattle.dc_claims.proofs.laws.solutions_are_splits.Goals as goal

pub returns-clause-exist : goal.returns-clause-exist
returns-clause-exist c = splits_exist

pub returns-clause-solutions : goal.returns-clause-solutions
returns-clause-solutions c = solutions_split

pub returns-clause-cost : goal.returns-clause-cost
returns-clause-cost c = splits_cost
