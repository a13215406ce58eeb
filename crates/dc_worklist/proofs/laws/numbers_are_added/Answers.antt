use Rattle.dc_worklist.proofs.Numbers.{numbers_are_added, lists_stay_lists, lists_are_sets}
use Rattle.dc_worklist.proofs.laws.numbers_are_added.Goals as goal

pub returns-clause-added : goal.returns-clause-added
returns-clause-added c = numbers_are_added

pub returns-clause-rising : goal.returns-clause-rising
returns-clause-rising c = lists_stay_lists

pub returns-clause-sets : goal.returns-clause-sets
returns-clause-sets c = lists_are_sets
