use Rattle.dc_lp.proofs.Choices.{row_leaves, no_row_leaves}
use Rattle.dc_lp.proofs.laws.leaving.Goals as goal

pub returns-clause-row : goal.returns-clause-row
returns-clause-row c = row_leaves

pub returns-clause-none : goal.returns-clause-none
returns-clause-none c = no_row_leaves
