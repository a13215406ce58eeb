use Rattle.dc_lp.proofs.Choices.{column_enters, no_column_enters}
use Rattle.dc_lp.proofs.laws.entering.Goals as goal

pub returns-clause-column : goal.returns-clause-column
returns-clause-column c = column_enters

pub returns-clause-none : goal.returns-clause-none
returns-clause-none c = no_column_enters
