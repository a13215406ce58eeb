use Rattle.dc_syntax.proofs.Runs.{One-by_table, Run-by_table}
use Rattle.dc_syntax.proofs.laws.runs_go_by_the_table.Goals as goal

pub returns-clause-one : goal.returns-clause-one
returns-clause-one c = One-by_table

pub returns-clause-list : goal.returns-clause-list
returns-clause-list c = Run-by_table
