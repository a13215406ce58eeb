use Rattle.dc_syntax.proofs.Runs.{Run-of_joined}
use Rattle.dc_syntax.proofs.laws.runs_split_and_join.Goals as goal

pub returns : goal.returns
returns c = Run-of_joined
