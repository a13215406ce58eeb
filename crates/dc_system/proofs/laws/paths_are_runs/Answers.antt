use Rattle.dc_system.proofs.Runs.{paths_runs}
use Rattle.dc_system.proofs.laws.paths_are_runs.Goals as goal

pub returns : goal.returns
returns c = paths_runs
