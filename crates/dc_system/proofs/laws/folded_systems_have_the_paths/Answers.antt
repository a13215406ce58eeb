use Rattle.dc_system.proofs.Renumbered.{folded_paths, folded_shaped, folded_runs}
use Rattle.dc_system.proofs.laws.folded_systems_have_the_paths.Goals as goal

pub returns-clause-well_formed : goal.returns-clause-well_formed
returns-clause-well_formed c = folded_shaped

pub returns-clause-paths : goal.returns-clause-paths
returns-clause-paths c = folded_paths

pub returns-clause-runs : goal.returns-clause-runs
returns-clause-runs c = folded_runs
