use Rattle.dc_system.proofs.CostPaths.{path_length}
use Rattle.dc_system.proofs.laws.paths_keep_length.Goals as goal

pub returns : goal.returns
returns c = λ n es h k l s t d e p. path_length n es h e p
