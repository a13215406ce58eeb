use Rattle.dc_system.proofs.Shape.{shaped}
use Rattle.dc_system.proofs.laws.systems_are_well_formed.Goals as goal

pub returns : goal.returns
returns c = shaped
