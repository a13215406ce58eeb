use Rattle.dc_folding.proofs.Stronger.{stronger_atoms}
use Rattle.dc_folding.proofs.laws.stronger_atoms_certify.Goals as goal

pub returns : goal.returns
returns c = stronger_atoms
