use Rattle.dc_sample_laws.proofs.Faults.{no_fault}
use Rattle.dc_sample_laws.proofs.laws.pairs_have_no_fault.Goals as goal

pub returns : goal.returns
returns c = no_fault
