use Rattle.dc_cert.proofs.VectorLaws.{keeps_each}
use Rattle.dc_cert.proofs.laws.items_keep_each_value.Goals as goal

pub returns : goal.returns
returns c = keeps_each
