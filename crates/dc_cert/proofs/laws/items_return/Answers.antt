use Rattle.dc_cert.proofs.Returned.{items_return}
use Rattle.dc_cert.proofs.laws.items_return.Goals as goal

pub returns : goal.returns
returns c = items_return
