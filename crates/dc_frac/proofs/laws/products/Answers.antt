use Rattle.dc_frac.proofs.PairLaws.{products}
use Rattle.dc_frac.proofs.laws.products.Goals as goal

pub returns : goal.returns
returns c = products
