use Rattle.dc_sparse.proofs.Held.{has_lists}
use Rattle.dc_sparse.proofs.laws.lists.Goals as goal

pub returns : goal.returns
returns c = has_lists
