use Rattle.dc_clauses.proofs.ItemSums.{sums_over_items}
use Rattle.dc_clauses.proofs.laws.sums_over_items.Goals as goal

pub returns : goal.returns
returns c = sums_over_items
