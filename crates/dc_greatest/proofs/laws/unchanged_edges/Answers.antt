use Rattle.dc_greatest.proofs.Unchanged.{unchanged_give, unchanged_ask, entries_ask_once}
use Rattle.dc_greatest.proofs.laws.unchanged_edges.Goals as goal

pub returns : goal.returns
returns c = record { give = unchanged_give; ask = unchanged_ask; entries = entries_ask_once }
