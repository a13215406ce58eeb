use Rattle.dc_rows.proofs.Wanted.{are_kind}
use Rattle.dc_rows.proofs.laws.lists_are_candidates.Goals as goal

pub returns : goal.returns
returns c = are_kind
