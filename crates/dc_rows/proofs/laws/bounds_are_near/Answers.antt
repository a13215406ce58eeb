use Rattle.dc_rows.proofs.Near.{bounds_are_near as near}
use Rattle.dc_rows.proofs.laws.bounds_are_near.Goals as goal

pub returns : goal.returns
returns c = near
