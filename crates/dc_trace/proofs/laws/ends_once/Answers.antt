use Rattle.dc_trace.proofs.Ending.{ends_once}
use Rattle.dc_trace.proofs.laws.ends_once.Goals as goal

pub returns : goal.returns
returns c = ends_once
