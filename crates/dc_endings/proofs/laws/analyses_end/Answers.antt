use Rattle.dc_endings.proofs.Ends.{each_made_ends, each_ends}
use Rattle.dc_endings.proofs.Made.{each_is_made}
use Rattle.dc_endings.proofs.laws.analyses_end.Goals as goal

pub returns : goal.returns
returns c = record { made = each_is_made; told = each_made_ends; answers = each_ends }
