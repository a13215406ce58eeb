use Rattle.dc_endings.proofs.Checks.{each_is_checked}
use Rattle.dc_endings.proofs.laws.checks_end.Goals as goal

pub returns : goal.returns
returns c = each_is_checked
