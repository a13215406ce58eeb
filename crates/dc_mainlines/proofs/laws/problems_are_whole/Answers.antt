use Rattle.dc_mainlines.proofs.Mains.{problems_are_whole}
use Rattle.dc_mainlines.proofs.laws.problems_are_whole.Goals as goal

pub returns : goal.returns
returns c = problems_are_whole
