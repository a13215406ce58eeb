use Rattle.dc_mainlines.proofs.Shown.{steps_show}
use Rattle.dc_mainlines.proofs.laws.clauses_show.Goals as goal

pub returns : goal.returns
returns c = steps_show
