use Rattle.dc_points.proofs.Whole.{whole_points_meet}
use Rattle.dc_points.proofs.laws.whole_points_meet.Goals as goal

pub returns : goal.returns
returns c = whole_points_meet
