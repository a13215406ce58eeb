use Rattle.dc_pivots.proofs.Rationals.{ends_right_rational, ends_true}
use Rattle.dc_pivots.proofs.laws.ends_right.Goals as goal

pub returns : goal.returns
returns c = record { shown = ends_right_rational; so = ends_true }
