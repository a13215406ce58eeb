use Rattle.std.specs.Prelude.{[]}
use Rattle.dc_points.specs.Points.{whole_point}
use Rattle.dc_entail_trials.proofs.tables.ask_sup_at_zero.Goals as goal

pub sup-requires-clause-live : goal.sup-requires-clause-live
sup-requires-clause-live c = λ d. d (whole_point []) c.requires.zero
