use Rattle.dc_simplex.specs.Outcomes.{direction_at}
use Rattle.dc_simplex.proofs.Readings.{vector-more}
use Rattle.dc_simplex.proofs.vectors.direction.Goals as goal

pub loop-col-preserved : goal.loop-col-preserved
loop-col-preserved g c =
    vector-more c.loop-col.col (direction_at (g.T.Tableau.meaning c.args.tableau.now).table c.args.along) c.loop-col.ray.items c.push.new.self.items c.growth.result
    c.loop-col.invariant c.in_ok-push.ensures.items c.growth.ensures
