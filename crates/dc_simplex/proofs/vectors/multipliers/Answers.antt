use Rattle.dc_lp.specs.Problems.{linear_of}
use Rattle.dc_simplex.specs.Outcomes.{multiplier_at}
use Rattle.dc_simplex.proofs.Readings.{vector-more}
use Rattle.dc_simplex.proofs.vectors.multipliers.Goals as goal

pub loop-row-preserved : goal.loop-row-preserved
loop-row-preserved g c =
    vector-more c.loop-row.row (multiplier_at (linear_of c.args.p.now) (g.T.Tableau.meaning c.args.tableau.now).table c.args.cost_row) c.loop-row.y.items c.push.new.self.items c.multiplier.result
    c.loop-row.invariant c.in_ok-push.ensures.items c.multiplier.ensures
