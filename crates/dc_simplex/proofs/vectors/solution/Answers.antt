use Rattle.std.proofs.Common.{◌≡◌, ◌+◌, arith}
use Rattle.dc_frac.specs.Value.{value}
use Rattle.dc_lp.specs.Meanings.{right}
use Rattle.dc_simplex.specs.Outcomes.{solution_at}
use Rattle.dc_simplex.proofs.Readings.{vector-more, solution-read}
use Rattle.dc_simplex.proofs.vectors.solution.Goals as goal

pub loop-col-preserved : goal.loop-col-preserved
loop-col-preserved g c =
    let t = (g.T.Tableau.meaning c.args.tableau.now).table in
    let last : c.args.n + c.args.m ≡ right t = omega arith in
    vector-more c.loop-col.col (solution_at t) c.loop-col.x.items c.push.new.self.items c.entry_of.result
    c.loop-col.invariant c.in_ok-push.ensures.items (solution-read t c.loop-col.col (c.args.n + c.args.m) (value c.entry_of.result) last c.entry_of.ensures)
