use Rattle.std.proofs.Common.{arith, refl}
use Rattle.dc_system.proofs.Sums.{fit_at}
use Rattle.dc_system.proofs.RowSteps.{sum_more}
use Rattle.dc_system.proofs.rows.sum_of.Goals as goal

pub plus_times-requires-clause-coef : goal.plus_times-requires-clause-coef
plus_times-requires-clause-coef c = fit_at c.args.coefs.now c.loop-k.k _ c.requires.coefs (omega arith) refl

pub loop-k-preserved : goal.loop-k-preserved
loop-k-preserved c =
    let r = c.in_ok-sum-2.ensures {u = tt} in
    sum_more c.args.places c.args.coefs.now c.args.values.now c.loop-k.k _ c.index-values-k.result c.loop-k.sum c.in_ok-sum-2.sum (omega arith) (omega arith) refl c.index-values-k.is
    r.kind r.places r.coefs r.light c.loop-k.invariant
