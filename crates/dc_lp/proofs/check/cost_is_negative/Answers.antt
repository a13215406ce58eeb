use Rattle.dc_math.specs.Tests.{is_negative}
use Rattle.dc_frac.specs.Value.{value}
use Rattle.dc_lp.specs.Folds.{numbers}
use Rattle.dc_lp.specs.Verdicts.{cost_fold}
use Rattle.dc_lp.specs.Problems.{columns}
use Rattle.dc_lp.proofs.Checking.{tested, same_fold}
use Rattle.dc_lp.proofs.check.cost_is_negative.Goals as goal

pub returns : goal.returns
returns c =
    let p = c.args.p.now in
    let r = numbers c.args.r.now in
    tested is_negative (cost_fold p r) (value c.in_ok-cost.cost) c.is_negative.result
    (same_fold c.deref.result.now p.cost.items (columns p) r (value c.in_ok-cost.cost) c.in_ok-cost.ensures c.deref.ensures.value c.requires.well_formed.costs) c.is_negative.ensures
