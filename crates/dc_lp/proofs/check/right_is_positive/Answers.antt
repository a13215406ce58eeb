use Rattle.dc_math.specs.Tests.{is_positive}
use Rattle.dc_frac.specs.Value.{value}
use Rattle.dc_lp.specs.Folds.{numbers}
use Rattle.dc_lp.specs.Verdicts.{right_fold}
use Rattle.dc_lp.proofs.Checking.{tested, same_fold}
use Rattle.dc_lp.proofs.check.right_is_positive.Goals as goal

pub returns : goal.returns
returns c =
    let p = c.args.p.now in
    let y = numbers c.args.y.now in
    tested is_positive (right_fold p y) (value c.in_ok-right.right) c.is_positive.result
    (same_fold c.deref.result.now p.b.items p.rows y (value c.in_ok-right.right) c.in_ok-right.ensures c.deref.ensures.value c.requires.well_formed.right_sides) c.is_positive.ensures
