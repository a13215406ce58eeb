use Rattle.std.proofs.Common.{refl}
use Rattle.dc_frac.specs.Value.{value}
use Rattle.dc_lp.specs.Folds.{numbers}
use Rattle.dc_lp.specs.Verdicts.{cost_fold, right_fold}
use Rattle.dc_lp.specs.Problems.{columns}
use Rattle.dc_lp.proofs.Checking.{tested_both, same_fold, equals}
use Rattle.dc_lp.proofs.check.same_value.Goals as goal

pub returns : goal.returns
returns c =
    let p = c.args.p.now in
    let x = numbers c.args.x.now in
    let y = numbers c.args.y.now in
    let s = value c.in_ok-cost.cost in
    let t = value c.in_ok-right.right in
    tested_both (cost_fold p x) (right_fold p y) s t c.eq.result
    (same_fold c.deref.result.now p.cost.items (columns p) x s c.in_ok-cost.ensures c.deref.ensures.value c.requires.well_formed.costs)
    (same_fold c.deref-2.result.now p.b.items p.rows y t c.in_ok-right.ensures c.deref-2.ensures.value c.requires.well_formed.right_sides)
    (equals c.in_ok-cost.cost c.in_ok-right.right c.eq.result t c.eq.ensures refl)
