use Rattle.std.proofs.Common.{◌≡◌, arith, sym, ◌∙◌, ◌+◌}
use Rattle.dc_lp.specs.Problems.{linear_of, columns}
use Rattle.dc_lp.specs.Folds.{numbers}
use Rattle.dc_lp.specs.Verdicts.{IsVerdict, refutation_test}
use Rattle.dc_lp.proofs.Duality.{excludes}
use Rattle.dc_lp.proofs.Checking.{holds_all, verdict_last, refutation-right, refutation-is}
use Rattle.dc_lp.proofs.check.check_refutation.Goals as goal

verdict : (c : goal.After-judge) → IsVerdict (columns c.args.p.now + 1) (refutation_test c.args.p.now (numbers c.args.y.now)) c.judge.result
verdict c =
    let p = c.args.p.now in
    let y = numbers c.args.y.now in
    let k : c.loop-j.j ≡ columns p = omega arith in
    let i : c.len.result ≡ columns p = omega arith in
    verdict_last (columns p) c.loop-j.j c.len.result (refutation_test p y) c.right_is_positive.result c.judge.result
    c.loop-j.invariant k i (refutation-right p y ∙ sym c.right_is_positive.ensures) c.judge.ensures

pub returns-clause-refutation : goal.returns-clause-refutation
returns-clause-refutation c e = refutation-is c.args.p.now (numbers c.args.y.now) (holds_all _ _ _ (verdict c) e)

pub returns-clause-excludes : goal.returns-clause-excludes
returns-clause-excludes c e = excludes (linear_of c.args.p.now) (numbers c.args.y.now) (refutation-is c.args.p.now (numbers c.args.y.now) (holds_all _ _ _ (verdict c) e))
