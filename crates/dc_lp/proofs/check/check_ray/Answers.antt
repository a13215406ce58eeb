use Rattle.std.proofs.Common.{◌≡◌, rules, arith, sym, ◌∙◌, ◌+◌, ◌<◌, length, below_more}
use Rattle.dc_lp.specs.Problems.{linear_of, columns}
use Rattle.dc_lp.specs.Folds.{numbers}
use Rattle.dc_lp.specs.Verdicts.{IsVerdict, ray_test}
use Rattle.dc_lp.proofs.Duality.{ray}
use Rattle.dc_lp.proofs.Checking.{holds_all, verdict_last, ray-cost, ray-is, ray-sign, sign_passes, sign_fails}
use Rattle.dc_lp.proofs.check.check_ray.Goals as goal

pub returns-then-is_negative-clause-verdict : goal.returns-then-is_negative-clause-verdict
returns-then-is_negative-clause-verdict c =
    let l : c.loop-j.j < columns c.args.p.now = search rules in
    let m : c.loop-j.j < length c.args.r.now = omega (arith, c.requires.length) in (
      omega arith,
      c.loop-j.invariant,
      ray-sign c.args.p.now (numbers c.args.r.now) c.loop-j.j l
          ∙ sign_fails c.args.r.now c.loop-j.j c.index-r-j.result m c.index-r-j.is (sym c.is_negative.ensures ∙ c.if-is_negative.true),
    )

pub loop-j-preserved : goal.loop-j-preserved
loop-j-preserved c =
    let l : c.loop-j.j < columns c.args.p.now = search rules in
    let m : c.loop-j.j < length c.args.r.now = omega (arith, c.requires.length) in
    below_more _ _ c.loop-j.invariant (ray-sign c.args.p.now (numbers c.args.r.now) c.loop-j.j l
    ∙ sign_passes c.args.r.now c.loop-j.j c.index-r-j.result m c.index-r-j.is (sym c.is_negative.ensures ∙ c.if-is_negative.false))

verdict : (c : goal.After-judge) → IsVerdict (columns c.args.p.now + c.args.p.now.rows + 1) (ray_test c.args.p.now (numbers c.args.r.now)) c.judge.result
verdict c =
    let p = c.args.p.now in
    let r = numbers c.args.r.now in
    let k : columns p + c.loop-i.i ≡ columns p + p.rows = omega arith in
    let i : c.len-columns.result + p.rows ≡ columns p + p.rows = omega arith in
    verdict_last (columns p + p.rows) (columns p + c.loop-i.i) (c.len-columns.result + p.rows) (ray_test p r) c.cost_is_negative.result c.judge.result
    c.loop-i.invariant k i (ray-cost p r ∙ sym c.cost_is_negative.ensures) c.judge.ensures

pub returns-clause-ray : goal.returns-clause-ray
returns-clause-ray c e = ray-is c.args.p.now (numbers c.args.r.now) (holds_all _ _ _ (verdict c) e)

pub returns-clause-goes_on : goal.returns-clause-goes_on
returns-clause-goes_on c e = ray (linear_of c.args.p.now) (numbers c.args.r.now) (ray-is c.args.p.now (numbers c.args.r.now) (holds_all _ _ _ (verdict c) e))
