use Rattle.std.proofs.Common.{◌≡◌, arith, sym, ◌∙◌, ◌+◌}
use Rattle.dc_lp.specs.declared.Verdict.TheVariants.{Holds}
use Rattle.dc_lp.specs.Problems.{linear_of, columns}
use Rattle.dc_lp.specs.Folds.{numbers}
use Rattle.dc_lp.specs.Verdicts.{AllHold, IsVerdict, dual_test}
use Rattle.dc_lp.proofs.Duality.{best}
use Rattle.dc_lp.proofs.Checking.{holds_all, verdict_last, dual-value, dual-is, dual-valued}
use Rattle.dc_lp.proofs.check.check_dual.Goals as goal

verdict : (c : goal.After-judge) → IsVerdict (columns c.args.p.now + 1) (dual_test c.args.p.now (numbers c.args.x.now) (numbers c.args.y.now)) c.judge.result
verdict c =
    let p = c.args.p.now in
    let x = numbers c.args.x.now in
    let y = numbers c.args.y.now in
    let k : c.loop-j.j ≡ columns p = omega arith in
    let i : c.len.result ≡ columns p = omega arith in
    verdict_last (columns p) c.loop-j.j c.len.result (dual_test p x y) c.same_value.result c.judge.result
    c.loop-j.invariant k i (dual-value p x y ∙ sym c.same_value.ensures) c.judge.ensures

all : (c : goal.After-judge) → c.judge.result ≡ Holds → AllHold (dual_test c.args.p.now (numbers c.args.x.now) (numbers c.args.y.now)) (columns c.args.p.now + 1)
all c e = holds_all _ _ _ (verdict c) e

pub returns-clause-dual : goal.returns-clause-dual
returns-clause-dual c e = dual-is c.args.p.now (numbers c.args.x.now) (numbers c.args.y.now) (all c e)

pub returns-clause-value : goal.returns-clause-value
returns-clause-value c e = dual-valued c.args.p.now (numbers c.args.x.now) (numbers c.args.y.now) (all c e)

pub returns-clause-best : goal.returns-clause-best
returns-clause-best c e =
    best (linear_of c.args.p.now) (numbers c.args.x.now) (numbers c.args.y.now) (dual-is c.args.p.now (numbers c.args.x.now) (numbers c.args.y.now) (all c e))
    (dual-valued c.args.p.now (numbers c.args.x.now) (numbers c.args.y.now) (all c e))
