use Rattle.std.proofs.Common.{◌≡◌, rules, arith, sym, ◌∙◌, subst, ◌+◌, ◌<◌, length, below_more}
use Rattle.dc_lp.specs.Folds.{numbers}
use Rattle.dc_lp.specs.Verdicts.{AllHold, primal_test}
use Rattle.dc_lp.specs.Problems.{columns}
use Rattle.dc_lp.proofs.Checking.{primal-sign, primal-solution, sign_passes, sign_fails}
use Rattle.dc_lp.proofs.check.check_primal.Goals as goal

pub returns-then-is_negative-clause-verdict : goal.returns-then-is_negative-clause-verdict
returns-then-is_negative-clause-verdict c =
    let l : c.loop-j.j < columns c.args.p.now = search rules in
    let m : c.loop-j.j < length c.args.x.now = omega (arith, c.requires.length) in (
      omega arith,
      c.loop-j.invariant,
      primal-sign c.args.p.now (numbers c.args.x.now) c.loop-j.j l
          ∙ sign_fails c.args.x.now c.loop-j.j c.index-x-j.result m c.index-x-j.is (sym c.is_negative.ensures ∙ c.if-is_negative.true),
    )

pub loop-j-preserved : goal.loop-j-preserved
loop-j-preserved c =
    let l : c.loop-j.j < columns c.args.p.now = search rules in
    let m : c.loop-j.j < length c.args.x.now = omega (arith, c.requires.length) in
    below_more _ _ c.loop-j.invariant (primal-sign c.args.p.now (numbers c.args.x.now) c.loop-j.j l
    ∙ sign_passes c.args.x.now c.loop-j.j c.index-x-j.result m c.index-x-j.is (sym c.is_negative.ensures ∙ c.if-is_negative.false))

pub returns-clause-solution : goal.returns-clause-solution
returns-clause-solution c e =
    let p = c.args.p.now in
    let x = numbers c.args.x.now in
    let k : columns p + c.loop-i.i ≡ columns p + p.rows = omega arith in
    primal-solution p x (subst (AllHold (primal_test p x)) k c.loop-i.invariant)
