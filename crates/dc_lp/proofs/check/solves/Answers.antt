use Rattle.std.proofs.Common.{rules, SFits}
use Rattle.std.proofs.lemmas.Int.{to_z-of_z}
use mir.Syntax.{w128}
use Rattle.dc_math.specs.Rational.{of_ℤ}
use Rattle.dc_math.specs.Tests.{eq_ℚ}
use Rattle.dc_frac.specs.Value.{value}
use Rattle.dc_lp.specs.Folds.{numbers}
use Rattle.dc_lp.specs.Verdicts.{left_fold}
use Rattle.dc_lp.proofs.Checking.{tested, equals}
use Rattle.dc_lp.proofs.check.solves.Goals as goal

pub returns : goal.returns
returns c =
    let f : SFits w128 c.args.b = search rules in
    let w = simp to_z-of_z at c.whole.ensures in
    tested (λ s. eq_ℚ s (of_ℤ c.args.b)) (left_fold c.args.p.now (numbers c.args.x.now) c.args.row) (value c.in_ok-sum.sum) c.eq.result c.in_ok-sum.ensures
    (equals c.in_ok-sum.sum c.whole.result c.eq.result (of_ℤ c.args.b) c.eq.ensures w)
