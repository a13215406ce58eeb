use Rattle.std.specs.Prelude.{pos}
use Rattle.std.proofs.Common.{sym, ◌∙◌}
use Rattle.dc_math.specs.Rational.{of_ℤ}
use Rattle.dc_math.specs.Tests.{eq_ℚ_true}
use Rattle.dc_frac.specs.Value.{value}
use Rattle.dc_engine.proofs.Bodies.{difference_left, difference_right, left_zero}
use Rattle.dc_engine.proofs.body.difference.Goals as goal

pub returns-then-is_zero : goal.returns-then-is_zero
returns-then-is_zero c = difference_left (value c.args.plus.now) (value c.args.minus.now) (eq_ℚ_true (value c.args.minus.now) (of_ℤ (pos 0)) (sym c.is_zero.ensures ∙ c.if-is_zero.true))

pub returns-else-is_zero : goal.returns-else-is_zero
returns-else-is_zero c =
    difference_right (value c.args.plus.now) (value c.args.minus.now) (value c.neg.result)
    (left_zero (value c.args.plus.now) (value c.args.minus.now) c.requires (sym c.is_zero.ensures ∙ c.if-is_zero.false)) c.neg.ensures
