use Rattle.std.proofs.Common.{rules, SFits, ◌∙◌, ap}
use Rattle.std.proofs.lemmas.Int.{to_z-of_z}
use mir.Syntax.{w128}
use Rattle.dc_math.specs.Rational.{of_ℤ}
use Rattle.dc_math.specs.Tests.{eq_ℚ}
use Rattle.dc_frac.specs.Value.{value}
use Rattle.dc_lp.specs.Problems.{whole_at}
use Rattle.dc_lp.proofs.Checking.{tested, equals}
use Rattle.dc_mainlines.specs.Sums.{sum_at}
use Rattle.dc_mainlines.proofs.Tests.{sum_read}
use Rattle.dc_mainlines.proofs.steps.is_solved.Goals as goal

pub returns : goal.returns
returns c =
    let f : SFits w128 c.number_at.result = search rules in
    let w = simp to_z-of_z at c.whole.ensures in
    tested (λ s. eq_ℚ s (of_ℤ (whole_at c.args.right.now c.args.row))) (sum_at c.args.sums.now c.args.row) (value c.in_ok-sum.sum) c.eq.result
    (sum_read c.args.sums.now c.args.row c.index-sums-row.result c.in_ok-sum.sum c.requires.row c.index-sums-row.is c.in_ok-sum.was)
    (equals c.in_ok-sum.sum c.whole.result c.eq.result (of_ℤ (whole_at c.args.right.now c.args.row)) c.eq.ensures (w ∙ ap of_ℤ c.number_at.ensures))
