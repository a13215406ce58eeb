use Rattle.std.proofs.Common.{◌∙◌, sym, rules}
use Rattle.dc_frac.specs.Value.{value}
use Rattle.dc_frac.specs.Fits.{IsSmall}
use Rattle.dc_frac.proofs.ZeroSums.{fits-value}
use Rattle.dc_start.proofs.Changes.{step-zero, step-filled}
use Rattle.dc_start.proofs.change.step.Goals as goal

pub returns-then-is_zero : goal.returns-then-is_zero
returns-then-is_zero c = step-zero (value c.args.factor) (value c.args.x) (value c.args.y) (sym c.is_zero.ensures ∙ c.if-is_zero.true)

pub returns-then-is_zero-2 : goal.returns-then-is_zero-2
returns-then-is_zero-2 c =
    let d : IsSmall c.neg.result.den = search rules in
    step-filled (value c.args.factor) (value c.args.x) (value c.args.y) (value c.in_ok-product.product) (value c.neg.result) (sym c.is_zero-2.ensures ∙ c.if-is_zero-2.true)
    c.in_ok-product.ensures.0 c.in_ok-product.ensures.1 c.neg.ensures (fits-value c.neg.result d)
