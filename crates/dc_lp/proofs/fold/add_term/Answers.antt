use Rattle.std.proofs.Common.{rules, ◌≡◌, ap, ◌∙◌, subst, SFits, IsFalse, IsTrue, pos}
use Rattle.std.proofs.lemmas.Int.{to_z-of_z}
use mir.Syntax.{w128}
use Rattle.dc_math.specs.Rational.{ℚ, ◌*ℚ◌}
use Rattle.dc_frac.specs.Fits.{IsSmall, product_fits}
use Rattle.dc_frac.proofs.ZeroSums.{fits-value}
use Rattle.dc_frac.specs.Value.{value}
use Rattle.dc_lp.proofs.Folding.{added-zero, added-past_product, added-is}
use Rattle.dc_lp.proofs.fold.add_term.Goals as goal

pub returns-then-a-eq0 : goal.returns-then-a-eq0
returns-then-a-eq0 c =
    let e : c.args.a ≡ pos 0 = search rules in
    let d : IsSmall c.args.sum.den = search rules in
    added-zero (value c.args.sum) c.args.a (value c.args.x) e (fits-value c.args.sum d)

pub returns-in_err-mul : goal.returns-in_err-mul
returns-in_err-mul c =
    let f : SFits w128 c.args.a = search rules in
    let w = simp to_z-of_z at c.whole.ensures in
    rw c.from_residual.ensures (added-past_product (value c.args.sum) c.args.a (value c.args.x) (subst (λ (z : ℚ). IsFalse (product_fits z (value c.args.x))) w c.in_err-mul.ensures))

pub returns : goal.returns
returns c =
    let f : SFits w128 c.args.a = search rules in
    let w = simp to_z-of_z at c.whole.ensures in
    let h = c.in_ok-mul.ensures in
    added-is c.add.result (value c.args.sum) c.args.a (value c.args.x) (value c.in_ok-mul.field-0)
    (subst (λ (z : ℚ). IsTrue (product_fits z (value c.args.x))) w h.0) (h.1 ∙ ap (λ (z : ℚ). z *ℚ value c.args.x) w) c.add.ensures
