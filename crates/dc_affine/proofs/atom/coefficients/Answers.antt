use Rattle.std.proofs.Common.{SFits, arith, ◌<◌}
use Rattle.std.specs.Int.{w128}
use Rattle.std.proofs.lemmas.Int.{to_z-of_z}
use Rattle.dc_poly.specs.Terms.{coef}
use Rattle.dc_affine.proofs.Units.{units_push}
use Rattle.dc_affine.proofs.Fits.{coef_128}
use Rattle.dc_affine.proofs.atom.coefficients.Goals as goal

pub loop-k-preserved : goal.loop-k-preserved
loop-k-preserved c =
    let f : SFits w128 c.in_ok-of_variable.field-0 = coef_128 c.args.form.now.terms _ c.in_ok-of_variable.field-0 c.requires.light c.in_ok-of_variable.ensures in
    let h : c.loop-k.k < c.args.form.now.places = omega arith in
    units_push (coef c.args.form.now.terms) c.args.form.now.places c.loop-k.k _ _ _ h c.in_ok-of_variable.ensures (simp to_z-of_z at c.in_ok-push.ensures.items) c.loop-k.invariant
