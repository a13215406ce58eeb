use Rattle.std.proofs.Common.{SFits, ◌∙◌, ap, map, arith}
use Rattle.std.specs.Int.{w64, w128}
use Rattle.std.proofs.lemmas.Int.{to_z-of_z, ints, fits_signed_from_abs}
use Rattle.std.specs.Prelude.{◌-ℤ◌}
use Rattle.dc_poly.specs.Affine.{units}
use Rattle.dc_affine.specs.Gaps.{signed}
use Rattle.dc_affine.proofs.Fits.{small_64, coef_128}
use Rattle.dc_affine.proofs.Signed.{read_within, atom_made}
use Rattle.dc_affine.proofs.atom.at_least.Goals as goal

pub all_signed-requires : goal.all_signed-requires
all_signed-requires c = read_within c.args.form.now.terms (units c.args.form.now.places) _ (c.deref.ensures.value ∙ c.in_ok-numbers.ensures) c.requires.fits

pub overflow_sub-result : goal.overflow_sub-result
overflow_sub-result c =
    let f : SFits w64 c.signed-constant.result = small_64 c.signed-constant.result c.signed-constant.ensures.small in
    let g : SFits w64 c.args.less = c.ranges.less in
    let h : SFits w64 (c.signed-constant.result -ℤ c.args.less) = fits_signed_from_abs w64 (c.signed-constant.result -ℤ c.args.less) (let s = c.signed-constant.ensures.small in let l = c.requires.small in omega (arith, ints)) in
    simp to_z-of_z h

pub returns : goal.returns
returns c =
    let f : SFits w64 c.signed-constant.result = small_64 c.signed-constant.result c.signed-constant.ensures.small in
    let g : SFits w64 c.args.less = c.ranges.less in
    let h : SFits w64 (c.signed-constant.result -ℤ c.args.less) = fits_signed_from_abs w64 (c.signed-constant.result -ℤ c.args.less) (let s = c.signed-constant.ensures.small in let l = c.requires.small in omega (arith, ints)) in
    let k : SFits w128 c.in_ok-constant.field-0 = coef_128 c.args.form.now.terms _ c.in_ok-constant.field-0 c.requires.kind.light c.in_ok-constant.ensures in
    simp to_z-of_z (atom_made c.args.form.now c.args.turned c.args.less c.in_ok-constant.field-0 c.signed-constant.result _ _ c.in_ok-numbers.ensures (c.from_vec.ensures ∙ c.in_ok-coefs.ensures ∙ ap (map (signed c.args.turned)) c.deref.ensures.value) c.in_ok-constant.ensures (simp to_z-of_z at c.signed-constant.ensures.value) c.requires.small.0)
