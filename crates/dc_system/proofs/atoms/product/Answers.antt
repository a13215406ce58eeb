use Rattle.std.proofs.Common.{SFits, ◌≤◌, ◌*ℤ◌, arith, ap, sym, subst, ℤ}
use Rattle.std.specs.Prelude.{unsigned_abs}
use Rattle.std.specs.Int.{w64, w128}
use Rattle.std.proofs.lemmas.Int.{to_z-of_z, fits_signed_from_abs}
use Rattle.dc_poly.specs.NormalForm.{most}
use Rattle.dc_affine.proofs.Fits.{small_64, small_128}
use Rattle.dc_system.proofs.Sums.{product_small}
use Rattle.dc_system.proofs.atoms.product.Goals as goal

pub returns-clause-value : goal.returns-clause-value
returns-clause-value c =
    let b : unsigned_abs c.coef.result ≤ most = subst (λ (z : ℤ). unsigned_abs z ≤ most) (sym c.coef.ensures) (c.requires.value.coefs c.args.mono.now) in
    let f : SFits w64 c.args.coef.now = small_64 c.args.coef.now (omega (arith, c.requires.coef)) in
    let g : SFits w128 c.args.coef.now = small_128 c.args.coef.now (omega (arith, c.requires.coef)) in
    let h : SFits w128 c.coef.result = small_128 c.coef.result (omega arith) in
    let p : SFits w128 (c.args.coef.now *ℤ c.coef.result) = fits_signed_from_abs w128 (c.args.coef.now *ℤ c.coef.result) (let a = product_small c.args.coef.now c.coef.result c.requires.coef b in omega arith) in
    simp to_z-of_z (ap (λ (z : ℤ). c.args.coef.now *ℤ z) c.coef.ensures)

pub returns-clause-small : goal.returns-clause-small
returns-clause-small c =
    let b : unsigned_abs c.coef.result ≤ most = subst (λ (z : ℤ). unsigned_abs z ≤ most) (sym c.coef.ensures) (c.requires.value.coefs c.args.mono.now) in
    let f : SFits w64 c.args.coef.now = small_64 c.args.coef.now (omega (arith, c.requires.coef)) in
    let g : SFits w128 c.args.coef.now = small_128 c.args.coef.now (omega (arith, c.requires.coef)) in
    let h : SFits w128 c.coef.result = small_128 c.coef.result (omega arith) in
    let p : SFits w128 (c.args.coef.now *ℤ c.coef.result) = fits_signed_from_abs w128 (c.args.coef.now *ℤ c.coef.result) (let a = product_small c.args.coef.now c.coef.result c.requires.coef b in omega arith) in
    simp to_z-of_z (product_small c.args.coef.now c.coef.result c.requires.coef b)

pub overflow_mul-result : goal.overflow_mul-result
overflow_mul-result c =
    let b : unsigned_abs c.coef.result ≤ most = subst (λ (z : ℤ). unsigned_abs z ≤ most) (sym c.coef.ensures) (c.requires.value.coefs c.args.mono.now) in
    let f : SFits w64 c.args.coef.now = small_64 c.args.coef.now (omega (arith, c.requires.coef)) in
    let g : SFits w128 c.args.coef.now = small_128 c.args.coef.now (omega (arith, c.requires.coef)) in
    let h : SFits w128 c.coef.result = small_128 c.coef.result (omega arith) in
    let p : SFits w128 (c.args.coef.now *ℤ c.coef.result) = fits_signed_from_abs w128 (c.args.coef.now *ℤ c.coef.result) (let a = product_small c.args.coef.now c.coef.result c.requires.coef b in omega arith) in
    simp to_z-of_z p
