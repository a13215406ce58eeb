use Rattle.std.proofs.Common.{SFits, ◌≤◌, ◌<◌, ◌∙◌, arith, ap, sym, subst, ℤ, List, map, take, ltb-true, ltb-false}
use Rattle.std.specs.Prelude.{unsigned_abs}
use Rattle.std.specs.Int.{w64, w128}
use Rattle.std.proofs.lemmas.Int.{to_z-of_z}
use Rattle.dc_poly.specs.NormalForm.{most}
use Rattle.dc_affine.proofs.Fits.{small_64}
use Rattle.dc_affine.proofs.Units.{units_push}
use Rattle.dc_poly.specs.Affine.{units}
use Rattle.dc_system.specs.Composed.{coef_at, numbers_fit}
use Rattle.dc_system.proofs.AtomSteps.{constant_bars, coef_bars, atom_written, numbers_push, sum_fits, constant_fits}
use Rattle.dc_system.proofs.atoms.atom_with.Goals as goal

pub loop-k-preserved : goal.loop-k-preserved
loop-k-preserved c =
    let d : SFits w128 c.combination-coef.result = sum_fits c.combination-coef.result c.combination-coef.ensures.small in
    let x = simp to_z-of_z at c.if-exceeds-2.ensures in
    let e = simp to_z-of_z at c.narrow.ensures in
    let s : unsigned_abs c.combination-coef.result ≤ most = ltb-false most (unsigned_abs c.combination-coef.result) (sym x) in
    let n : unsigned_abs c.narrow.result ≤ most = subst (λ (z : ℤ). unsigned_abs z ≤ most) (sym e) s in
    let f : SFits w64 c.narrow.result = small_64 c.narrow.result (omega arith) in
    let h : c.loop-k.k < c.args.places = omega arith in
    let i = simp to_z-of_z at (c.in_ok-push.ensures {u = tt}).items in
    record {
      read = units_push (coef_at c.as_slice-coefs.result.now c.args.values.now) c.args.places c.loop-k.k _ _ _ h (e ∙ c.combination-coef.ensures.value ∙ ap (coef_at c.as_slice-coefs.result.now c.args.values.now) c.in_ok-unit.ensures.value) i c.loop-k.invariant.read;
      fits = ap numbers_fit i ∙ numbers_push c.loop-k.all.items c.narrow.result c.loop-k.invariant.fits n;
    }

pub returns-then-exceeds : goal.returns-then-exceeds
returns-then-exceeds c =
    let d : SFits w128 c.combination-sum.result = sum_fits c.combination-sum.result c.combination-sum.ensures.small in
    let q = simp to_z-of_z at c.plus-constant.ensures in
    let p : SFits w128 c.plus-constant.result = constant_fits c.plus-constant.result c.args.atom.now.c0 c.combination-sum.result q c.requires.sized.constant_within c.combination-sum.ensures.small in
    let x = simp to_z-of_z at c.if-exceeds.ensures in
    constant_bars c.args.places c.args.atom.now c.args.values.now c.plus-constant.result c.combination-sum.result c.in_ok-one.one c.in_ok-one.ensures.value
    (c.combination-sum.ensures.value ∙ ap (λ (cs : List ℤ). coef_at cs c.args.values.now c.in_ok-one.one) c.as_slice-coefs.ensures) q
    (ltb-true 2147483648 (unsigned_abs c.plus-constant.result) (sym x))

pub returns-then-exceeds-2 : goal.returns-then-exceeds-2
returns-then-exceeds-2 c =
    let d : SFits w128 c.combination-coef.result = sum_fits c.combination-coef.result c.combination-coef.ensures.small in
    let x = simp to_z-of_z at c.if-exceeds-2.ensures in
    coef_bars c.args.places c.loop-k.k c.args.atom.now c.args.values.now c.combination-coef.result c.in_ok-unit.unit (omega arith) c.in_ok-unit.ensures.value
    (c.combination-coef.ensures.value ∙ ap (λ (cs : List ℤ). coef_at cs c.args.values.now c.in_ok-unit.unit) c.as_slice-coefs.ensures)
    (ltb-true most (unsigned_abs c.combination-coef.result) (sym x))

pub returns : goal.returns
returns c =
    let d : SFits w128 c.combination-sum.result = sum_fits c.combination-sum.result c.combination-sum.ensures.small in
    let q = simp to_z-of_z at c.plus-constant.ensures in
    let p : SFits w128 c.plus-constant.result = constant_fits c.plus-constant.result c.args.atom.now.c0 c.combination-sum.result q c.requires.sized.constant_within c.combination-sum.ensures.small in
    let x = simp to_z-of_z at c.if-exceeds.ensures in
    let s : unsigned_abs c.plus-constant.result ≤ 2147483648 = ltb-false 2147483648 (unsigned_abs c.plus-constant.result) (sym x) in
    let e = simp to_z-of_z at c.narrow-2.ensures in
    let n : unsigned_abs c.narrow-2.result ≤ 2147483648 = subst (λ (z : ℤ). unsigned_abs z ≤ 2147483648) (sym e) s in
    let f : SFits w64 c.narrow-2.result = small_64 c.narrow-2.result n in
    simp to_z-of_z (
    atom_written c.args.places c.loop-k.k c.args.atom.now c.args.values.now c.combination-sum.result c.plus-constant.result c.narrow-2.result c.in_ok-one.one c.loop-k.all.items c.from_vec.result c.in_ok-one.ensures.value
    (c.combination-sum.ensures.value ∙ ap (λ (cs : List ℤ). coef_at cs c.args.values.now c.in_ok-one.one) c.as_slice-coefs.ensures) (omega arith)
    (c.loop-k.invariant.read ∙ ap (λ (cs : List ℤ). map (coef_at cs c.args.values.now) (take c.loop-k.k (units c.args.places))) c.as_slice-coefs.ensures)
    c.loop-k.invariant.fits q s e c.from_vec.ensures
    )
