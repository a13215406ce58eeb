use Rattle.std.proofs.Common.{SFits, ◌<◌, ◌+ℤ◌, arith, refl, length, to_z}
use Rattle.std.specs.Int.{w128}
use Rattle.std.proofs.lemmas.Int.{to_z-of_z, fits_signed_from_abs}
use Rattle.dc_math.specs.Members.{each_is}
use Rattle.dc_system.proofs.Sums.{dot_step, dot_end, fit_at, sum_small}
use Rattle.dc_system.specs.Small.{IsSmall}
use Rattle.dc_system.proofs.atoms.combination.Goals as goal

pub loop-k-preserved : goal.loop-k-preserved
loop-k-preserved c =
    let h : c.loop-k.k < length c.args.coefs.now = omega arith in
    let g : c.loop-k.k < length c.args.values.now = omega arith in
    let f : SFits w128 c.product-sum.result = fits_signed_from_abs w128 c.product-sum.result (omega (arith, c.product-sum.ensures.small)) in
    let b = sum_small (to_z w128 c.loop-k.sum-bits) c.product-sum.result c.loop-k.k c.loop-k.invariant.small c.product-sum.ensures.small in
    let q : SFits w128 (to_z w128 c.loop-k.sum-bits +ℤ c.product-sum.result) = fits_signed_from_abs w128 (to_z w128 c.loop-k.sum-bits +ℤ c.product-sum.result) (omega (arith, c.requires.few)) in
    simp to_z-of_z (record {
      so_far = dot_step c.args.coefs.now c.args.values.now c.loop-k.k _ c.index-values-k.result c.args.mono.now _ _ _ _ h g refl c.index-values-k.is c.product-sum.ensures.value refl c.loop-k.invariant.so_far;
      small = b;
    })

pub overflow_add-sum : goal.overflow_add-sum
overflow_add-sum c =
    let f : SFits w128 c.product-sum.result = fits_signed_from_abs w128 c.product-sum.result (omega (arith, c.product-sum.ensures.small)) in
    let b = sum_small (to_z w128 c.loop-k.sum-bits) c.product-sum.result c.loop-k.k c.loop-k.invariant.small c.product-sum.ensures.small in
    let q : SFits w128 (to_z w128 c.loop-k.sum-bits +ℤ c.product-sum.result) = fits_signed_from_abs w128 (to_z w128 c.loop-k.sum-bits +ℤ c.product-sum.result) (omega (arith, c.requires.few)) in
    simp to_z-of_z q

pub product-sum-requires : goal.product-sum-requires
product-sum-requires c = record {
  coef = fit_at c.args.coefs.now c.loop-k.k _ c.requires.coefs (omega arith) refl;
  value = each_is IsSmall c.args.values.now c.loop-k.k c.index-values-k.result c.requires.values (omega arith) c.index-values-k.is;
}

pub returns : goal.returns
returns c = record {
  value = dot_end c.args.coefs.now c.args.values.now c.loop-k.k c.args.mono.now _ _ (omega arith) c.loop-k.invariant.so_far;
  small = (let b = c.loop-k.invariant.small in let d = c.requires.few in omega arith);
}
