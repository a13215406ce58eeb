use Rattle.std.proofs.Common.{SFits, arith, pos, get_or, ◌<◌, length}
use Rattle.std.specs.Int.{w64, w128}
use Rattle.std.proofs.lemmas.Int.{to_z-of_z}
use Rattle.dc_math.specs.Members.{each_at}
use Rattle.dc_affine.proofs.Fits.{small_64, small_128}
use Rattle.dc_affine.proofs.Signed.{IsWithin, signed_next}
use Rattle.dc_affine.proofs.atom.all_signed.Goals as goal

pub loop-k-preserved : goal.loop-k-preserved
loop-k-preserved c =
    let h : c.loop-k.k < length c.args.numbers.now = omega arith in
    let f : SFits w128 (get_or c.args.numbers.now c.loop-k.k (pos 0)) = small_128 _ (each_at IsWithin c.args.numbers.now c.loop-k.k (pos 0) c.requires h) in
    let g : SFits w64 c.signed.result = small_64 c.signed.result c.signed.ensures.small in
    signed_next c.args.turned c.args.numbers.now c.loop-k.k _ _ c.signed.result h (simp to_z-of_z at c.signed.ensures.value) (simp to_z-of_z at (c.in_ok-push.ensures {u = tt}).items) c.loop-k.invariant
