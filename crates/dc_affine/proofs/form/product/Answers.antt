use Rattle.dc_affine.proofs.Narrow.{can_mul}
use Rattle.dc_affine.proofs.form.product.Goals as goal

pub mul-requires : goal.mul-requires
mul-requires c = can_mul c.args.left.now c.args.right.now c.requires.places c.requires.kinds c.requires.narrow
