-- The first that is enough, or none of them.
use Rattle.std.specs.Prelude.{◌<◌, length}
use Rattle.std.proofs.Common.{subst}
use Rattle.dc_frac.specs.Value.{value}
use Rattle.dc_greatest.proofs.Rows.{first_found}
use Rattle.dc_greatest.proofs.bounds.first_bound.Goals as goal

pub returns-then-is_enough : goal.returns-then-is_enough
returns-then-is_enough c =
    let inside = subst (λ bs. c.loop-k.k < length bs) c.as_slice-bounds.ensures c.loop-k-test.true in
    let enough = rw c.as_slice-bounds.ensures at (c.is_enough.ensures.0 c.if-is_enough.true) in
    first_found c.args.c.now (value c.args.least.now) c.args.constant.now c.loop-k.k c.requires.rising inside enough c.loop-k.invariant
