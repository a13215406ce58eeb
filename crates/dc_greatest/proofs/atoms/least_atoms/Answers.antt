use Rattle.std.specs.Prelude.{◌<◌, length}
use Rattle.std.proofs.Common.{subst, arith}
use Rattle.dc_greatest.proofs.Listing.{least_more}
use Rattle.dc_greatest.proofs.atoms.least_atoms.Goals as goal

pub loop-row-preserved : goal.loop-row-preserved
loop-row-preserved c =
    let e = c.as_slice-least.ensures in
    let k = c.loop-row.row in
    let inside : k < length c.args.f.now.least = subst (λ xs. k < length xs) e c.loop-row-test.true in
    let wide = c.requires.rows in
    least_more c.args.c.now c.args.c.now.rows c.args.f.now.least k c.loop-row.atoms.items c.push_least.new.atoms.items (omega arith) wide c.loop-row.invariant (rw e at c.in_ok-push_least.ensures)
