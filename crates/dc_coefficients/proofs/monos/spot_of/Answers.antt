use Rattle.std.proofs.Common.{◌+◌, ◌-◌, ◌/◌, ◌<◌, [], length, sym, ◌∙◌, subst, arith}
use Rattle.std.specs.declared.cmp.Ordering.TheVariants.{Less, Equal, Greater}
use Rattle.dc_poly.specs.Terms.{Before}
use Rattle.dc_poly.proofs.Merge.{told_before}
use Rattle.std.proofs.lemmas.List.{get_or_default}
use Rattle.dc_coefficients.proofs.Insertions.{with_mono-there, with_mono-at, all_below, all_above}
use Rattle.dc_coefficients.proofs.monos.spot_of.Goals as goal

pub loop-low-preserved-in-Less : goal.loop-low-preserved-in-Less
loop-low-preserved-in-Less c =
    let l : c.loop-low.low + (c.loop-low.high - c.loop-low.low) / 2 < length c.args.list.now = (let a = c.loop-low.invariant.within in let b = c.loop-low-test.true in omega arith) in
    let e = c.index-list-middle.is ∙ get_or_default c.args.list.now _ c.index-list-middle.result [] l in
    record {
      order = (let b = c.loop-low-test.true in omega arith);
      within = c.loop-low.invariant.within;
      below = all_below c.args.list.now c.args.mono.now _ c.requires l (subst (λ k. Before k c.args.mono.now) e (told_before c.index-list-middle.result c.args.mono.now Less c.in-Less.ensures));
      above = c.loop-low.invariant.above;
    }

pub returns-in-Equal : goal.returns-in-Equal
returns-in-Equal c =
    let l : c.loop-low.low + (c.loop-low.high - c.loop-low.low) / 2 < length c.args.list.now = (let a = c.loop-low.invariant.within in let b = c.loop-low-test.true in omega arith) in
    let e = c.index-list-middle.is ∙ get_or_default c.args.list.now _ c.index-list-middle.result [] l in
    with_mono-there c.args.list.now c.args.mono.now _ c.requires l (sym e ∙ told_before c.index-list-middle.result c.args.mono.now Equal c.in-Equal.ensures)

pub loop-low-preserved : goal.loop-low-preserved
loop-low-preserved c =
    let l : c.loop-low.low + (c.loop-low.high - c.loop-low.low) / 2 < length c.args.list.now = (let a = c.loop-low.invariant.within in let b = c.loop-low-test.true in omega arith) in
    let e = c.index-list-middle.is ∙ get_or_default c.args.list.now _ c.index-list-middle.result [] l in
    record {
      order = omega arith;
      within = omega arith;
      below = c.loop-low.invariant.below;
      above = all_above c.args.list.now c.args.mono.now _ c.requires (subst (λ k. Before c.args.mono.now k) e (told_before c.index-list-middle.result c.args.mono.now Greater c.in-Greater.ensures));
    }

pub returns : goal.returns
returns c =
    let i = c.loop-low.invariant in
    let a = i.order in let b = i.within in let t = c.loop-low-test.false in
    (omega arith, with_mono-at c.args.list.now c.args.mono.now c.loop-low.low (omega arith) i.below (λ h. i.above c.loop-low.low (omega arith) h))
