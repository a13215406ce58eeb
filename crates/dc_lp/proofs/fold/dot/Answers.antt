use Rattle.std.proofs.Common.{refl, rules, arith, ◌<◌, length, sym, ◌∙◌, ap, Some, SFits}
use Rattle.std.proofs.lemmas.Int.{to_z-of_z}
use mir.Syntax.{w128}
use Rattle.dc_frac.specs.Fits.{IsSmall}
use Rattle.dc_lp.specs.Problems.{whole_at}
use Rattle.dc_lp.specs.Folds.{numbers}
use Rattle.dc_lp.proofs.Folding.{folded-none, more_summed, past_summed}
use Rattle.dc_lp.proofs.fold.dot.Goals as goal

pub loop-i-init : goal.loop-i-init
loop-i-init c = folded-none (whole_at c.args.a.now) (numbers c.args.x.now) ∙ ap Some (sym c.whole-sum.ensures)

pub returns-in_err-sum : goal.returns-in_err-sum
returns-in_err-sum c =
    let l : c.loop-i.i < length c.args.a.now = search rules in
    let s : IsSmall (whole_at c.args.a.now c.loop-i.i) = c.requires.small c.loop-i.i l in
    let f : SFits w128 (whole_at c.args.a.now c.loop-i.i) = search rules in
    rw c.from_residual.ensures (past_summed (whole_at c.args.a.now) c.args.x.now c.loop-i.i (length c.args.a.now) _ c.loop-i.sum c.index-x-i.result
    c.loop-i.invariant (simp to_z-of_z refl) c.index-x-i.is (omega (arith, c.requires.length)) l c.in_err-sum.ensures)

pub loop-i-preserved : goal.loop-i-preserved
loop-i-preserved c =
    let l : c.loop-i.i < length c.args.a.now = search rules in
    let s : IsSmall (whole_at c.args.a.now c.loop-i.i) = c.requires.small c.loop-i.i l in
    let f : SFits w128 (whole_at c.args.a.now c.loop-i.i) = search rules in
    more_summed (whole_at c.args.a.now) c.args.x.now c.loop-i.i _ c.loop-i.sum c.in_ok-sum.sum c.index-x-i.result
    c.loop-i.invariant (simp to_z-of_z refl) c.index-x-i.is (omega (arith, c.requires.length)) c.in_ok-sum.ensures
