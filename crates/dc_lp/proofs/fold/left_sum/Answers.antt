use Rattle.std.proofs.Common.{rules, arith, ◌<◌, sym, ◌∙◌, ap, subst, Some, SFits}
use Rattle.std.proofs.lemmas.Int.{to_z-of_z}
use mir.Syntax.{w128}
use Rattle.dc_frac.specs.Fits.{IsSmall}
use Rattle.dc_lp.specs.Problems.{coefficient, columns}
use Rattle.dc_lp.specs.Folds.{numbers}
use Rattle.dc_lp.proofs.Folding.{folded-none, more_summed, past_summed, coefficient_read, coefficient_small}
use Rattle.dc_lp.proofs.fold.left_sum.Goals as goal

pub loop-j-init : goal.loop-j-init
loop-j-init c = folded-none (coefficient c.args.p.now c.args.row) (numbers c.args.x.now) ∙ ap Some (sym c.whole-sum.ensures)

pub add_term-requires : goal.add_term-requires
add_term-requires c =
    let l : c.loop-j.j < columns c.args.p.now = search rules in
    let f : SFits w128 c.coefficient.result = search rules in
    let e = coefficient_read c.args.p.now.columns.items (λ v. v.items) c.index.result.now c.deref.result.now c.args.row c.loop-j.j c.coefficient.result l c.index.ensures c.deref.ensures.value c.coefficient.ensures in
    simp to_z-of_z (subst IsSmall (sym e) (coefficient_small c.args.p.now c.args.row c.loop-j.j c.requires.well_formed l))

pub returns-in_err-sum : goal.returns-in_err-sum
returns-in_err-sum c =
    let l : c.loop-j.j < columns c.args.p.now = search rules in
    let f : SFits w128 c.coefficient.result = search rules in
    let e = coefficient_read c.args.p.now.columns.items (λ v. v.items) c.index.result.now c.deref.result.now c.args.row c.loop-j.j c.coefficient.result l c.index.ensures c.deref.ensures.value c.coefficient.ensures in
    rw c.from_residual.ensures (past_summed (coefficient c.args.p.now c.args.row) c.args.x.now c.loop-j.j (columns c.args.p.now) _ c.loop-j.sum c.index-x-j.result
    c.loop-j.invariant (simp to_z-of_z e) c.index-x-j.is (omega (arith, c.requires.length)) l c.in_err-sum.ensures)

pub loop-j-preserved : goal.loop-j-preserved
loop-j-preserved c =
    let l : c.loop-j.j < columns c.args.p.now = search rules in
    let f : SFits w128 c.coefficient.result = search rules in
    let e = coefficient_read c.args.p.now.columns.items (λ v. v.items) c.index.result.now c.deref.result.now c.args.row c.loop-j.j c.coefficient.result l c.index.ensures c.deref.ensures.value c.coefficient.ensures in
    more_summed (coefficient c.args.p.now c.args.row) c.args.x.now c.loop-j.j _ c.loop-j.sum c.in_ok-sum.sum c.index-x-j.result
    c.loop-j.invariant (simp to_z-of_z e) c.index-x-j.is (omega (arith, c.requires.length)) c.in_ok-sum.ensures
