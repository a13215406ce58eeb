use Rattle.std.proofs.Common.{◌≡◌, rules, ◌∙◌, ap, Some, SFits, pos}
use Rattle.std.proofs.lemmas.Int.{to_z-of_z}
use mir.Syntax.{w128}
use Rattle.dc_math.specs.Rational.{of_ℤ}
use Rattle.dc_frac.specs.Value.{value}
use Rattle.dc_affine.specs.declared.atom.Atom.{Atom}
use Rattle.dc_clauses.specs.Hyps.{atoms_of}
use Rattle.dc_clauses.specs.Lines.{part}
use Rattle.dc_clauses.proofs.Parts.{row}
use Rattle.dc_clauses.specs.Items.{items_sum}
use Rattle.dc_clauses.proofs.Items.{items_sum-folded, sum_more, sum_past, sum_ends}
use Rattle.dc_clauses.proofs.hyps.part_sum.Goals as goal

pub returns-in_err-sum : goal.returns-in_err-sum
returns-in_err-sum c =
    let a = row (atoms_of c.args.hyps.now) c.args.places c.args.place in
    let f : SFits w128 c.part.result = search rules in
    let e : c.part.result ≡ a c.item-item.result.index = c.part.ensures.value ∙ ap (λ (x : Atom). part c.args.places x c.args.place) c.get-atom.ensures in
    rw c.from_residual.ensures (sum_past a c.args.items.now c.loop-item.item-index c.item-item.result c.loop-item.sum _ (items_sum a (Some (of_ℤ (pos 0))) c.args.items.now)
    c.loop-item-test.true c.item-item.is (simp to_z-of_z e) c.in_err-sum.ensures c.loop-item.invariant
    ∙ items_sum-folded _ a c.args.items.now c.requires.rising c.requires.below)

pub loop-item-preserved : goal.loop-item-preserved
loop-item-preserved c =
    let a = row (atoms_of c.args.hyps.now) c.args.places c.args.place in
    let f : SFits w128 c.part.result = search rules in
    let e : c.part.result ≡ a c.item-item.result.index = c.part.ensures.value ∙ ap (λ (x : Atom). part c.args.places x c.args.place) c.get-atom.ensures in
    sum_more a c.args.items.now c.loop-item.item-index c.item-item.result c.loop-item.sum c.in_ok-sum.sum _ (items_sum a (Some (of_ℤ (pos 0))) c.args.items.now)
    c.loop-item-test.true c.item-item.is (simp to_z-of_z e) c.in_ok-sum.ensures c.loop-item.invariant

pub returns : goal.returns
returns c =
    let a = row (atoms_of c.args.hyps.now) c.args.places c.args.place in
    sum_ends a c.args.items.now c.loop-item.item-index (value c.loop-item.sum) (items_sum a (Some (of_ℤ (pos 0))) c.args.items.now) c.loop-item-test.false c.loop-item.invariant
    ∙ items_sum-folded _ a c.args.items.now c.requires.rising c.requires.below
