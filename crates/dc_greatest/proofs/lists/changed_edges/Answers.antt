-- An edge whose source has changed is listed; of another one the source is the same.
use Rattle.std.specs.Prelude.{◌≡◌, ◌<◌, ◌+◌, length, slice_index_or}
use Rattle.std.proofs.Common.{sym, ◌∙◌, subst, arith}
use Rattle.dc_worklist.specs.Listed.{Listed}
use Rattle.dc_greatest.proofs.EdgesSoFar.{edge_inside}
use Rattle.dc_greatest.proofs.Sames.{FirstChanged, changed_listed, changed_same}
use Rattle.dc_greatest.proofs.lists.changed_edges.Goals as goal
use Rattle.dc_greatest.proofs.lists.changed_edges.Goals.{then-not-same_one, else-not-same_one}

pub loop-k-preserved : goal.loop-k-preserved
loop-k-preserved c =
    let k = c.loop-k.k in
    let es = c.args.s.now.edges in
    let inv = c.loop-k.invariant in
    let g = c.edge-item.result in
    let is : g ≡ slice_index_or es k g = subst (λ xs. g ≡ slice_index_or xs k g) c.as_slice-edge-items.ensures c.edge-item.is in
    let inside : k < length es = subst (λ xs. k < length xs) c.as_slice-edge-items.ensures c.loop-k-test.true in
    let ends = edge_inside c.args.s.now k g c.requires.system inside (sym is) in
    elim c.if-not-same_one.branch [
      | then-not-same_one w ↦
          let e = w.work-is ∙ w.insert.ensures.list in
          subst (λ (x : Listed). (x.edges ≡ length es) × FirstChanged es c.args.old.now c.args.new.now (k + 1) x.numbers) (sym e)
          (inv.0, changed_listed es c.args.old.now c.args.new.now k c.loop-k.work.numbers inv.1)
      | else-not-same_one w ↦
          subst (λ (x : Listed). (x.edges ≡ length es) × FirstChanged es c.args.old.now c.args.new.now (k + 1) x.numbers) (sym w.work-is) (
            inv.0,
            changed_same es c.args.old.now c.args.new.now k c.loop-k.work.numbers g c.index-old-edge.result c.index-new-edge.result inside is
                (let q = c.requires.old in let h = ends.0 in omega arith) (let q = c.requires.new in let h = ends.0 in omega arith)
                c.index-old-edge.is c.index-new-edge.is (c.same_one.ensures.0 w.if-not-same_one.false) inv.1,
          )
    ]
