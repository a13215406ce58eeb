use Rattle.std.proofs.Common.{sym, ◌∙◌, ap, ◌++◌, ◌∷◌, []}
use Rattle.dc_cert.specs.declared.sparse.Item.{Item}
use Rattle.dc_cert.proofs.VectorLaws.{keep_zero, keep_value, within_value, within_same, within_items}
use Rattle.dc_cert.proofs.sparse.sparse_of.Goals as goal
use Rattle.dc_cert.proofs.sparse.sparse_of.Goals.{then-not-is_zero+in_ok-push, else-not-is_zero}

pub loop-index-preserved : goal.loop-index-preserved
loop-index-preserved c =
    elim c.if-not-is_zero.branch [
      | then-not-is_zero+in_ok-push w ↦
          record {
            items = keep_value c.args.v.now c.loop-index.index c.index-v-index.result c.loop-index.items c.if-not-is_zero.items _ c.loop-index-test.true c.index-v-index.is (sym c.is_zero.ensures ∙ w.if-not-is_zero.true)
                (w.items-is ∙ w.in_ok-push.ensures.ok ∙ ap (λ (x : Item). c.loop-index.items ++ x ∷ []) w.entry.ensures.item) c.loop-index.invariant.items;
            within = within_value c.args.v.now c.loop-index.index c.index-v-index.result w.entry.result c.loop-index.items c.if-not-is_zero.items c.loop-index-test.true (sym c.is_zero.ensures ∙ w.if-not-is_zero.true)
                w.entry.ensures.item w.entry.ensures.small (w.items-is ∙ w.in_ok-push.ensures.ok) c.loop-index.invariant.within;
          }
      | else-not-is_zero w ↦
          record {
            items = keep_zero c.args.v.now c.loop-index.index c.index-v-index.result c.loop-index.items c.if-not-is_zero.items _ c.loop-index-test.true c.index-v-index.is (sym c.is_zero.ensures ∙ w.if-not-is_zero.false) w.items-is
                c.loop-index.invariant.items;
            within = within_same c.loop-index.index _ c.loop-index.items c.if-not-is_zero.items w.items-is c.loop-index.invariant.within;
          }
    ]

pub returns-clause-vector : goal.returns-clause-vector
returns-clause-vector c = λ h. within_items 0 c.loop-index.index c.loop-index.items (c.loop-index.invariant.within h)
