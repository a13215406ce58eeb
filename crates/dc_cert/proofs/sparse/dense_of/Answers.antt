use Rattle.std.proofs.Common.{◌∙◌, ap, arith, refl}
use Rattle.std.proofs.lemmas.List.{length-set, take_all}
use Rattle.dc_cert.specs.Vectors.{entry_of}
use Rattle.dc_cert.proofs.VectorLaws.{write_item, below_at}
use Rattle.dc_cert.proofs.sparse.dense_of.Goals as goal

pub loop-item-preserved : goal.loop-item-preserved
loop-item-preserved c = record {
  count = length-set _ _ _ ∙ c.loop-item.invariant.count;
  entries = write_item c.loop-item.list.items _ c.as_slice-item-items.result.now c.args.len c.loop-item.item-index c.item-item.result c.loop-item-test.true
      (let b = below_at c.args.s.now.items c.as_slice-item-items.result.now c.args.len c.loop-item.item-index c.item-item.result c.requires c.as_slice-item-items.ensures c.loop-item-test.true c.item-item.is in let p = c.loop-item.invariant.count in omega arith) c.item-item.is refl c.loop-item.invariant.count c.loop-item.invariant.entries;
}

pub returns : goal.returns
returns c = record {
  count = c.loop-item.invariant.count;
  entries = (λ k d h. c.loop-item.invariant.entries k d h ∙ ap (λ is. entry_of is k) (take_all c.loop-item.item-index _ c.loop-item-test.false ∙ c.as_slice-item-items.ensures));
}
