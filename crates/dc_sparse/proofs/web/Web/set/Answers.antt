use Rattle.std.proofs.Common.{arith, refl}
use Rattle.dc_frac.specs.Value.{value}
use Rattle.dc_sparse.proofs.SingleWrites.{item_live, revalued}
use Rattle.dc_sparse.proofs.Smalls.{small_kept}
use Rattle.dc_sparse.proofs.Values.{woven_same, put_revalued, stays_revalued}
use Rattle.dc_sparse.proofs.web.Web.set.Goals as goal

pub index_mut-requires : goal.index_mut-requires
index_mut-requires c = (let l = item_live c.args.self.now.nodes.items c.args.node c.requires.node in omega (arith, c.args.self.now.nodes.ok.0))

pub invariant_of-self : goal.invariant_of-self
invariant_of-self c =
    let w = c.args.self.now in
    let l = item_live w.nodes.items c.args.node c.requires.node in
    record {
      stopped = w.stopped;
      small = small_kept _ _ _ _ _ _ (revalued w.nodes.items c.args.node c.index_mut.result.now c.args.entry l c.index_mut.ensures.value).long refl refl w.small;
      woven = woven_same w.nodes.items _ w.row_heads.items w.col_heads.items w.free w.spare c.args.node (value c.args.entry) w.woven c.requires.node c.requires.nonzero
          (revalued w.nodes.items c.args.node c.index_mut.result.now c.args.entry l c.index_mut.ensures.value);
    }

pub returns-clause-entry : goal.returns-clause-entry
returns-clause-entry c i k s =
    let w = c.args.self.now in
    let l = item_live w.nodes.items c.args.node c.requires.node in
    put_revalued w.nodes.items _ w.row_heads.items w.col_heads.items w.free w.spare c.args.node (value c.args.entry) w.woven c.requires.node c.requires.nonzero
    (revalued w.nodes.items c.args.node c.index_mut.result.now c.args.entry l c.index_mut.ensures.value) i k l s

pub returns-clause-stays : goal.returns-clause-stays
returns-clause-stays c m i k s =
    let w = c.args.self.now in
    let l = item_live w.nodes.items c.args.node c.requires.node in
    stays_revalued w.nodes.items _ w.row_heads.items w.col_heads.items w.free w.spare c.args.node (value c.args.entry) w.woven c.requires.node c.requires.nonzero
    (revalued w.nodes.items c.args.node c.index_mut.result.now c.args.entry l c.index_mut.ensures.value) m i k s

pub returns-clause-arena : goal.returns-clause-arena
returns-clause-arena c =
    let w = c.args.self.now in
    let l = item_live w.nodes.items c.args.node c.requires.node in
    (revalued w.nodes.items c.args.node c.index_mut.result.now c.args.entry l c.index_mut.ensures.value).long
