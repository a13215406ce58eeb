use Rattle.std.proofs.Common.{◌≡◌, ◌∙◌, sym, ap, length, set, arith, subst}
use Rattle.dc_frac.specs.Value.{value}
use Rattle.dc_sparse.specs.declared.web.Node.{Node}
use Rattle.dc_sparse.specs.Nodes.{by_rows, by_columns, row_at, col_at, IsRelinkedRight, IsRelinkedDown, AreReheaded}
use Rattle.dc_sparse.proofs.SingleWrites.{item_live, written, IsWritten}
use Rattle.dc_sparse.proofs.Links.{right-read, down-read, row-read, col-read}
use Rattle.dc_sparse.proofs.Inserts.{last_in}
use Rattle.dc_sparse.proofs.FreeCounts.{free_count-at_most}
use Rattle.dc_sparse.proofs.Smalls.{small_kept, top_link}
use Rattle.dc_sparse.proofs.Removes.{cleared, woven_less}
use Rattle.dc_sparse.proofs.web.Web.remove.Goals as goal

pub index-requires : goal.index-requires
index-requires c = (let l = item_live c.args.self.now.nodes.items c.args.node c.requires.node in omega (arith, c.args.self.now.nodes.ok.0))

pub index_mut-requires : goal.index_mut-requires
index_mut-requires c = (let l = item_live c.args.self.now.nodes.items c.args.node c.requires.node in omega (arith, c.args.self.now.nodes.ok.0))

pub link_right-requires-clause-row : goal.link_right-requires-clause-row
link_right-requires-clause-row c =
    let w = c.args.self.now in
    let l = item_live w.nodes.items c.args.node c.requires.node in
    let i = c.row.ensures ∙ row-read w.nodes.items c.args.node c.index.result.now l c.index.ensures in
    let v = (w.woven.within c.args.node c.requires.node).0 in
    omega arith

pub link_down-requires-clause-col : goal.link_down-requires-clause-col
link_down-requires-clause-col c =
    let w = c.args.self.now in
    let l = item_live w.nodes.items c.args.node c.requires.node in
    let i = c.col.ensures ∙ col-read w.nodes.items c.args.node c.index.result.now l c.index.ensures in
    let v = (w.woven.within c.args.node c.requires.node).1 in
    omega arith

pub link_right-requires-clause-before : goal.link_right-requires-clause-before
link_right-requires-clause-before c =
    let w = c.args.self.now in
    let l = item_live w.nodes.items c.args.node c.requires.node in
    let wr : IsWritten w.nodes.items (set w.nodes.items c.args.node c.new.result) c.args.node c.new.result = written w.nodes.items c.args.node c.new.result l in
    last_in (by_rows w.nodes.items) (row_at w.nodes.items c.args.node) (col_at w.nodes.items c.args.node) w.nodes.items (set w.nodes.items c.args.node c.new.result) c.args.left wr.long (item_live w.nodes.items) c.requires.left

pub link_down-requires-clause-before : goal.link_down-requires-clause-before
link_down-requires-clause-before c =
    let w = c.args.self.now in
    let l = item_live w.nodes.items c.args.node c.requires.node in
    let wr : IsWritten w.nodes.items (set w.nodes.items c.args.node c.new.result) c.args.node c.new.result = written w.nodes.items c.args.node c.new.result l in
    let e : length c.link_right.new.nodes.items ≡ length w.nodes.items = (let u = c.link_right.ensures.nodes.long in let v = wr.long in omega arith) in
    last_in (by_columns w.nodes.items) (col_at w.nodes.items c.args.node) (row_at w.nodes.items c.args.node) w.nodes.items c.link_right.new.nodes.items c.args.above e (item_live w.nodes.items) c.requires.above

pub returns-clause-cleared : goal.returns-clause-cleared
returns-clause-cleared c =
    let w = c.args.self.now in
    let n = c.args.node in
    let x : Node = c.new.result in
    let l = item_live w.nodes.items n c.requires.node in
    let wr : IsWritten w.nodes.items (set w.nodes.items n x) n x = written w.nodes.items n x l in
    let ei = c.row.ensures ∙ row-read w.nodes.items n c.index.result.now l c.index.ensures in
    let ek = c.col.ensures ∙ col-read w.nodes.items n c.index.result.now l c.index.ensures in
    let er = c.right.ensures.is ∙ right-read w.nodes.items n c.index.result.now l c.index.ensures in
    let ed = c.down.ensures.is ∙ down-read w.nodes.items n c.index.result.now l c.index.ensures in
    cleared w.nodes.items (set w.nodes.items n x) c.link_right.new.nodes.items c.link_down.new.nodes.items w.row_heads.items c.link_right.new.heads.items w.col_heads.items c.link_down.new.heads.items w.free w.spare n x c.args.left c.args.above
    w.woven c.requires.node (ap value c.new.ensures.value ∙ c.whole.ensures) c.new.ensures.row c.new.ensures.right c.requires.left c.requires.above wr
    (subst (λ o. IsRelinkedRight (set w.nodes.items n x) c.link_right.new.nodes.items c.args.left o) er c.link_right.ensures.nodes)
    (subst (λ o. IsRelinkedDown c.link_right.new.nodes.items c.link_down.new.nodes.items c.args.above o) ed c.link_down.ensures.nodes)
    (subst (λ o. AreReheaded w.row_heads.items c.link_right.new.heads.items c.args.left (row_at w.nodes.items n) o) er (subst (λ i. AreReheaded w.row_heads.items c.link_right.new.heads.items c.args.left i c.right.result) ei c.link_right.ensures.heads))
    (subst (λ o. AreReheaded w.col_heads.items c.link_down.new.heads.items c.args.above (col_at w.nodes.items n) o) ed (subst (λ i. AreReheaded w.col_heads.items c.link_down.new.heads.items c.args.above i c.down.result) ek c.link_down.ensures.heads))

pub invariant_of-self : goal.invariant_of-self
invariant_of-self c =
    let w = c.args.self.now in
    let n = c.args.node in
    let x : Node = c.new.result in
    let l = item_live w.nodes.items n c.requires.node in
    let wr : IsWritten w.nodes.items (set w.nodes.items n x) n x = written w.nodes.items n x l in
    let ei = c.row.ensures ∙ row-read w.nodes.items n c.index.result.now l c.index.ensures in
    let ek = c.col.ensures ∙ col-read w.nodes.items n c.index.result.now l c.index.ensures in
    let er = c.right.ensures.is ∙ right-read w.nodes.items n c.index.result.now l c.index.ensures in
    let ed = c.down.ensures.is ∙ down-read w.nodes.items n c.index.result.now l c.index.ensures in
    record {
      stopped = w.stopped ∙ sym c.link_down.ensures.heads.long;
      small = small_kept _ _ _ _ _ _ (c.link_down.ensures.nodes.long ∙ c.link_right.ensures.nodes.long ∙ wr.long) c.link_right.ensures.heads.long c.link_down.ensures.heads.long w.small;
      woven = woven_less w.nodes.items (set w.nodes.items n x) c.link_right.new.nodes.items c.link_down.new.nodes.items w.row_heads.items c.link_right.new.heads.items w.col_heads.items c.link_down.new.heads.items w.free w.spare n x c.args.left c.args.above
          w.woven c.requires.node (ap value c.new.ensures.value ∙ c.whole.ensures) c.new.ensures.row c.new.ensures.right c.requires.left c.requires.above wr
          (subst (λ o. IsRelinkedRight (set w.nodes.items n x) c.link_right.new.nodes.items c.args.left o) er c.link_right.ensures.nodes)
          (subst (λ o. IsRelinkedDown c.link_right.new.nodes.items c.link_down.new.nodes.items c.args.above o) ed c.link_down.ensures.nodes)
          (subst (λ o. AreReheaded w.row_heads.items c.link_right.new.heads.items c.args.left (row_at w.nodes.items n) o) er (subst (λ i. AreReheaded w.row_heads.items c.link_right.new.heads.items c.args.left i c.right.result) ei c.link_right.ensures.heads))
          (subst (λ o. AreReheaded w.col_heads.items c.link_down.new.heads.items c.args.above (col_at w.nodes.items n) o) ed (subst (λ i. AreReheaded w.col_heads.items c.link_down.new.heads.items c.args.above i c.down.result) ek c.link_down.ensures.heads));
    }

pub returns-clause-arena : goal.returns-clause-arena
returns-clause-arena c = (returns-clause-cleared c).others.long

pub new-requires-clause-row : goal.new-requires-clause-row
new-requires-clause-row c = (let w = c.args.self.now in let n = w.woven.count in let m = free_count-at_most w.nodes.items in let s = w.small.nodes in omega arith)

pub new-requires-clause-right : goal.new-requires-clause-right
new-requires-clause-right c = (let w = c.args.self.now in top_link w.nodes.items w.spare w.free w.small.nodes w.woven.unused.top)

pub link_right-requires-clause-to : goal.link_right-requires-clause-to
link_right-requires-clause-to c = c.right.ensures.small

pub link_down-requires-clause-to : goal.link_down-requires-clause-to
link_down-requires-clause-to c = c.down.ensures.small
