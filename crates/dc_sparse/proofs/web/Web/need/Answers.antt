use Rattle.std.proofs.Common.{◌≡◌, ◌+◌, ◌∙◌, length, arith, Some, None, sym, ap, max}
use Rattle.dc_sparse.specs.Nodes.{row_at, down_at, head_at}
use Rattle.dc_sparse.specs.Entries.{entry_at}
use Rattle.dc_sparse.specs.Rows.{row_gaps, entries_in}
use Rattle.dc_sparse.proofs.SingleWrites.{item_live}
use Rattle.dc_sparse.proofs.Links.{row-read, down-read}
use Rattle.dc_sparse.proofs.ColumnSteps.{AreCounted, counted_start, counted_pivot, counted_more, counted_end}
use Rattle.dc_sparse.proofs.RowSteps.{row_gaps-less}
use Rattle.dc_sparse.proofs.web.Web.need.Goals as goal
use Rattle.dc_sparse.proofs.web.Web.need.Goals.{then-row-pivot+else-suffices+in_ok-count, else-row-pivot}

pub overflow_sub-across : goal.overflow_sub-across
overflow_sub-across c =
    let w = c.args.self.now in
    let g = row_gaps-less w.nodes.items c.args.pivot c.args.pivot c.args.col (length w.col_heads.items) c.requires.col c.requires.entry c.requires.entry in
    let x : c.row_length-across.result ≡ entries_in (entry_at w.nodes.items c.args.pivot) (length w.col_heads.items) = c.row_length-across.ensures in
    omega arith

pub suffices-requires-clause-across : goal.suffices-requires-clause-across
suffices-requires-clause-across c =
    let w = c.args.self.now in
    let g = row_gaps-less w.nodes.items c.args.pivot c.args.pivot c.args.col (length w.col_heads.items) c.requires.col c.requires.entry c.requires.entry in
    let x : c.row_length-across.result ≡ entries_in (entry_at w.nodes.items c.args.pivot) (length w.col_heads.items) = c.row_length-across.ensures in
    omega arith

pub loop-next-init : goal.loop-next-init
loop-next-init c = record { counting = counted_start c.args.self.now.nodes.items (length c.args.self.now.col_heads.items) c.args.pivot c.args.col c.down_of-next.result c.down_of-next.ensures; within = omega arith }

pub index-requires : goal.index-requires
index-requires c =
    let w = c.args.self.now in
    let n = c.in-Some.node in
    let a : AreCounted w.nodes.items (length w.col_heads.items) c.args.pivot c.args.col c.loop-next.count c.loop-next.done (Some n) = rw c.in-Some.is at c.loop-next.invariant.counting in
    let inside = item_live w.nodes.items n a.next.0.live in
    let in_table = (w.woven.within n a.next.0.live).0 in
    omega (arith, w.nodes.ok.0)

pub index-requires-in-Some : goal.index-requires-in-Some
index-requires-in-Some c =
    let w = c.args.self.now in
    let n = c.in-Some.node in
    let a : AreCounted w.nodes.items (length w.col_heads.items) c.args.pivot c.args.col c.loop-next.count c.loop-next.done (Some n) = rw c.in-Some.is at c.loop-next.invariant.counting in
    let inside = item_live w.nodes.items n a.next.0.live in
    let in_table = (w.woven.within n a.next.0.live).0 in
    omega (arith, w.nodes.ok.0)

pub row_gaps-requires-clause-row : goal.row_gaps-requires-clause-row
row_gaps-requires-clause-row c =
    let w = c.args.self.now in
    let n = c.in-Some.node in
    let a : AreCounted w.nodes.items (length w.col_heads.items) c.args.pivot c.args.col c.loop-next.count c.loop-next.done (Some n) = rw c.in-Some.is at c.loop-next.invariant.counting in
    let inside = item_live w.nodes.items n a.next.0.live in
    let in_table = (w.woven.within n a.next.0.live).0 in
    let e : c.row-row.result ≡ row_at w.nodes.items n = c.row-row.ensures ∙ row-read w.nodes.items n c.index.result.now inside c.index.ensures in
    omega arith

pub overflow_add-done : goal.overflow_add-done
overflow_add-done c =
    let w = c.args.self.now in
    let n = c.in-Some.node in
    let a : AreCounted w.nodes.items (length w.col_heads.items) c.args.pivot c.args.col c.loop-next.count c.loop-next.done (Some n) = rw c.in-Some.is at c.loop-next.invariant.counting in
    let inside = item_live w.nodes.items n a.next.0.live in
    let in_table = (w.woven.within n a.next.0.live).0 in
    let e : c.row-row.result ≡ row_at w.nodes.items n = c.row-row.ensures ∙ row-read w.nodes.items n c.index.result.now inside c.index.ensures in
    omega (arith, w.row_heads.ok.0)

pub loop-next-smaller : goal.loop-next-smaller
loop-next-smaller c =
    let w = c.args.self.now in
    let n = c.in-Some.node in
    let a : AreCounted w.nodes.items (length w.col_heads.items) c.args.pivot c.args.col c.loop-next.count c.loop-next.done (Some n) = rw c.in-Some.is at c.loop-next.invariant.counting in
    let inside = item_live w.nodes.items n a.next.0.live in
    let in_table = (w.woven.within n a.next.0.live).0 in
    let e : c.row-row.result ≡ row_at w.nodes.items n = c.row-row.ensures ∙ row-read w.nodes.items n c.index.result.now inside c.index.ensures in
    let le = a.next.0.index in
    omega arith

pub loop-next-preserved : goal.loop-next-preserved
loop-next-preserved c =
    let w = c.args.self.now in
    let n = c.in-Some.node in
    let a : AreCounted w.nodes.items (length w.col_heads.items) c.args.pivot c.args.col c.loop-next.count c.loop-next.done (Some n) = rw c.in-Some.is at c.loop-next.invariant.counting in
    let inside = item_live w.nodes.items n a.next.0.live in
    let in_table = (w.woven.within n a.next.0.live).0 in
    let e : c.row-row.result ≡ row_at w.nodes.items n = c.row-row.ensures ∙ row-read w.nodes.items n c.index.result.now inside c.index.ensures in
    let ed : c.down-next.result ≡ down_at w.nodes.items n = c.down-next.ensures.is ∙ down-read w.nodes.items n c.index-in-Some.result.now inside c.index-in-Some.ensures in
    elim c.if-row-pivot.branch [
      | then-row-pivot+else-suffices+in_ok-count v ↦
          let g : v.row_gaps.result ≡ row_gaps w.nodes.items (row_at w.nodes.items n) c.args.pivot (length w.col_heads.items) = v.row_gaps.ensures ∙ ap (λ k. row_gaps w.nodes.items k c.args.pivot (length w.col_heads.items)) e in
          let s : c.if-row-pivot.count ≡ c.loop-next.count + row_gaps w.nodes.items (row_at w.nodes.items n) c.args.pivot (length w.col_heads.items) = omega (arith, v.count-is, v.in_ok-count.ensures) in
          record { counting = rw (s, e, ed) (counted_more w.nodes.items (length w.col_heads.items) c.args.pivot c.args.col c.loop-next.count c.loop-next.done n a w.woven.apart inside (length w.col_heads.items) (head_at w.col_heads.items) w.woven.columns); within = omega arith }
      | else-row-pivot v ↦ record { counting = rw (v.count-is, e, ed) (counted_pivot w.nodes.items (length w.col_heads.items) c.args.pivot c.args.col c.loop-next.count c.loop-next.done n a w.woven.apart inside (length w.col_heads.items) (head_at w.col_heads.items) w.woven.columns (sym e ∙ v.if-row-pivot.false)); within = omega arith }
    ]

pub returns : goal.returns
returns c =
    let w = c.args.self.now in
    let a : AreCounted w.nodes.items (length w.col_heads.items) c.args.pivot c.args.col c.loop-next.count c.loop-next.done None = rw c.in_default.is at c.loop-next.invariant.counting in
    ap (max w.spare) (counted_end w.nodes.items (length w.col_heads.items) c.args.pivot c.args.col c.loop-next.count c.loop-next.done (length w.row_heads.items) a c.loop-next.invariant.within)
