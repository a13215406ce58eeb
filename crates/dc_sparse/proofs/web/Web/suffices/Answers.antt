use Rattle.std.proofs.Common.{◌≡◌, ◌≤◌, ◌+◌, ◌∙◌, length, arith, Some, None, refl, sym}
use Rattle.dc_sparse.specs.Nodes.{row_at, down_at, head_at}
use Rattle.dc_sparse.specs.Rows.{row_gaps, rows_gaps}
use Rattle.dc_sparse.proofs.SingleWrites.{item_live}
use Rattle.dc_sparse.proofs.Links.{row-read, down-read}
use Rattle.dc_sparse.proofs.ColumnSteps.{AreCounted, counted_pivot, counted_more, counted_entry, counted_end, counted_so_far}
use Rattle.dc_sparse.proofs.web.Web.suffices.Goals as goal
use Rattle.dc_sparse.proofs.web.Web.suffices.Goals.{then-row-pivot+else-left-across, else-row-pivot}
use Rattle.dc_sparse.proofs.RowSteps.{row_gaps-less}

pub loop-next-init : goal.loop-next-init
loop-next-init c =
    let e = c.requires.count in
    record { counting = record { counted = refl; next = c.requires.first }; room = omega (arith, c.if-count-self.false); within = c.requires.within }

pub index-requires : goal.index-requires
index-requires c =
    let w = c.args.self.now in
    let n = c.in-Some.node in
    let a : AreCounted w.nodes.items (length w.col_heads.items) c.args.pivot c.args.col (rows_gaps w.nodes.items (length w.col_heads.items) c.args.pivot c.args.col c.loop-next.done) c.loop-next.done (Some n) = rw c.in-Some.is at c.loop-next.invariant.counting in
    let inside = item_live w.nodes.items n a.next.0.live in
    let in_table = (w.woven.within n a.next.0.live).0 in
    omega (arith, w.nodes.ok.0)

pub index-requires-in-Some : goal.index-requires-in-Some
index-requires-in-Some c =
    let w = c.args.self.now in
    let n = c.in-Some.node in
    let a : AreCounted w.nodes.items (length w.col_heads.items) c.args.pivot c.args.col (rows_gaps w.nodes.items (length w.col_heads.items) c.args.pivot c.args.col c.loop-next.done) c.loop-next.done (Some n) = rw c.in-Some.is at c.loop-next.invariant.counting in
    let inside = item_live w.nodes.items n a.next.0.live in
    let in_table = (w.woven.within n a.next.0.live).0 in
    omega (arith, w.nodes.ok.0)

pub overflow_add-done : goal.overflow_add-done
overflow_add-done c =
    let w = c.args.self.now in
    let n = c.in-Some.node in
    let a : AreCounted w.nodes.items (length w.col_heads.items) c.args.pivot c.args.col (rows_gaps w.nodes.items (length w.col_heads.items) c.args.pivot c.args.col c.loop-next.done) c.loop-next.done (Some n) = rw c.in-Some.is at c.loop-next.invariant.counting in
    let inside = item_live w.nodes.items n a.next.0.live in
    let in_table = (w.woven.within n a.next.0.live).0 in
    let e : c.row-row.result ≡ row_at w.nodes.items n = c.row-row.ensures ∙ row-read w.nodes.items n c.index.result.now inside c.index.ensures in
    omega (arith, w.row_heads.ok.0)

pub loop-next-smaller : goal.loop-next-smaller
loop-next-smaller c =
    let w = c.args.self.now in
    let n = c.in-Some.node in
    let a : AreCounted w.nodes.items (length w.col_heads.items) c.args.pivot c.args.col (rows_gaps w.nodes.items (length w.col_heads.items) c.args.pivot c.args.col c.loop-next.done) c.loop-next.done (Some n) = rw c.in-Some.is at c.loop-next.invariant.counting in
    let inside = item_live w.nodes.items n a.next.0.live in
    let in_table = (w.woven.within n a.next.0.live).0 in
    let e : c.row-row.result ≡ row_at w.nodes.items n = c.row-row.ensures ∙ row-read w.nodes.items n c.index.result.now inside c.index.ensures in
    let le = a.next.0.index in
    omega arith

pub loop-next-preserved : goal.loop-next-preserved
loop-next-preserved c =
    let w = c.args.self.now in
    let n = c.in-Some.node in
    let a : AreCounted w.nodes.items (length w.col_heads.items) c.args.pivot c.args.col (rows_gaps w.nodes.items (length w.col_heads.items) c.args.pivot c.args.col c.loop-next.done) c.loop-next.done (Some n) = rw c.in-Some.is at c.loop-next.invariant.counting in
    let inside = item_live w.nodes.items n a.next.0.live in
    let in_table = (w.woven.within n a.next.0.live).0 in
    let e : c.row-row.result ≡ row_at w.nodes.items n = c.row-row.ensures ∙ row-read w.nodes.items n c.index.result.now inside c.index.ensures in
    let ed : c.down-next.result ≡ down_at w.nodes.items n = c.down-next.ensures.is ∙ down-read w.nodes.items n c.index-in-Some.result.now inside c.index-in-Some.ensures in
    let count = rows_gaps w.nodes.items (length w.col_heads.items) c.args.pivot c.args.col c.loop-next.done in
    let r : count + c.loop-next.left ≤ w.spare = c.loop-next.invariant.room in
    elim c.if-row-pivot.branch [
      | then-row-pivot+else-left-across v ↦
          let m = counted_more w.nodes.items (length w.col_heads.items) c.args.pivot c.args.col count c.loop-next.done n a w.woven.apart inside (length w.col_heads.items) (head_at w.col_heads.items) w.woven.columns in
          let q : count + row_gaps w.nodes.items (row_at w.nodes.items n) c.args.pivot (length w.col_heads.items) ≡ rows_gaps w.nodes.items (length w.col_heads.items) c.args.pivot c.args.col (row_at w.nodes.items n + 1) = m.counted in
          let nz = counted_entry w.nodes.items (length w.col_heads.items) c.args.pivot c.args.col count c.loop-next.done n a w.woven.apart inside (length w.col_heads.items) (head_at w.col_heads.items) w.woven.columns in
          let g = row_gaps-less w.nodes.items (row_at w.nodes.items n) c.args.pivot c.args.col (length w.col_heads.items) c.requires.col nz c.requires.entry in
          let x = c.requires.across in
          let s : rows_gaps w.nodes.items (length w.col_heads.items) c.args.pivot c.args.col (row_at w.nodes.items n + 1) + c.if-row-pivot.left ≤ w.spare = omega (arith, v.left-is, v.if-left-across.false) in
          record { counting = rw (e, ed) (counted_so_far w.nodes.items (length w.col_heads.items) c.args.pivot c.args.col (count + row_gaps w.nodes.items (row_at w.nodes.items n) c.args.pivot (length w.col_heads.items)) (row_at w.nodes.items n + 1) (down_at w.nodes.items n) m); room = rw e s; within = omega arith }
      | else-row-pivot v ↦
          let m = counted_pivot w.nodes.items (length w.col_heads.items) c.args.pivot c.args.col count c.loop-next.done n a w.woven.apart inside (length w.col_heads.items) (head_at w.col_heads.items) w.woven.columns (sym e ∙ v.if-row-pivot.false) in
          let q : count ≡ rows_gaps w.nodes.items (length w.col_heads.items) c.args.pivot c.args.col (row_at w.nodes.items n + 1) = m.counted in
          let s : rows_gaps w.nodes.items (length w.col_heads.items) c.args.pivot c.args.col (row_at w.nodes.items n + 1) + c.if-row-pivot.left ≤ w.spare = omega (arith, v.left-is) in
          record { counting = rw (e, ed) (counted_so_far w.nodes.items (length w.col_heads.items) c.args.pivot c.args.col count (row_at w.nodes.items n + 1) (down_at w.nodes.items n) m); room = rw e s; within = omega arith }
    ]

pub returns : goal.returns
returns c =
    let w = c.args.self.now in
    let a : AreCounted w.nodes.items (length w.col_heads.items) c.args.pivot c.args.col (rows_gaps w.nodes.items (length w.col_heads.items) c.args.pivot c.args.col c.loop-next.done) c.loop-next.done None = rw c.in_default.is at c.loop-next.invariant.counting in
    let q = counted_end w.nodes.items (length w.col_heads.items) c.args.pivot c.args.col (rows_gaps w.nodes.items (length w.col_heads.items) c.args.pivot c.args.col c.loop-next.done) c.loop-next.done (length w.row_heads.items) a c.loop-next.invariant.within in
    let r = c.loop-next.invariant.room in
    λ _. omega arith
