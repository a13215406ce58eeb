use Rattle.std.proofs.Common.{◌≡◌, ◌∙◌, length, arith, Some, None, sym}
use Rattle.dc_sparse.specs.Lines.{IsFirst}
use Rattle.dc_sparse.specs.Nodes.{by_rows, col_at, right_at, head_at}
use Rattle.dc_sparse.specs.Entries.{entry_at}
use Rattle.dc_sparse.proofs.SingleWrites.{item_live}
use Rattle.dc_sparse.proofs.Links.{col-read, right-read, next_first}
use Rattle.dc_sparse.proofs.RowSteps.{entries_start, entries_step, entries_end, entries_in-most}
use Rattle.dc_sparse.proofs.web.Web.row_length.Goals as goal

pub loop-next-init : goal.loop-next-init
loop-next-init c = record { counted = entries_start (entry_at c.args.self.now.nodes.items c.args.row); first = c.right_of-next.ensures; within = omega arith }

pub overflow_add-count : goal.overflow_add-count
overflow_add-count c =
    let w = c.args.self.now in
    let n = c.in-Some.node in
    let f : IsFirst (by_rows w.nodes.items) c.args.row c.loop-next.done (Some n) = rw c.in-Some.is at c.loop-next.invariant.first in
    let inside = item_live w.nodes.items n f.0.live in
    let in_table = (w.woven.within n f.0.live).1 in
    let le = f.0.index in
    let q = c.loop-next.invariant.counted in
    let m = entries_in-most (entry_at w.nodes.items c.args.row) c.loop-next.done in
    omega (arith, w.col_heads.ok.0)

pub index-requires : goal.index-requires
index-requires c =
    let w = c.args.self.now in
    let n = c.in-Some.node in
    let f : IsFirst (by_rows w.nodes.items) c.args.row c.loop-next.done (Some n) = rw c.in-Some.is at c.loop-next.invariant.first in
    let inside = item_live w.nodes.items n f.0.live in
    let in_table = (w.woven.within n f.0.live).1 in
    omega (arith, w.nodes.ok.0)

pub index-requires-in-Some : goal.index-requires-in-Some
index-requires-in-Some c =
    let w = c.args.self.now in
    let n = c.in-Some.node in
    let f : IsFirst (by_rows w.nodes.items) c.args.row c.loop-next.done (Some n) = rw c.in-Some.is at c.loop-next.invariant.first in
    let inside = item_live w.nodes.items n f.0.live in
    let in_table = (w.woven.within n f.0.live).1 in
    omega (arith, w.nodes.ok.0)

pub overflow_add-done : goal.overflow_add-done
overflow_add-done c =
    let w = c.args.self.now in
    let n = c.in-Some.node in
    let f : IsFirst (by_rows w.nodes.items) c.args.row c.loop-next.done (Some n) = rw c.in-Some.is at c.loop-next.invariant.first in
    let inside = item_live w.nodes.items n f.0.live in
    let in_table = (w.woven.within n f.0.live).1 in
    let e : c.col-at.result ≡ col_at w.nodes.items n = c.col-at.ensures ∙ col-read w.nodes.items n c.index.result.now inside c.index.ensures in
    omega (arith, w.col_heads.ok.0)

pub loop-next-smaller : goal.loop-next-smaller
loop-next-smaller c =
    let w = c.args.self.now in
    let n = c.in-Some.node in
    let f : IsFirst (by_rows w.nodes.items) c.args.row c.loop-next.done (Some n) = rw c.in-Some.is at c.loop-next.invariant.first in
    let inside = item_live w.nodes.items n f.0.live in
    let in_table = (w.woven.within n f.0.live).1 in
    let e : c.col-at.result ≡ col_at w.nodes.items n = c.col-at.ensures ∙ col-read w.nodes.items n c.index.result.now inside c.index.ensures in
    let le = f.0.index in
    omega arith

pub loop-next-preserved : goal.loop-next-preserved
loop-next-preserved c =
    let w = c.args.self.now in
    let n = c.in-Some.node in
    let f : IsFirst (by_rows w.nodes.items) c.args.row c.loop-next.done (Some n) = rw c.in-Some.is at c.loop-next.invariant.first in
    let inside = item_live w.nodes.items n f.0.live in
    let in_table = (w.woven.within n f.0.live).1 in
    let e : c.col-at.result ≡ col_at w.nodes.items n = c.col-at.ensures ∙ col-read w.nodes.items n c.index.result.now inside c.index.ensures in
    let right : c.right-next.result ≡ right_at w.nodes.items n = c.right-next.ensures.is ∙ right-read w.nodes.items n c.index-in-Some.result.now inside c.index-in-Some.ensures in
    record {
      counted = rw (e, c.loop-next.invariant.counted) (sym (entries_step w.nodes.items c.args.row c.loop-next.done n f w.woven.apart inside));
      first = rw (e, right) (next_first (by_rows w.nodes.items) (length w.row_heads.items) (head_at w.row_heads.items) c.args.row n w.woven.rows (f.0.live, f.0.line));
      within = omega arith;
    }

pub returns : goal.returns
returns c =
    let w = c.args.self.now in
    let f : IsFirst (by_rows w.nodes.items) c.args.row c.loop-next.done None = rw c.in_default.is at c.loop-next.invariant.first in
    c.loop-next.invariant.counted ∙ entries_end w.nodes.items c.args.row c.loop-next.done (length w.col_heads.items) f c.loop-next.invariant.within
