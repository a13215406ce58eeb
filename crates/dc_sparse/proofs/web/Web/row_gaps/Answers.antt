use Rattle.std.proofs.Common.{◌≡◌, ◌∙◌, ℕ, length, arith, cond, Some, None, sym, subst, ap}
use Rattle.dc_math.specs.Tests.{is_zero}
use Rattle.dc_sparse.specs.Lines.{IsLast, StandsBefore}
use Rattle.dc_sparse.specs.Nodes.{by_rows, col_at, right_at, head_at}
use Rattle.dc_sparse.specs.Entries.{entry_at}
use Rattle.dc_sparse.proofs.SingleWrites.{item_live}
use Rattle.dc_sparse.proofs.Links.{col-read, right-read}
use Rattle.dc_sparse.proofs.RowSteps.{IsCounting, counting_start, counting_stop, counting_step, counting_end, row_gaps-most, unit_most}
use Rattle.dc_sparse.proofs.web.Web.row_gaps.Goals as goal

pub loop-source-init : goal.loop-source-init
loop-source-init c = record { counting = counting_start c.args.self.now.nodes.items c.args.row c.args.pivot c.right_of-source.result c.right_of-source.ensures; within = omega arith }

pub index-requires : goal.index-requires
index-requires c =
    let w = c.args.self.now in
    let n = c.in-Some.node in
    let a : IsCounting w.nodes.items c.args.row c.args.pivot c.loop-source.count c.loop-source.done (Some n) c.loop-source.left = rw c.in-Some.is at c.loop-source.invariant.counting in
    let inside = item_live w.nodes.items n a.next.0.live in
    let in_table = (w.woven.within n a.next.0.live).1 in
    omega (arith, w.nodes.ok.0)

pub index-requires-in-Some : goal.index-requires-in-Some
index-requires-in-Some c =
    let w = c.args.self.now in
    let n = c.in-Some.node in
    let a : IsCounting w.nodes.items c.args.row c.args.pivot c.loop-source.count c.loop-source.done (Some n) c.loop-source.left = rw c.in-Some.is at c.loop-source.invariant.counting in
    let inside = item_live w.nodes.items n a.next.0.live in
    let in_table = (w.woven.within n a.next.0.live).1 in
    omega (arith, w.nodes.ok.0)

pub left_of-left-requires-clause-from : goal.left_of-left-requires-clause-from
left_of-left-requires-clause-from c =
    let w = c.args.self.now in
    let n = c.in-Some.node in
    let a : IsCounting w.nodes.items c.args.row c.args.pivot c.loop-source.count c.loop-source.done (Some n) c.loop-source.left = rw c.in-Some.is at c.loop-source.invariant.counting in
    let inside = item_live w.nodes.items n a.next.0.live in
    let in_table = (w.woven.within n a.next.0.live).1 in
    let e : c.col-at.result ≡ col_at w.nodes.items n = c.col-at.ensures ∙ col-read w.nodes.items n c.index.result.now inside c.index.ensures in
    subst (λ k. StandsBefore (by_rows w.nodes.items) c.args.row k c.loop-source.left) (sym e) (counting_stop w.nodes.items c.args.row c.args.pivot c.loop-source.count c.loop-source.done n c.loop-source.left a)

pub overflow_add-done : goal.overflow_add-done
overflow_add-done c =
    let w = c.args.self.now in
    let n = c.in-Some.node in
    let a : IsCounting w.nodes.items c.args.row c.args.pivot c.loop-source.count c.loop-source.done (Some n) c.loop-source.left = rw c.in-Some.is at c.loop-source.invariant.counting in
    let inside = item_live w.nodes.items n a.next.0.live in
    let in_table = (w.woven.within n a.next.0.live).1 in
    let e : c.col-at.result ≡ col_at w.nodes.items n = c.col-at.ensures ∙ col-read w.nodes.items n c.index.result.now inside c.index.ensures in
    omega (arith, w.col_heads.ok.0)

pub loop-source-smaller : goal.loop-source-smaller
loop-source-smaller c =
    let w = c.args.self.now in
    let n = c.in-Some.node in
    let a : IsCounting w.nodes.items c.args.row c.args.pivot c.loop-source.count c.loop-source.done (Some n) c.loop-source.left = rw c.in-Some.is at c.loop-source.invariant.counting in
    let inside = item_live w.nodes.items n a.next.0.live in
    let in_table = (w.woven.within n a.next.0.live).1 in
    let e : c.col-at.result ≡ col_at w.nodes.items n = c.col-at.ensures ∙ col-read w.nodes.items n c.index.result.now inside c.index.ensures in
    let le = a.next.0.index in
    omega arith

pub loop-source-preserved : goal.loop-source-preserved
loop-source-preserved c =
    let w = c.args.self.now in
    let n = c.in-Some.node in
    let a : IsCounting w.nodes.items c.args.row c.args.pivot c.loop-source.count c.loop-source.done (Some n) c.loop-source.left = rw c.in-Some.is at c.loop-source.invariant.counting in
    let inside = item_live w.nodes.items n a.next.0.live in
    let in_table = (w.woven.within n a.next.0.live).1 in
    let e : c.col-at.result ≡ col_at w.nodes.items n = c.col-at.ensures ∙ col-read w.nodes.items n c.index.result.now inside c.index.ensures in
    let right : c.right-source.result ≡ right_at w.nodes.items n = c.right-source.ensures.is ∙ right-read w.nodes.items n c.index-in-Some.result.now inside c.index-in-Some.ensures in
    let l : IsLast (by_rows w.nodes.items) c.args.row (col_at w.nodes.items n) c.left_of-left.result = subst (λ k. IsLast (by_rows w.nodes.items) c.args.row k c.left_of-left.result) e c.left_of-left.ensures in
    let g : c.gap_at-count.result ≡ cond (is_zero (entry_at w.nodes.items c.args.row (col_at w.nodes.items n))) 1 0 = c.gap_at-count.ensures ∙ ap (λ (k : ℕ). cond (is_zero (entry_at w.nodes.items c.args.row k)) 1 0) e in
    record {
      counting = rw (e, right, g) (counting_step w.nodes.items c.args.row c.args.pivot c.loop-source.count c.loop-source.done n c.loop-source.left c.left_of-left.result (length w.row_heads.items) (head_at w.row_heads.items) a w.woven.apart inside w.woven.rows l);
      within = omega arith;
    }

pub returns : goal.returns
returns c =
    let w = c.args.self.now in
    let a : IsCounting w.nodes.items c.args.row c.args.pivot c.loop-source.count c.loop-source.done None c.loop-source.left = rw c.in_default.is at c.loop-source.invariant.counting in
    counting_end w.nodes.items c.args.row c.args.pivot c.loop-source.count c.loop-source.done (length w.col_heads.items) c.loop-source.left a c.loop-source.invariant.within

pub overflow_add-count : goal.overflow_add-count
overflow_add-count c =
    let w = c.args.self.now in
    let n = c.in-Some.node in
    let a : IsCounting w.nodes.items c.args.row c.args.pivot c.loop-source.count c.loop-source.done (Some n) c.loop-source.left = rw c.in-Some.is at c.loop-source.invariant.counting in
    let in_table = (w.woven.within n a.next.0.live).1 in
    let le = a.next.0.index in
    let m = row_gaps-most w.nodes.items c.args.row c.args.pivot c.loop-source.done in
    let q = a.counted in
    let u = unit_most (is_zero (entry_at w.nodes.items c.args.row c.col-at.result)) c.gap_at-count.result c.gap_at-count.ensures in
    omega (arith, w.col_heads.ok.0)
