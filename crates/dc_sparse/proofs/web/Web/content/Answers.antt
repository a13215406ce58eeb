use Rattle.std.proofs.Common.{rules, ◌≡◌, ◌∙◌, length, arith, Some, SFits, ap}
use Rattle.std.proofs.lemmas.Int.{to_z-of_z}
use mir.Syntax.{w128}
use Rattle.dc_math.specs.Tests.{is_zero}
use Rattle.dc_sparse.specs.Lines.{IsFirst}
use Rattle.dc_sparse.specs.Nodes.{by_rows, col_at, right_at, head_at}
use Rattle.dc_sparse.proofs.SingleWrites.{item_live}
use Rattle.dc_sparse.proofs.Links.{col-read, right-read, next_first}
use Rattle.dc_sparse.proofs.Wholes.{whole_nonzero, neg_nonzero}
use Rattle.dc_sparse.proofs.web.Web.content.Goals as goal

pub index-requires : goal.index-requires
index-requires c =
    let w = c.args.self.now in
    let n = c.in-Some.node in
    let f : IsFirst (by_rows w.nodes.items) c.args.row c.loop-next.done (Some n) = rw c.in-Some.is at c.loop-next.invariant.first in
    let inside = item_live w.nodes.items n f.0.live in
    let in_table = (w.woven.within n f.0.live).1 in
    omega (arith, w.nodes.ok.0)

pub index-requires-in-Some : goal.index-requires-in-Some
index-requires-in-Some c =
    let w = c.args.self.now in
    let n = c.in-Some.node in
    let f : IsFirst (by_rows w.nodes.items) c.args.row c.loop-next.done (Some n) = rw c.in-Some.is at c.loop-next.invariant.first in
    let inside = item_live w.nodes.items n f.0.live in
    let in_table = (w.woven.within n f.0.live).1 in
    omega (arith, w.nodes.ok.0)

pub index-requires-in-Some-2 : goal.index-requires-in-Some-2
index-requires-in-Some-2 c =
    let w = c.args.self.now in
    let n = c.in-Some.node in
    let f : IsFirst (by_rows w.nodes.items) c.args.row c.loop-next.done (Some n) = rw c.in-Some.is at c.loop-next.invariant.first in
    let inside = item_live w.nodes.items n f.0.live in
    let in_table = (w.woven.within n f.0.live).1 in
    omega (arith, w.nodes.ok.0)

pub overflow_add-done : goal.overflow_add-done
overflow_add-done c =
    let w = c.args.self.now in
    let n = c.in-Some.node in
    let f : IsFirst (by_rows w.nodes.items) c.args.row c.loop-next.done (Some n) = rw c.in-Some.is at c.loop-next.invariant.first in
    let inside = item_live w.nodes.items n f.0.live in
    let in_table = (w.woven.within n f.0.live).1 in
    let e : c.col-at.result ≡ col_at w.nodes.items n = c.col-at.ensures ∙ col-read w.nodes.items n c.index.result.now inside c.index.ensures in
    omega (arith, w.col_heads.ok.0)

pub loop-next-smaller : goal.loop-next-smaller
loop-next-smaller c =
    let w = c.args.self.now in
    let n = c.in-Some.node in
    let f : IsFirst (by_rows w.nodes.items) c.args.row c.loop-next.done (Some n) = rw c.in-Some.is at c.loop-next.invariant.first in
    let inside = item_live w.nodes.items n f.0.live in
    let in_table = (w.woven.within n f.0.live).1 in
    let e : c.col-at.result ≡ col_at w.nodes.items n = c.col-at.ensures ∙ col-read w.nodes.items n c.index.result.now inside c.index.ensures in
    let le = f.0.index in
    omega arith

pub loop-next-init : goal.loop-next-init
loop-next-init c =
    let f₁ : SFits w128 c.size-shared.result = search rules in
    record { positive = simp to_z-of_z c.size-shared.ensures; first = c.right_of-next.ensures; within = omega arith }

pub loop-next-preserved : goal.loop-next-preserved
loop-next-preserved c =
    let w = c.args.self.now in
    let n = c.in-Some.node in
    let f : IsFirst (by_rows w.nodes.items) c.args.row c.loop-next.done (Some n) = rw c.in-Some.is at c.loop-next.invariant.first in
    let inside = item_live w.nodes.items n f.0.live in
    let in_table = (w.woven.within n f.0.live).1 in
    let e : c.col-at.result ≡ col_at w.nodes.items n = c.col-at.ensures ∙ col-read w.nodes.items n c.index.result.now inside c.index.ensures in
    let right : c.right-next.result ≡ right_at w.nodes.items n = c.right-next.ensures.is ∙ right-read w.nodes.items n c.index-in-Some-2.result.now inside c.index-in-Some-2.ensures in
    let f₁ : SFits w128 c.gcd128-shared.result = search rules in
    record {
      positive = simp to_z-of_z (c.gcd128-shared.ensures.positive c.loop-next.invariant.positive);
      first = rw (e, right) (next_first (by_rows w.nodes.items) (length w.row_heads.items) (head_at w.row_heads.items) c.args.row n w.woven.rows (f.0.live, f.0.line));
      within = omega arith;
    }

pub returns-then-is_negative : goal.returns-then-is_negative
returns-then-is_negative c = ap is_zero c.neg.ensures ∙ neg_nonzero _ (ap is_zero c.whole-share.ensures ∙ whole_nonzero _ c.loop-next.invariant.positive)

pub returns-else-is_negative : goal.returns-else-is_negative
returns-else-is_negative c = ap is_zero c.whole-share.ensures ∙ whole_nonzero _ c.loop-next.invariant.positive
