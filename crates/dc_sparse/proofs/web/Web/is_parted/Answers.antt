use Rattle.std.proofs.Common.{◌≡◌, ◌∙◌, length, arith, Some, None, sym, subst, refl}
use Rattle.dc_math.specs.Rational.{ℚ}
use Rattle.dc_frac.specs.Value.{value}
use Rattle.dc_sparse.specs.Lines.{IsFirst}
use Rattle.dc_sparse.specs.Nodes.{by_rows, col_at, right_at, head_at}
use Rattle.dc_sparse.specs.Entries.{entry_at}
use Rattle.dc_sparse.specs.Scales.{IsWhole, IsPart}
use Rattle.dc_sparse.proofs.SingleWrites.{item_live, item-read}
use Rattle.dc_sparse.proofs.Links.{col-read, right-read, next_first}
use Rattle.dc_sparse.proofs.Entries.{entry-node}
use Rattle.dc_sparse.proofs.RowWalks.{each_node, each_end}
use Rattle.dc_sparse.proofs.Wholes.{part_zero}
use Rattle.dc_sparse.proofs.web.Web.is_parted.Goals as goal

pub index-requires : goal.index-requires
index-requires c =
    let w = c.args.self.now in
    let n = c.in-Some.node in
    let f : IsFirst (by_rows w.nodes.items) c.args.row c.loop-next.done (Some n) = rw c.in-Some.is at c.loop-next.invariant.first in
    let inside = item_live w.nodes.items n f.0.live in
    let in_table = (w.woven.within n f.0.live).1 in
    omega (arith, w.nodes.ok.0)

pub index-requires-in-Some : goal.index-requires-in-Some
index-requires-in-Some c =
    let w = c.args.self.now in
    let n = c.in-Some.node in
    let f : IsFirst (by_rows w.nodes.items) c.args.row c.loop-next.done (Some n) = rw c.in-Some.is at c.loop-next.invariant.first in
    let inside = item_live w.nodes.items n f.0.live in
    let in_table = (w.woven.within n f.0.live).1 in
    omega (arith, w.nodes.ok.0)

pub index-requires-in-Some-2 : goal.index-requires-in-Some-2
index-requires-in-Some-2 c =
    let w = c.args.self.now in
    let n = c.in-Some.node in
    let f : IsFirst (by_rows w.nodes.items) c.args.row c.loop-next.done (Some n) = rw c.in-Some.is at c.loop-next.invariant.first in
    let inside = item_live w.nodes.items n f.0.live in
    let in_table = (w.woven.within n f.0.live).1 in
    omega (arith, w.nodes.ok.0)

pub overflow_add-done : goal.overflow_add-done
overflow_add-done c =
    let w = c.args.self.now in
    let n = c.in-Some.node in
    let f : IsFirst (by_rows w.nodes.items) c.args.row c.loop-next.done (Some n) = rw c.in-Some.is at c.loop-next.invariant.first in
    let inside = item_live w.nodes.items n f.0.live in
    let in_table = (w.woven.within n f.0.live).1 in
    let e : c.col-at.result ≡ col_at w.nodes.items n = c.col-at.ensures ∙ col-read w.nodes.items n c.index.result.now inside c.index.ensures in
    omega (arith, w.col_heads.ok.0)

pub loop-next-smaller : goal.loop-next-smaller
loop-next-smaller c =
    let w = c.args.self.now in
    let n = c.in-Some.node in
    let f : IsFirst (by_rows w.nodes.items) c.args.row c.loop-next.done (Some n) = rw c.in-Some.is at c.loop-next.invariant.first in
    let inside = item_live w.nodes.items n f.0.live in
    let in_table = (w.woven.within n f.0.live).1 in
    let e : c.col-at.result ≡ col_at w.nodes.items n = c.col-at.ensures ∙ col-read w.nodes.items n c.index.result.now inside c.index.ensures in
    let le = f.0.index in
    omega arith

pub loop-next-preserved : goal.loop-next-preserved
loop-next-preserved c =
    let w = c.args.self.now in
    let n = c.in-Some.node in
    let f : IsFirst (by_rows w.nodes.items) c.args.row c.loop-next.done (Some n) = rw c.in-Some.is at c.loop-next.invariant.first in
    let inside = item_live w.nodes.items n f.0.live in
    let in_table = (w.woven.within n f.0.live).1 in
    let e : c.col-at.result ≡ col_at w.nodes.items n = c.col-at.ensures ∙ col-read w.nodes.items n c.index.result.now inside c.index.ensures in
    let right : c.right-next.result ≡ right_at w.nodes.items n = c.right-next.ensures.is ∙ right-read w.nodes.items n c.index-in-Some-2.result.now inside c.index-in-Some-2.ensures in
    let ev : value c.index-in-Some.result.now.value ≡ entry_at w.nodes.items c.args.row (col_at w.nodes.items n) =
    item-read w.nodes.items n c.index-in-Some.result.now inside c.index-in-Some.ensures ∙ sym (entry-node w.nodes.items n c.args.row (col_at w.nodes.items n) inside w.woven.apart (record { live = f.0.live; row = f.0.line; col = refl })) in
    let p : IsPart (entry_at w.nodes.items c.args.row (col_at w.nodes.items n)) (value c.args.by) = subst (λ (x : ℚ). IsPart x (value c.args.by)) ev (record {
      fit = c.in-Some-quotient.ensures.0;
      whole = subst (IsWhole 41) c.in-Some-quotient.ensures.1 (c.is_small.ensures c.if-not-is_small.false);
    }) in
    record {
      parts = rw e (each_node (λ x. IsPart x (value c.args.by)) (part_zero (value c.args.by)) w.nodes.items c.args.row c.loop-next.done n f c.loop-next.invariant.parts p);
      first = rw (e, right) (next_first (by_rows w.nodes.items) (length w.row_heads.items) (head_at w.row_heads.items) c.args.row n w.woven.rows (f.0.live, f.0.line));
      within = omega arith;
    }

pub returns : goal.returns
returns c =
    let w = c.args.self.now in
    let f : IsFirst (by_rows w.nodes.items) c.args.row c.loop-next.done None = rw c.in_default.is at c.loop-next.invariant.first in
    λ _. each_end (λ x. IsPart x (value c.args.by)) (part_zero (value c.args.by)) w.nodes.items c.args.row c.loop-next.done f c.loop-next.invariant.parts
