use Rattle.std.proofs.Common.{◌≡◌, ◌∙◌, ◌+◌, ◌<◌, true, length, arith, Some, None, Ok, sym, ap}
use Rattle.dc_math.specs.Rational.{ℚ}
use Rattle.dc_math.specs.Tests.{is_positive}
use Rattle.dc_math.specs.Inverse.{◌/ℚ◌}
use Rattle.dc_frac.specs.Fits.{quotient_fits}
use Rattle.dc_frac.specs.Value.{value}
use Rattle.dc_start.specs.Ratios.{row_of, better, IsBetter}
use Rattle.dc_start.proofs.Ratios.{best-start, candidates-within}
use Rattle.dc_sparse.specs.Nodes.{row_at, down_at, item, head_at, by_columns}
use Rattle.dc_sparse.specs.Lines.{IsFirst}
use Rattle.dc_sparse.specs.Entries.{entry_at}
use Rattle.dc_sparse.proofs.SingleWrites.{item_live, item-read}
use Rattle.dc_sparse.proofs.Links.{row-read, down-read, next_first, stands_later, last_later}
use Rattle.dc_sparse.proofs.RatioSteps.{stored, stored_ratios, seek_ends, seek_skip, seek_past, seek_candidate, seek_more}
use Rattle.dc_sparse.proofs.web.Web.ratio_row.Goals as goal
use Rattle.dc_sparse.proofs.web.Web.ratio_row.Goals.{then-is_positive+in-Some-div, else-is_positive}

pub loop-next-init : goal.loop-next-init
loop-next-init c = record {
  best = λ t h. best-start t c.args.col;
  next = c.down_of-next.ensures;
  stop = tt;
  within = omega arith;
}

pub index-requires : goal.index-requires
index-requires c =
    let w = c.args.self.now in
    let n = c.in-Some.node in
    let f : IsFirst (by_columns w.nodes.items) c.args.col c.loop-next.done (Some n) = rw c.in-Some.is at c.loop-next.invariant.next in
    let inside = item_live w.nodes.items n f.0.live in
    omega (arith, w.nodes.ok.0)

pub index-requires-in-Some : goal.index-requires-in-Some
index-requires-in-Some c =
    let w = c.args.self.now in
    let n = c.in-Some.node in
    let f : IsFirst (by_columns w.nodes.items) c.args.col c.loop-next.done (Some n) = rw c.in-Some.is at c.loop-next.invariant.next in
    let inside = item_live w.nodes.items n f.0.live in
    omega (arith, w.nodes.ok.0)

pub index-requires-in-Some-2 : goal.index-requires-in-Some-2
index-requires-in-Some-2 c =
    let w = c.args.self.now in
    let n = c.in-Some.node in
    let f : IsFirst (by_columns w.nodes.items) c.args.col c.loop-next.done (Some n) = rw c.in-Some.is at c.loop-next.invariant.next in
    let inside = item_live w.nodes.items n f.0.live in
    omega (arith, w.nodes.ok.0)

pub returns-then-row-basis : goal.returns-then-row-basis
returns-then-row-basis c t h =
    let w = c.args.self.now in
    let n = c.in-Some.node in
    let f : IsFirst (by_columns w.nodes.items) c.args.col c.loop-next.done (Some n) = rw c.in-Some.is at c.loop-next.invariant.next in
    let inside = item_live w.nodes.items n f.0.live in
    let e : c.row-row.result ≡ row_at w.nodes.items n = c.row-row.ensures ∙ row-read w.nodes.items n c.index.result.now inside c.index.ensures in
    ap (λ o. Ok o) c.row_of.ensures
    ∙ seek_ends t c.args.columns c.args.basis.now w.nodes.items c.args.col h c.loop-next.done c.loop-next.best (Some n) (c.loop-next.invariant.best t h) f c.loop-next.invariant.within
    (λ m q. (let same : row_at w.nodes.items n ≡ row_at w.nodes.items m = cc in let l = c.if-row-basis.true in omega arith))

pub above_of-above-requires-clause-from : goal.above_of-above-requires-clause-from
above_of-above-requires-clause-from c =
    let w = c.args.self.now in
    let n = c.in-Some.node in
    let f : IsFirst (by_columns w.nodes.items) c.args.col c.loop-next.done (Some n) = rw c.in-Some.is at c.loop-next.invariant.next in
    let inside = item_live w.nodes.items n f.0.live in
    let e : c.row-row.result ≡ row_at w.nodes.items n = c.row-row.ensures ∙ row-read w.nodes.items n c.index.result.now inside c.index.ensures in
    let le = f.0.index in
    stands_later (by_columns w.nodes.items) (c.args.columns + length c.args.basis.now) c.loop-next.done c.row-row.result c.loop-next.above (omega arith) c.loop-next.invariant.stop

pub returns-in_default-div : goal.returns-in_default-div
returns-in_default-div c t h =
    let w = c.args.self.now in
    let n = c.in-Some.node in
    let f : IsFirst (by_columns w.nodes.items) c.args.col c.loop-next.done (Some n) = rw c.in-Some.is at c.loop-next.invariant.next in
    let inside = item_live w.nodes.items n f.0.live in
    let e : c.row-row.result ≡ row_at w.nodes.items n = c.row-row.ensures ∙ row-read w.nodes.items n c.index.result.now inside c.index.ensures in
    let v : value c.index-in-Some.result.now.value ≡ item w.nodes.items n = item-read w.nodes.items n c.index-in-Some.result.now inside c.index-in-Some.ensures in
    let lower : row_at w.nodes.items n < length c.args.basis.now = (let l = c.if-row-basis.false in omega arith) in
    let k = c.args.columns + length c.args.basis.now in
    let x : ℚ = value c.entry_below.result in
    seek_past t c.args.columns c.args.basis.now w.nodes.items c.args.col h c.loop-next.done n c.loop-next.best (c.loop-next.invariant.best t h) f inside w.woven.apart lower x (c.entry_below.ensures ∙ ap (λ i. entry_at w.nodes.items i k) e)
    (ap is_positive (sym v) ∙ sym c.is_positive.ensures ∙ c.if-is_positive.true)
    (ap (quotient_fits x) (sym v) ∙ c.in_default-div.ensures)

pub better-requires-clause-best : goal.better-requires-clause-best
better-requires-clause-best c =
    let w = c.args.self.now in
    let t = stored (length w.row_heads.items) (length w.col_heads.items) c.args.columns c.args.basis.now w.nodes.items in
    let h = stored_ratios (length w.row_heads.items) (length w.col_heads.items) c.args.columns c.args.basis.now w.nodes.items c.requires.shape.height_is c.requires.shape.width_is c.args.col c.requires.col in
    candidates-within t c.args.col c.loop-next.best (c.loop-next.invariant.best t h).candidates

pub loop-next-smaller : goal.loop-next-smaller
loop-next-smaller c =
    let w = c.args.self.now in
    let n = c.in-Some.node in
    let f : IsFirst (by_columns w.nodes.items) c.args.col c.loop-next.done (Some n) = rw c.in-Some.is at c.loop-next.invariant.next in
    let inside = item_live w.nodes.items n f.0.live in
    let e : c.row-row.result ≡ row_at w.nodes.items n = c.row-row.ensures ∙ row-read w.nodes.items n c.index.result.now inside c.index.ensures in
    let le = f.0.index in
    let l = c.if-row-basis.false in
    omega arith

pub loop-next-preserved : goal.loop-next-preserved
loop-next-preserved c =
    let w = c.args.self.now in
    let n = c.in-Some.node in
    let f : IsFirst (by_columns w.nodes.items) c.args.col c.loop-next.done (Some n) = rw c.in-Some.is at c.loop-next.invariant.next in
    let inside = item_live w.nodes.items n f.0.live in
    let e : c.row-row.result ≡ row_at w.nodes.items n = c.row-row.ensures ∙ row-read w.nodes.items n c.index.result.now inside c.index.ensures in
    let v : value c.index-in-Some.result.now.value ≡ item w.nodes.items n = item-read w.nodes.items n c.index-in-Some.result.now inside c.index-in-Some.ensures in
    let lower : row_at w.nodes.items n < length c.args.basis.now = (let l = c.if-row-basis.false in omega arith) in
    let k = c.args.columns + length c.args.basis.now in
    let down : c.down-next.result ≡ down_at w.nodes.items n = c.down-next.ensures.is ∙ down-read w.nodes.items n c.index-in-Some-2.result.now inside c.index-in-Some-2.ensures in
    record {
      best = λ t h. elim c.if-is_positive.branch [
        | then-is_positive+in-Some-div u ↦
            let x : ℚ = value u.entry_below.result in
            let r : x ≡ entry_at w.nodes.items (row_at w.nodes.items n) k = u.entry_below.ensures ∙ ap (λ i. entry_at w.nodes.items i k) e in
            let positive : is_positive (item w.nodes.items n) ≡ true = ap is_positive (sym v) ∙ sym c.is_positive.ensures ∙ u.if-is_positive.true in
            let fits : quotient_fits x (item w.nodes.items n) ≡ true = ap (quotient_fits x) (sym v) ∙ u.in-Some-div.ensures.0 in
            let here = seek_candidate t c.args.columns c.args.basis.now w.nodes.items c.args.col h c.loop-next.done n c.loop-next.best (c.loop-next.invariant.best t h) f inside w.woven.apart lower x r positive (record { row = c.row-row.result; ratio = u.in-Some-div.ratio }) e (u.in-Some-div.ensures.1 ∙ ap (λ y. x /ℚ y) v) in
            let b : IsBetter t c.args.col (record { row = c.row-row.result; ratio = u.in-Some-div.ratio }) c.loop-next.best u.better.result = u.better.ensures t c.args.col h.basic here (c.loop-next.invariant.best t h).candidates in
            rw (u.best-is, e) (seek_more t c.args.columns c.args.basis.now w.nodes.items c.args.col h c.loop-next.done n c.loop-next.best (c.loop-next.invariant.best t h) f inside w.woven.apart lower x r positive u.better.result fits b.candidate (b.row ∙ ap (λ i. better t c.args.col i (row_of c.loop-next.best)) e))
        | else-is_positive u ↦ rw (u.best-is, e) (seek_skip t c.args.columns c.args.basis.now w.nodes.items c.args.col h c.loop-next.done n c.loop-next.best (c.loop-next.invariant.best t h) f inside w.woven.apart lower (ap is_positive (sym v) ∙ sym c.is_positive.ensures ∙ u.if-is_positive.false))
      ];
      next = rw (e, down) (next_first (by_columns w.nodes.items) (length w.col_heads.items) (head_at w.col_heads.items) c.args.col n w.woven.columns (f.0.live, f.0.line));
      stop = last_later (by_columns w.nodes.items) k c.row-row.result c.above_of-above.result c.above_of-above.ensures;
      within = omega arith;
    }

pub returns : goal.returns
returns c t h =
    let w = c.args.self.now in
    let f : IsFirst (by_columns w.nodes.items) c.args.col c.loop-next.done None = rw c.in_default.is at c.loop-next.invariant.next in
    ap (λ o. Ok o) c.row_of-2.ensures
    ∙ seek_ends t c.args.columns c.args.basis.now w.nodes.items c.args.col h c.loop-next.done c.loop-next.best None (c.loop-next.invariant.best t h) f c.loop-next.invariant.within (λ m q. absurd (let r : ⊥ = cc in r))
