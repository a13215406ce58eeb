use Rattle.std.proofs.Common.{◌≡◌, ◌∙◌, true, false, length, arith, Some, None, sym, subst, ap, refl}
use Rattle.dc_math.specs.Rational.{ℚ}
use Rattle.dc_math.specs.Tests.{is_zero}
use Rattle.dc_math.specs.Inverse.{◌/ℚ◌}
use Rattle.dc_frac.specs.Fits.{quotient_fits}
use Rattle.dc_frac.specs.Value.{value}
use Rattle.dc_sparse.specs.Nodes.{col_at, right_at, item, head_at}
use Rattle.dc_sparse.specs.Entries.{StandsAt, IsPut}
use Rattle.dc_sparse.proofs.SingleWrites.{item_live, item-read}
use Rattle.dc_sparse.proofs.Links.{col-read, right-read}
use Rattle.dc_sparse.proofs.Quotients.{IsAcross, dividing_start, quotient-nonzero, across_stands, across_nonzero, across_fails, across_step, across_end}
use Rattle.dc_sparse.proofs.web.Web.divide_row.Goals as goal

pub loop-next-init : goal.loop-next-init
loop-next-init c = record {
  across = record { row = dividing_start c.args.self.now.nodes.items c.args.row (value c.args.by); next = c.right_of-next.ensures };
  spare = refl;
  arena = refl;
  height = refl;
  width = refl;
  within = omega arith;
}

pub index-requires : goal.index-requires
index-requires c =
    let w = c.loop-next.self in
    let n = c.in-Some.node in
    let a : IsAcross c.args.self.now.nodes.items w.nodes.items c.args.row (value c.args.by) c.loop-next.done (Some n) = rw c.in-Some.is at c.loop-next.invariant.across in
    let inside = item_live w.nodes.items n a.next.0.live in
    omega (arith, w.nodes.ok.0)

pub index-requires-in-Some : goal.index-requires-in-Some
index-requires-in-Some c =
    let w = c.loop-next.self in
    let n = c.in-Some.node in
    let a : IsAcross c.args.self.now.nodes.items w.nodes.items c.args.row (value c.args.by) c.loop-next.done (Some n) = rw c.in-Some.is at c.loop-next.invariant.across in
    let inside = item_live w.nodes.items n a.next.0.live in
    omega (arith, w.nodes.ok.0)

pub set-requires-clause-node : goal.set-requires-clause-node
set-requires-clause-node c =
    let w = c.loop-next.self in
    let n = c.in-Some.node in
    let a : IsAcross c.args.self.now.nodes.items w.nodes.items c.args.row (value c.args.by) c.loop-next.done (Some n) = rw c.in-Some.is at c.loop-next.invariant.across in
    let inside = item_live w.nodes.items n a.next.0.live in
    a.next.0.live

pub set-requires-clause-nonzero : goal.set-requires-clause-nonzero
set-requires-clause-nonzero c =
    let w = c.loop-next.self in
    let n = c.in-Some.node in
    let a : IsAcross c.args.self.now.nodes.items w.nodes.items c.args.row (value c.args.by) c.loop-next.done (Some n) = rw c.in-Some.is at c.loop-next.invariant.across in
    let inside = item_live w.nodes.items n a.next.0.live in
    let ev : value c.index-in-Some.result.now.value ≡ item w.nodes.items n = item-read w.nodes.items n c.index-in-Some.result.now inside c.index-in-Some.ensures in
    ap is_zero (c.in-Some-quotient.ensures.1 ∙ ap (λ x. x /ℚ value c.args.by) ev) ∙ quotient-nonzero (item w.nodes.items n) (value c.args.by) (across_nonzero c.args.self.now.nodes.items w.nodes.items c.args.row (value c.args.by) c.loop-next.done n a w.woven.apart inside) c.requires.nonzero

pub returns-in-None-clause-fits : goal.returns-in-None-clause-fits
returns-in-None-clause-fits c =
    let w = c.loop-next.self in
    let n = c.in-Some.node in
    let a : IsAcross c.args.self.now.nodes.items w.nodes.items c.args.row (value c.args.by) c.loop-next.done (Some n) = rw c.in-Some.is at c.loop-next.invariant.across in
    let inside = item_live w.nodes.items n a.next.0.live in
    let ev : value c.index-in-Some.result.now.value ≡ item w.nodes.items n = item-read w.nodes.items n c.index-in-Some.result.now inside c.index-in-Some.ensures in
    let width = c.loop-next.invariant.width in
    let in_table = (w.woven.within n a.next.0.live).1 in
    let f : quotient_fits (value c.index-in-Some.result.now.value) (value c.args.by) ≡ false = c.in-None.ensures in
    sym (across_fails c.args.self.now.nodes.items w.nodes.items c.args.row (value c.args.by) c.loop-next.done n a w.woven.apart inside (length c.args.self.now.col_heads.items) (omega arith) (subst (λ (x : ℚ). quotient_fits x (value c.args.by) ≡ false) ev f))

pub overflow_add-done : goal.overflow_add-done
overflow_add-done c =
    let w = c.loop-next.self in
    let n = c.in-Some.node in
    let a : IsAcross c.args.self.now.nodes.items w.nodes.items c.args.row (value c.args.by) c.loop-next.done (Some n) = rw c.in-Some.is at c.loop-next.invariant.across in
    let inside = item_live w.nodes.items n a.next.0.live in
    let e : c.col-at.result ≡ col_at w.nodes.items n = c.col-at.ensures ∙ col-read w.nodes.items n c.index.result.now inside c.index.ensures in
    let width = c.loop-next.invariant.width in
    let in_table = (w.woven.within n a.next.0.live).1 in
    omega (arith, w.col_heads.ok.0)

pub index-requires-in-Some-2 : goal.index-requires-in-Some-2
index-requires-in-Some-2 c =
    let w = c.loop-next.self in
    let n = c.in-Some.node in
    let a : IsAcross c.args.self.now.nodes.items w.nodes.items c.args.row (value c.args.by) c.loop-next.done (Some n) = rw c.in-Some.is at c.loop-next.invariant.across in
    let inside = item_live w.nodes.items n a.next.0.live in
    let t : StandsAt c.set.new.self.nodes.items n c.args.row (col_at w.nodes.items n) = c.set.ensures.stays n c.args.row (col_at w.nodes.items n) (across_stands c.args.self.now.nodes.items w.nodes.items c.args.row (value c.args.by) c.loop-next.done n a w.woven.apart inside) in
    let l = item_live c.set.new.self.nodes.items n t.live in
    omega (arith, c.set.new.self.nodes.ok.0)

pub loop-next-smaller : goal.loop-next-smaller
loop-next-smaller c =
    let w = c.loop-next.self in
    let n = c.in-Some.node in
    let a : IsAcross c.args.self.now.nodes.items w.nodes.items c.args.row (value c.args.by) c.loop-next.done (Some n) = rw c.in-Some.is at c.loop-next.invariant.across in
    let inside = item_live w.nodes.items n a.next.0.live in
    let e : c.col-at.result ≡ col_at w.nodes.items n = c.col-at.ensures ∙ col-read w.nodes.items n c.index.result.now inside c.index.ensures in
    let width = c.loop-next.invariant.width in
    let in_table = (w.woven.within n a.next.0.live).1 in
    let le = a.next.0.index in
    omega arith

pub loop-next-preserved : goal.loop-next-preserved
loop-next-preserved c =
    let w = c.loop-next.self in
    let n = c.in-Some.node in
    let a : IsAcross c.args.self.now.nodes.items w.nodes.items c.args.row (value c.args.by) c.loop-next.done (Some n) = rw c.in-Some.is at c.loop-next.invariant.across in
    let inside = item_live w.nodes.items n a.next.0.live in
    let e : c.col-at.result ≡ col_at w.nodes.items n = c.col-at.ensures ∙ col-read w.nodes.items n c.index.result.now inside c.index.ensures in
    let ev : value c.index-in-Some.result.now.value ≡ item w.nodes.items n = item-read w.nodes.items n c.index-in-Some.result.now inside c.index-in-Some.ensures in
    let width = c.loop-next.invariant.width in
    let in_table = (w.woven.within n a.next.0.live).1 in
    let v = value c.in-Some-quotient.quotient in
    let newer = c.set.new.self in
    let s = across_stands c.args.self.now.nodes.items w.nodes.items c.args.row (value c.args.by) c.loop-next.done n a w.woven.apart inside in
    let t : StandsAt newer.nodes.items n c.args.row (col_at w.nodes.items n) = c.set.ensures.stays n c.args.row (col_at w.nodes.items n) s in
    let p : IsPut w.nodes.items newer.nodes.items c.args.row (col_at w.nodes.items n) v = c.set.ensures.entry c.args.row (col_at w.nodes.items n) s in
    let f : quotient_fits (item w.nodes.items n) (value c.args.by) ≡ true = subst (λ (x : ℚ). quotient_fits x (value c.args.by) ≡ true) ev c.in-Some-quotient.ensures.0 in
    let r : v ≡ item w.nodes.items n /ℚ value c.args.by = c.in-Some-quotient.ensures.1 ∙ ap (λ x. x /ℚ value c.args.by) ev in
    let right : c.right-next.result ≡ right_at newer.nodes.items n = c.right-next.ensures.is ∙ right-read newer.nodes.items n c.index-in-Some-2.result.now (item_live newer.nodes.items n t.live) c.index-in-Some-2.ensures in
    record {
      across = rw (e, right) (across_step c.args.self.now.nodes.items w.nodes.items c.args.row (value c.args.by) c.loop-next.done n a w.woven.apart inside newer.nodes.items v (length newer.row_heads.items) (head_at newer.row_heads.items) f r p c.set.ensures.stays newer.woven.apart newer.woven.rows);
      spare = c.set.ensures.spare ∙ c.loop-next.invariant.spare;
      arena = c.set.ensures.arena ∙ c.loop-next.invariant.arena;
      height = c.set.ensures.height ∙ c.loop-next.invariant.height;
      width = c.set.ensures.width ∙ c.loop-next.invariant.width;
      within = omega arith;
    }

pub returns-clause-fits : goal.returns-clause-fits
returns-clause-fits c =
    let w = c.loop-next.self in
    let a : IsAcross c.args.self.now.nodes.items w.nodes.items c.args.row (value c.args.by) c.loop-next.done None = rw c.in_default.is at c.loop-next.invariant.across in
    let r = across_end c.args.self.now.nodes.items w.nodes.items c.args.row (value c.args.by) c.loop-next.done (length c.args.self.now.col_heads.items) a c.loop-next.invariant.within in
    sym r.fit

pub returns-clause-divided : goal.returns-clause-divided
returns-clause-divided c =
    let w = c.loop-next.self in
    let a : IsAcross c.args.self.now.nodes.items w.nodes.items c.args.row (value c.args.by) c.loop-next.done None = rw c.in_default.is at c.loop-next.invariant.across in
    let r = across_end c.args.self.now.nodes.items w.nodes.items c.args.row (value c.args.by) c.loop-next.done (length c.args.self.now.col_heads.items) a c.loop-next.invariant.within in
    λ _. r.divided

pub returns-in-None-clause-cells : goal.returns-in-None-clause-cells
returns-in-None-clause-cells c = c.loop-next.invariant.across.row.cells

pub returns-clause-cells : goal.returns-clause-cells
returns-clause-cells c = c.loop-next.invariant.across.row.cells
