use Rattle.std.proofs.Common.{◌≡◌, ◌+◌, ◌≤◌, ◌∙◌, ◌==◌, ◌||◌, ℕ, true, false, length, arith, Some, None, sym, subst, refl}
use Rattle.dc_math.specs.Rational.{ℚ}
use Rattle.dc_frac.specs.Value.{value}
use Rattle.dc_sparse.specs.Lines.{IsLast, StandsBefore}
use Rattle.dc_sparse.specs.Nodes.{by_rows, col_at, right_at, item, head_at}
use Rattle.dc_sparse.specs.Entries.{entry_at, IsPut, takes}
use Rattle.dc_start.specs.Changes.{step_fits}
use Rattle.dc_sparse.specs.Rows.{reduced_entry}
use Rattle.dc_sparse.proofs.SingleWrites.{item_live, item-read}
use Rattle.dc_sparse.proofs.Links.{col-read, right-read}
use Rattle.dc_sparse.proofs.RowSteps.{IsAlong, reducing_start, along_stands, along_room, along_fails, along_step, along_stop, along_end}
use Rattle.dc_sparse.proofs.web.Web.reduce_row.Goals as goal

pub loop-source-init : goal.loop-source-init
loop-source-init c = record {
  along = record {
    row = reducing_start c.args.self.now.nodes.items c.args.row c.args.pivot c.args.col (value c.args.factor) c.args.self.now.spare;
    next = c.right_of-source.ensures;
    stop = tt;
  };
  arena = refl;
  height = refl;
  width = refl;
  within = omega arith;
}

pub index-requires : goal.index-requires
index-requires c =
    let w = c.loop-source.self in
    let n = c.in-Some.node in
    let a : IsAlong c.args.self.now.nodes.items w.nodes.items c.args.row c.args.pivot c.args.col (value c.args.factor) c.args.self.now.spare w.spare c.loop-source.done (Some n) c.loop-source.left = rw c.in-Some.is at c.loop-source.invariant.along in
    let inside = item_live w.nodes.items n a.next.0.live in
    omega (arith, w.nodes.ok.0)

pub index-requires-in-Some : goal.index-requires-in-Some
index-requires-in-Some c =
    let w = c.loop-source.self in
    let n = c.in-Some.node in
    let a : IsAlong c.args.self.now.nodes.items w.nodes.items c.args.row c.args.pivot c.args.col (value c.args.factor) c.args.self.now.spare w.spare c.loop-source.done (Some n) c.loop-source.left = rw c.in-Some.is at c.loop-source.invariant.along in
    let inside = item_live w.nodes.items n a.next.0.live in
    omega (arith, w.nodes.ok.0)

pub left_of-left-requires-clause-from : goal.left_of-left-requires-clause-from
left_of-left-requires-clause-from c =
    let w = c.loop-source.self in
    let n = c.in-Some.node in
    let a : IsAlong c.args.self.now.nodes.items w.nodes.items c.args.row c.args.pivot c.args.col (value c.args.factor) c.args.self.now.spare w.spare c.loop-source.done (Some n) c.loop-source.left = rw c.in-Some.is at c.loop-source.invariant.along in
    let inside = item_live w.nodes.items n a.next.0.live in
    let e : c.col-at.result ≡ col_at w.nodes.items n = c.col-at.ensures ∙ col-read w.nodes.items n c.index.result.now inside c.index.ensures in
    subst (λ k. StandsBefore (by_rows w.nodes.items) c.args.row k c.loop-source.left) (sym e) (along_stop c.args.self.now.nodes.items w.nodes.items c.args.row c.args.pivot c.args.col (value c.args.factor) c.args.self.now.spare w.spare c.loop-source.done n c.loop-source.left a c.requires.other c.requires.entry w.woven.apart inside)

pub put-requires-clause-col : goal.put-requires-clause-col
put-requires-clause-col c =
    let w = c.loop-source.self in
    let n = c.in-Some.node in
    let a : IsAlong c.args.self.now.nodes.items w.nodes.items c.args.row c.args.pivot c.args.col (value c.args.factor) c.args.self.now.spare w.spare c.loop-source.done (Some n) c.loop-source.left = rw c.in-Some.is at c.loop-source.invariant.along in
    let inside = item_live w.nodes.items n a.next.0.live in
    let e : c.col-at.result ≡ col_at w.nodes.items n = c.col-at.ensures ∙ col-read w.nodes.items n c.index.result.now inside c.index.ensures in
    let width = c.loop-source.invariant.width in
    let in_table = (w.woven.within n a.next.0.live).1 in
    omega arith

pub put-requires-clause-spare : goal.put-requires-clause-spare
put-requires-clause-spare c =
    let w = c.loop-source.self in
    let n = c.in-Some.node in
    let a : IsAlong c.args.self.now.nodes.items w.nodes.items c.args.row c.args.pivot c.args.col (value c.args.factor) c.args.self.now.spare w.spare c.loop-source.done (Some n) c.loop-source.left = rw c.in-Some.is at c.loop-source.invariant.along in
    let inside = item_live w.nodes.items n a.next.0.live in
    let e : c.col-at.result ≡ col_at w.nodes.items n = c.col-at.ensures ∙ col-read w.nodes.items n c.index.result.now inside c.index.ensures in
    let width = c.loop-source.invariant.width in
    let in_table = (w.woven.within n a.next.0.live).1 in
    subst (λ k. takes (entry_at w.nodes.items c.args.row k) (value c.in-Some-entry_after.entry) ≤ w.spare) (sym e)
    (along_room c.args.self.now.nodes.items w.nodes.items c.args.row c.args.pivot c.args.col (value c.args.factor) c.args.self.now.spare w.spare c.loop-source.done n c.loop-source.left a c.requires.other c.requires.entry w.woven.apart inside (length c.args.self.now.col_heads.items) (value c.in-Some-entry_after.entry) (omega arith) c.requires.spare)

pub returns-in-None-clause-fits : goal.returns-in-None-clause-fits
returns-in-None-clause-fits c =
    let w = c.loop-source.self in
    let n = c.in-Some.node in
    let a : IsAlong c.args.self.now.nodes.items w.nodes.items c.args.row c.args.pivot c.args.col (value c.args.factor) c.args.self.now.spare w.spare c.loop-source.done (Some n) c.loop-source.left = rw c.in-Some.is at c.loop-source.invariant.along in
    let inside = item_live w.nodes.items n a.next.0.live in
    let e : c.col-at.result ≡ col_at w.nodes.items n = c.col-at.ensures ∙ col-read w.nodes.items n c.index.result.now inside c.index.ensures in
    let by : value c.index-in-Some.result.now.value ≡ item w.nodes.items n = item-read w.nodes.items n c.index-in-Some.result.now inside c.index-in-Some.ensures in
    let width = c.loop-source.invariant.width in
    let in_table = (w.woven.within n a.next.0.live).1 in
    let f : (c.col-at.result == c.args.col || step_fits (value c.args.factor) (value c.index-in-Some.result.now.value) (entry_at w.nodes.items c.args.row c.col-at.result)) ≡ false = c.in-None.ensures in
    let g : (col_at w.nodes.items n == c.args.col || step_fits (value c.args.factor) (item w.nodes.items n) (entry_at w.nodes.items c.args.row (col_at w.nodes.items n))) ≡ false =
    subst (λ (x : ℚ). (col_at w.nodes.items n == c.args.col || step_fits (value c.args.factor) x (entry_at w.nodes.items c.args.row (col_at w.nodes.items n))) ≡ false) by
    (subst (λ (k : ℕ). (k == c.args.col || step_fits (value c.args.factor) (value c.index-in-Some.result.now.value) (entry_at w.nodes.items c.args.row k)) ≡ false) e f) in
    sym (along_fails c.args.self.now.nodes.items w.nodes.items c.args.row c.args.pivot c.args.col (value c.args.factor) c.args.self.now.spare w.spare c.loop-source.done n c.loop-source.left a c.requires.other c.requires.entry w.woven.apart inside (length c.args.self.now.col_heads.items) (omega arith) g)

pub overflow_add-done : goal.overflow_add-done
overflow_add-done c =
    let w = c.loop-source.self in
    let n = c.in-Some.node in
    let a : IsAlong c.args.self.now.nodes.items w.nodes.items c.args.row c.args.pivot c.args.col (value c.args.factor) c.args.self.now.spare w.spare c.loop-source.done (Some n) c.loop-source.left = rw c.in-Some.is at c.loop-source.invariant.along in
    let inside = item_live w.nodes.items n a.next.0.live in
    let e : c.col-at.result ≡ col_at w.nodes.items n = c.col-at.ensures ∙ col-read w.nodes.items n c.index.result.now inside c.index.ensures in
    let width = c.loop-source.invariant.width in
    let in_table = (w.woven.within n a.next.0.live).1 in
    omega (arith, w.col_heads.ok.0)

pub index-requires-in-Some-2 : goal.index-requires-in-Some-2
index-requires-in-Some-2 c =
    let w = c.loop-source.self in
    let n = c.in-Some.node in
    let a : IsAlong c.args.self.now.nodes.items w.nodes.items c.args.row c.args.pivot c.args.col (value c.args.factor) c.args.self.now.spare w.spare c.loop-source.done (Some n) c.loop-source.left = rw c.in-Some.is at c.loop-source.invariant.along in
    let inside = item_live w.nodes.items n a.next.0.live in
    let e : c.col-at.result ≡ col_at w.nodes.items n = c.col-at.ensures ∙ col-read w.nodes.items n c.index.result.now inside c.index.ensures in
    let p : IsPut w.nodes.items c.put.new.self.nodes.items c.args.row (col_at w.nodes.items n) (value c.in-Some-entry_after.entry) = subst (λ k. IsPut w.nodes.items c.put.new.self.nodes.items c.args.row k (value c.in-Some-entry_after.entry)) e c.put.ensures.entry in
    let s = p.stays n c.args.pivot (col_at w.nodes.items n) (λ z _. c.requires.other z) (along_stands c.args.self.now.nodes.items w.nodes.items c.args.row c.args.pivot c.args.col (value c.args.factor) c.args.self.now.spare w.spare c.loop-source.done n c.loop-source.left a c.requires.other c.requires.entry) in
    let l = item_live c.put.new.self.nodes.items n s.live in
    omega (arith, c.put.new.self.nodes.ok.0)

pub loop-source-smaller : goal.loop-source-smaller
loop-source-smaller c =
    let w = c.loop-source.self in
    let n = c.in-Some.node in
    let a : IsAlong c.args.self.now.nodes.items w.nodes.items c.args.row c.args.pivot c.args.col (value c.args.factor) c.args.self.now.spare w.spare c.loop-source.done (Some n) c.loop-source.left = rw c.in-Some.is at c.loop-source.invariant.along in
    let inside = item_live w.nodes.items n a.next.0.live in
    let e : c.col-at.result ≡ col_at w.nodes.items n = c.col-at.ensures ∙ col-read w.nodes.items n c.index.result.now inside c.index.ensures in
    let width = c.loop-source.invariant.width in
    let in_table = (w.woven.within n a.next.0.live).1 in
    let le = a.next.0.index in
    omega arith

pub loop-source-preserved : goal.loop-source-preserved
loop-source-preserved c =
    let w = c.loop-source.self in
    let n = c.in-Some.node in
    let a : IsAlong c.args.self.now.nodes.items w.nodes.items c.args.row c.args.pivot c.args.col (value c.args.factor) c.args.self.now.spare w.spare c.loop-source.done (Some n) c.loop-source.left = rw c.in-Some.is at c.loop-source.invariant.along in
    let inside = item_live w.nodes.items n a.next.0.live in
    let e : c.col-at.result ≡ col_at w.nodes.items n = c.col-at.ensures ∙ col-read w.nodes.items n c.index.result.now inside c.index.ensures in
    let by : value c.index-in-Some.result.now.value ≡ item w.nodes.items n = item-read w.nodes.items n c.index-in-Some.result.now inside c.index-in-Some.ensures in
    let width = c.loop-source.invariant.width in
    let in_table = (w.woven.within n a.next.0.live).1 in
    let v = value c.in-Some-entry_after.entry in
    let newer = c.put.new.self in
    let p : IsPut w.nodes.items newer.nodes.items c.args.row (col_at w.nodes.items n) v = subst (λ k. IsPut w.nodes.items newer.nodes.items c.args.row k v) e c.put.ensures.entry in
    let q : w.spare ≤ newer.spare + takes (entry_at w.nodes.items c.args.row (col_at w.nodes.items n)) v = subst (λ k. w.spare ≤ newer.spare + takes (entry_at w.nodes.items c.args.row k) v) e (let b = c.put.ensures.spare in omega arith) in
    let l : IsLast (by_rows w.nodes.items) c.args.row (col_at w.nodes.items n) c.left_of-left.result = subst (λ k. IsLast (by_rows w.nodes.items) c.args.row k c.left_of-left.result) e c.left_of-left.ensures in
    let f : (c.col-at.result == c.args.col || step_fits (value c.args.factor) (value c.index-in-Some.result.now.value) (entry_at w.nodes.items c.args.row c.col-at.result)) ≡ true = c.in-Some-entry_after.ensures.0 in
    let g : (col_at w.nodes.items n == c.args.col || step_fits (value c.args.factor) (item w.nodes.items n) (entry_at w.nodes.items c.args.row (col_at w.nodes.items n))) ≡ true =
    subst (λ (x : ℚ). (col_at w.nodes.items n == c.args.col || step_fits (value c.args.factor) x (entry_at w.nodes.items c.args.row (col_at w.nodes.items n))) ≡ true) by
    (subst (λ (k : ℕ). (k == c.args.col || step_fits (value c.args.factor) (value c.index-in-Some.result.now.value) (entry_at w.nodes.items c.args.row k)) ≡ true) e f) in
    let r : v ≡ reduced_entry (col_at w.nodes.items n) c.args.col (value c.args.factor) (item w.nodes.items n) (entry_at w.nodes.items c.args.row (col_at w.nodes.items n)) =
    subst (λ (x : ℚ). v ≡ reduced_entry (col_at w.nodes.items n) c.args.col (value c.args.factor) x (entry_at w.nodes.items c.args.row (col_at w.nodes.items n))) by
    (subst (λ (k : ℕ). v ≡ reduced_entry k c.args.col (value c.args.factor) (value c.index-in-Some.result.now.value) (entry_at w.nodes.items c.args.row k)) e c.in-Some-entry_after.ensures.1) in
    let s = along_step c.args.self.now.nodes.items w.nodes.items c.args.row c.args.pivot c.args.col (value c.args.factor) c.args.self.now.spare w.spare c.loop-source.done n c.loop-source.left a c.requires.other c.requires.entry w.woven.apart inside newer.nodes.items newer.spare v c.left_of-left.result (length newer.row_heads.items) (head_at newer.row_heads.items) g r p q l newer.woven.rows in
    let t = p.stays n c.args.pivot (col_at w.nodes.items n) (λ z _. c.requires.other z) (along_stands c.args.self.now.nodes.items w.nodes.items c.args.row c.args.pivot c.args.col (value c.args.factor) c.args.self.now.spare w.spare c.loop-source.done n c.loop-source.left a c.requires.other c.requires.entry) in
    let right : c.right-source.result ≡ right_at newer.nodes.items n = c.right-source.ensures.is ∙ right-read newer.nodes.items n c.index-in-Some-2.result.now (item_live newer.nodes.items n t.live) c.index-in-Some-2.ensures in
    record {
      along = rw (e, right) s;
      arena = c.put.ensures.arena ∙ c.loop-source.invariant.arena;
      height = c.put.ensures.height ∙ c.loop-source.invariant.height;
      width = c.put.ensures.width ∙ c.loop-source.invariant.width;
      within = omega arith;
    }

pub returns-clause-fits : goal.returns-clause-fits
returns-clause-fits c =
    let w = c.loop-source.self in
    let a : IsAlong c.args.self.now.nodes.items w.nodes.items c.args.row c.args.pivot c.args.col (value c.args.factor) c.args.self.now.spare w.spare c.loop-source.done None c.loop-source.left = rw c.in_default.is at c.loop-source.invariant.along in
    let r = along_end c.args.self.now.nodes.items w.nodes.items c.args.row c.args.pivot c.args.col (value c.args.factor) c.args.self.now.spare w.spare c.loop-source.done (length c.args.self.now.col_heads.items) c.loop-source.left a c.requires.other c.requires.entry c.loop-source.invariant.within in
    sym r.fit

pub returns-clause-reduced : goal.returns-clause-reduced
returns-clause-reduced c =
    let w = c.loop-source.self in
    let a : IsAlong c.args.self.now.nodes.items w.nodes.items c.args.row c.args.pivot c.args.col (value c.args.factor) c.args.self.now.spare w.spare c.loop-source.done None c.loop-source.left = rw c.in_default.is at c.loop-source.invariant.along in
    let r = along_end c.args.self.now.nodes.items w.nodes.items c.args.row c.args.pivot c.args.col (value c.args.factor) c.args.self.now.spare w.spare c.loop-source.done (length c.args.self.now.col_heads.items) c.loop-source.left a c.requires.other c.requires.entry c.loop-source.invariant.within in
    λ _. r.reduced

pub returns-clause-spare : goal.returns-clause-spare
returns-clause-spare c =
    let w = c.loop-source.self in
    let a : IsAlong c.args.self.now.nodes.items w.nodes.items c.args.row c.args.pivot c.args.col (value c.args.factor) c.args.self.now.spare w.spare c.loop-source.done None c.loop-source.left = rw c.in_default.is at c.loop-source.invariant.along in
    let r = along_end c.args.self.now.nodes.items w.nodes.items c.args.row c.args.pivot c.args.col (value c.args.factor) c.args.self.now.spare w.spare c.loop-source.done (length c.args.self.now.col_heads.items) c.loop-source.left a c.requires.other c.requires.entry c.loop-source.invariant.within in
    λ _. r.spare
