use Rattle.std.proofs.Common.{◌≡◌, ◌≢◌, ◌≤◌, ◌<◌, ◌+◌, ◌∙◌, ℕ, true, false, length, arith, Some, None, IsTrue, sym, subst, ap, refl}
use Rattle.dc_math.specs.Tests.{is_zero}
use Rattle.dc_sparse.specs.Nodes.{row_at, down_at, head_at}
use Rattle.dc_sparse.specs.Rows.{steps_fit, stepped_at, gaps_in_row}
use Rattle.dc_sparse.specs.Held.{held_at, KeepsHeld}
use Rattle.dc_sparse.specs.Entries.{entry_at}
use Rattle.dc_sparse.proofs.Entries.{entry-node}
use Rattle.dc_sparse.proofs.SingleWrites.{item_live, item-read}
use Rattle.dc_sparse.proofs.Links.{row-read, down-read}
use Rattle.dc_sparse.proofs.HeldSteps.{AreDown, rows_start, down_room, down_fails, down_more, down_pivot, down_end}
use Rattle.dc_sparse.proofs.HeldEntries.{held-zero}
use Rattle.dc_sparse.proofs.scaled.Scaled.reduce_rows.Goals as goal
use Rattle.dc_sparse.proofs.scaled.Scaled.reduce_rows.Goals.{then-row-pivot+else-not-reduce, else-row-pivot}

pub loop-next-init : goal.loop-next-init
loop-next-init c = record {
  down = record { rows = rows_start (held_at c.args.self.now) (length c.args.self.now.web.col_heads.items) c.args.pivot c.args.col c.args.self.now.web.spare; next = c.down_of-next.ensures };
  arena = refl;
  height = refl;
  width = refl;
  within = omega arith;
}

pub index-requires : goal.index-requires
index-requires c =
    let s = c.args.self.now in
    let t = c.loop-next.self in
    let w = t.web in
    let n = c.in-Some.node in
    let wide = c.loop-next.invariant.width in
    let tall = c.loop-next.invariant.height in
    let a : AreDown (held_at s) (held_at t) w.nodes.items (length s.web.col_heads.items) c.args.pivot c.args.col s.web.spare w.spare c.loop-next.done (Some n) = rw c.in-Some.is at c.loop-next.invariant.down in
    let inside = item_live w.nodes.items n a.next.0.live in
    let in_table = (w.woven.within n a.next.0.live).0 in
    omega (arith, w.nodes.ok.0)

pub index-requires-in-Some : goal.index-requires-in-Some
index-requires-in-Some c =
    let s = c.args.self.now in
    let t = c.loop-next.self in
    let w = t.web in
    let n = c.in-Some.node in
    let wide = c.loop-next.invariant.width in
    let tall = c.loop-next.invariant.height in
    let a : AreDown (held_at s) (held_at t) w.nodes.items (length s.web.col_heads.items) c.args.pivot c.args.col s.web.spare w.spare c.loop-next.done (Some n) = rw c.in-Some.is at c.loop-next.invariant.down in
    let inside = item_live w.nodes.items n a.next.0.live in
    let in_table = (w.woven.within n a.next.0.live).0 in
    omega (arith, w.nodes.ok.0)

pub index-requires-in-Some-2 : goal.index-requires-in-Some-2
index-requires-in-Some-2 c =
    let s = c.args.self.now in
    let t = c.loop-next.self in
    let w = t.web in
    let n = c.in-Some.node in
    let wide = c.loop-next.invariant.width in
    let tall = c.loop-next.invariant.height in
    let a : AreDown (held_at s) (held_at t) w.nodes.items (length s.web.col_heads.items) c.args.pivot c.args.col s.web.spare w.spare c.loop-next.done (Some n) = rw c.in-Some.is at c.loop-next.invariant.down in
    let inside = item_live w.nodes.items n a.next.0.live in
    let in_table = (w.woven.within n a.next.0.live).0 in
    omega (arith, w.nodes.ok.0)

pub reduce-requires-clause-row : goal.reduce-requires-clause-row
reduce-requires-clause-row c =
    let s = c.args.self.now in
    let t = c.loop-next.self in
    let w = t.web in
    let n = c.in-Some.node in
    let wide = c.loop-next.invariant.width in
    let tall = c.loop-next.invariant.height in
    let a : AreDown (held_at s) (held_at t) w.nodes.items (length s.web.col_heads.items) c.args.pivot c.args.col s.web.spare w.spare c.loop-next.done (Some n) = rw c.in-Some.is at c.loop-next.invariant.down in
    let inside = item_live w.nodes.items n a.next.0.live in
    let in_table = (w.woven.within n a.next.0.live).0 in
    let e : c.row-row.result ≡ row_at w.nodes.items n = c.row-row.ensures ∙ row-read w.nodes.items n c.index.result.now inside c.index.ensures in
    omega arith

pub reduce-requires-clause-number : goal.reduce-requires-clause-number
reduce-requires-clause-number c =
    let s = c.args.self.now in
    let t = c.loop-next.self in
    let w = t.web in
    let n = c.in-Some.node in
    let wide = c.loop-next.invariant.width in
    let tall = c.loop-next.invariant.height in
    let a : AreDown (held_at s) (held_at t) w.nodes.items (length s.web.col_heads.items) c.args.pivot c.args.col s.web.spare w.spare c.loop-next.done (Some n) = rw c.in-Some.is at c.loop-next.invariant.down in
    let inside = item_live w.nodes.items n a.next.0.live in
    let in_table = (w.woven.within n a.next.0.live).0 in
    let e : c.row-row.result ≡ row_at w.nodes.items n = c.row-row.ensures ∙ row-read w.nodes.items n c.index.result.now inside c.index.ensures in
    item-read w.nodes.items n c.index-in-Some.result.now inside c.index-in-Some.ensures
    ∙ sym (entry-node w.nodes.items n (row_at w.nodes.items n) c.args.col inside w.woven.apart (record { live = a.next.0.live; row = refl; col = a.next.0.line }))
    ∙ ap (λ i. entry_at w.nodes.items i c.args.col) (sym e)

pub reduce-requires-clause-other : goal.reduce-requires-clause-other
reduce-requires-clause-other c = λ z. c.if-row-pivot.true (sym z)

pub reduce-requires-clause-entry : goal.reduce-requires-clause-entry
reduce-requires-clause-entry c =
    let s = c.args.self.now in
    let t = c.loop-next.self in
    let w = t.web in
    let n = c.in-Some.node in
    let wide = c.loop-next.invariant.width in
    let tall = c.loop-next.invariant.height in
    let a : AreDown (held_at s) (held_at t) w.nodes.items (length s.web.col_heads.items) c.args.pivot c.args.col s.web.spare w.spare c.loop-next.done (Some n) = rw c.in-Some.is at c.loop-next.invariant.down in
    let inside = item_live w.nodes.items n a.next.0.live in
    let in_table = (w.woven.within n a.next.0.live).0 in
    ap is_zero (a.rows.pivot_row c.args.col) ∙ c.requires.entry

pub reduce-requires-clause-spare : goal.reduce-requires-clause-spare
reduce-requires-clause-spare c =
    let s = c.args.self.now in
    let t = c.loop-next.self in
    let w = t.web in
    let n = c.in-Some.node in
    let wide = c.loop-next.invariant.width in
    let tall = c.loop-next.invariant.height in
    let a : AreDown (held_at s) (held_at t) w.nodes.items (length s.web.col_heads.items) c.args.pivot c.args.col s.web.spare w.spare c.loop-next.done (Some n) = rw c.in-Some.is at c.loop-next.invariant.down in
    let inside = item_live w.nodes.items n a.next.0.live in
    let in_table = (w.woven.within n a.next.0.live).0 in
    let e : c.row-row.result ≡ row_at w.nodes.items n = c.row-row.ensures ∙ row-read w.nodes.items n c.index.result.now inside c.index.ensures in
    let r : gaps_in_row (held_at t) (row_at w.nodes.items n) c.args.pivot (length s.web.col_heads.items) ≤ w.spare =
    down_room (held_at s) (held_at t) w.nodes.items (λ i k. held-zero t i k) (length s.web.col_heads.items) c.args.pivot c.args.col s.web.spare w.spare c.loop-next.done n a (λ z. c.if-row-pivot.true (e ∙ z)) w.woven.apart inside (length s.web.row_heads.items) (omega arith) c.requires.spare in
    subst (λ k. gaps_in_row (held_at t) k c.args.pivot (length w.col_heads.items) ≤ w.spare) (sym e) (subst (λ k. gaps_in_row (held_at t) (row_at w.nodes.items n) c.args.pivot k ≤ w.spare) (sym wide) r)

pub returns-then-not-reduce-clause-fits : goal.returns-then-not-reduce-clause-fits
returns-then-not-reduce-clause-fits c =
    let s = c.args.self.now in
    let t = c.loop-next.self in
    let w = t.web in
    let n = c.in-Some.node in
    let wide = c.loop-next.invariant.width in
    let tall = c.loop-next.invariant.height in
    let a : AreDown (held_at s) (held_at t) w.nodes.items (length s.web.col_heads.items) c.args.pivot c.args.col s.web.spare w.spare c.loop-next.done (Some n) = rw c.in-Some.is at c.loop-next.invariant.down in
    let inside = item_live w.nodes.items n a.next.0.live in
    let in_table = (w.woven.within n a.next.0.live).0 in
    let e : c.row-row.result ≡ row_at w.nodes.items n = c.row-row.ensures ∙ row-read w.nodes.items n c.index.result.now inside c.index.ensures in
    let f : steps_fit (held_at t) (length w.col_heads.items) c.args.pivot c.args.col c.row-row.result ≡ false = sym c.reduce.ensures.fits ∙ c.if-not-reduce.true in
    let g : steps_fit (held_at t) (length s.web.col_heads.items) c.args.pivot c.args.col (row_at w.nodes.items n) ≡ false =
    subst (λ k. steps_fit (held_at t) k c.args.pivot c.args.col (row_at w.nodes.items n) ≡ false) wide
    (subst (λ k. steps_fit (held_at t) (length w.col_heads.items) c.args.pivot c.args.col k ≡ false) e f) in
    sym (down_fails (held_at s) (held_at t) w.nodes.items (λ i k. held-zero t i k) (length s.web.col_heads.items) c.args.pivot c.args.col s.web.spare w.spare c.loop-next.done n a (λ z. c.if-row-pivot.true (e ∙ z)) w.woven.apart inside (length s.web.row_heads.items) (omega arith) g)

pub overflow_add-done : goal.overflow_add-done
overflow_add-done c =
    let s = c.args.self.now in
    let t = c.loop-next.self in
    let w = t.web in
    let n = c.in-Some.node in
    let wide = c.loop-next.invariant.width in
    let tall = c.loop-next.invariant.height in
    let a : AreDown (held_at s) (held_at t) w.nodes.items (length s.web.col_heads.items) c.args.pivot c.args.col s.web.spare w.spare c.loop-next.done (Some n) = rw c.in-Some.is at c.loop-next.invariant.down in
    let inside = item_live w.nodes.items n a.next.0.live in
    let in_table = (w.woven.within n a.next.0.live).0 in
    let e : c.row-row.result ≡ row_at w.nodes.items n = c.row-row.ensures ∙ row-read w.nodes.items n c.index.result.now inside c.index.ensures in
    omega (arith, w.row_heads.ok.0)

pub loop-next-smaller : goal.loop-next-smaller
loop-next-smaller c =
    let s = c.args.self.now in
    let t = c.loop-next.self in
    let w = t.web in
    let n = c.in-Some.node in
    let wide = c.loop-next.invariant.width in
    let tall = c.loop-next.invariant.height in
    let a : AreDown (held_at s) (held_at t) w.nodes.items (length s.web.col_heads.items) c.args.pivot c.args.col s.web.spare w.spare c.loop-next.done (Some n) = rw c.in-Some.is at c.loop-next.invariant.down in
    let inside = item_live w.nodes.items n a.next.0.live in
    let in_table = (w.woven.within n a.next.0.live).0 in
    let e : c.row-row.result ≡ row_at w.nodes.items n = c.row-row.ensures ∙ row-read w.nodes.items n c.index.result.now inside c.index.ensures in
    let le = a.next.0.index in
    omega arith

pub loop-next-preserved : goal.loop-next-preserved
loop-next-preserved c =
    let s = c.args.self.now in
    let t = c.loop-next.self in
    let w = t.web in
    let n = c.in-Some.node in
    let wide = c.loop-next.invariant.width in
    let tall = c.loop-next.invariant.height in
    let a : AreDown (held_at s) (held_at t) w.nodes.items (length s.web.col_heads.items) c.args.pivot c.args.col s.web.spare w.spare c.loop-next.done (Some n) = rw c.in-Some.is at c.loop-next.invariant.down in
    let inside = item_live w.nodes.items n a.next.0.live in
    let in_table = (w.woven.within n a.next.0.live).0 in
    let e : c.row-row.result ≡ row_at w.nodes.items n = c.row-row.ensures ∙ row-read w.nodes.items n c.index.result.now inside c.index.ensures in
    let ed : c.down-next.result ≡ down_at w.nodes.items n = c.down-next.ensures.is ∙ down-read w.nodes.items n c.index-in-Some-2.result.now inside c.index-in-Some-2.ensures in
    elim c.if-row-pivot.branch [
      | then-row-pivot+else-not-reduce v ↦
          let newer = v.reduce.new.self in
          let yes : IsTrue v.reduce.result = v.if-not-reduce.false in
          let other : row_at w.nodes.items n ≢ c.args.pivot = (λ z. v.if-row-pivot.true (e ∙ z)) in
          let f : steps_fit (held_at t) (length s.web.col_heads.items) c.args.pivot c.args.col (row_at w.nodes.items n) ≡ true =
          subst (λ k. steps_fit (held_at t) k c.args.pivot c.args.col (row_at w.nodes.items n) ≡ true) wide
          (subst (λ k. steps_fit (held_at t) (length w.col_heads.items) c.args.pivot c.args.col k ≡ true) e (sym v.reduce.ensures.fits ∙ yes)) in
          let r : (k : ℕ) → k < length s.web.col_heads.items → held_at newer (row_at w.nodes.items n) k ≡ stepped_at (held_at t) c.args.pivot c.args.col (row_at w.nodes.items n) k =
          subst (λ z. (k : ℕ) → k < z → held_at newer (row_at w.nodes.items n) k ≡ stepped_at (held_at t) c.args.pivot c.args.col (row_at w.nodes.items n) k) wide
          (subst (λ z. (k : ℕ) → k < length w.col_heads.items → held_at newer z k ≡ stepped_at (held_at t) c.args.pivot c.args.col z k) e (v.reduce.ensures.reduced yes)) in
          let k : KeepsHeld t newer (row_at w.nodes.items n) = subst (KeepsHeld t newer) e v.reduce.ensures.others in
          let g : w.spare ≤ newer.web.spare + gaps_in_row (held_at t) (row_at w.nodes.items n) c.args.pivot (length s.web.col_heads.items) =
          subst (λ z. w.spare ≤ newer.web.spare + gaps_in_row (held_at t) (row_at w.nodes.items n) c.args.pivot z) wide
          (subst (λ z. w.spare ≤ newer.web.spare + gaps_in_row (held_at t) z c.args.pivot (length w.col_heads.items)) e (v.reduce.ensures.spare yes)) in
          rw v.self-is (record {
            down = rw (e, ed) (down_more (held_at s) (held_at t) w.nodes.items (λ i k. held-zero t i k) (length s.web.col_heads.items) c.args.pivot c.args.col s.web.spare w.spare c.loop-next.done n a other w.woven.apart inside (held_at newer) newer.web.nodes.items newer.web.spare (length w.col_heads.items) (head_at w.col_heads.items) w.woven.columns f r k.entries k.stays k.stood g);
            arena = v.reduce.ensures.arena ∙ c.loop-next.invariant.arena;
            height = v.reduce.ensures.height ∙ tall;
            width = v.reduce.ensures.width ∙ wide;
            within = omega arith;
          })
      | else-row-pivot v ↦ rw v.self-is (record {
        down = rw (e, ed) (down_pivot (held_at s) (held_at t) w.nodes.items (λ i k. held-zero t i k) (length s.web.col_heads.items) c.args.pivot c.args.col s.web.spare w.spare c.loop-next.done n a (length w.col_heads.items) (head_at w.col_heads.items) w.woven.columns (sym e ∙ v.if-row-pivot.false));
        arena = c.loop-next.invariant.arena;
        height = tall;
        width = wide;
        within = omega arith;
      })
    ]

pub returns-clause-fits : goal.returns-clause-fits
returns-clause-fits c =
    let s = c.args.self.now in
    let t = c.loop-next.self in
    let a : AreDown (held_at s) (held_at t) t.web.nodes.items (length s.web.col_heads.items) c.args.pivot c.args.col s.web.spare t.web.spare c.loop-next.done None = rw c.in_default.is at c.loop-next.invariant.down in
    let r = down_end (held_at s) (held_at t) t.web.nodes.items (λ i k. held-zero t i k) (length s.web.col_heads.items) c.args.pivot c.args.col s.web.spare t.web.spare c.loop-next.done (length s.web.row_heads.items) a c.loop-next.invariant.within in
    sym r.fit

pub returns-clause-reduced : goal.returns-clause-reduced
returns-clause-reduced c =
    let s = c.args.self.now in
    let t = c.loop-next.self in
    let a : AreDown (held_at s) (held_at t) t.web.nodes.items (length s.web.col_heads.items) c.args.pivot c.args.col s.web.spare t.web.spare c.loop-next.done None = rw c.in_default.is at c.loop-next.invariant.down in
    let r = down_end (held_at s) (held_at t) t.web.nodes.items (λ i k. held-zero t i k) (length s.web.col_heads.items) c.args.pivot c.args.col s.web.spare t.web.spare c.loop-next.done (length s.web.row_heads.items) a c.loop-next.invariant.within in
    λ _. r.reduced
