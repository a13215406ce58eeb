use Rattle.std.proofs.Common.{◌≡◌, ◌∙◌, ◌+◌, ◌≤◌, IsTrue, ℕ, SFits, length, arith, Some, None, sym, subst, inl, inr, nat_lt, refl}
use Rattle.std.proofs.lemmas.Int.{to_z-of_z}
use Rattle.std.proofs.lemmas.Bool.{cases_Bool, ltb-true, ltb-false}
use mir.Syntax.{w128}
use Rattle.dc_math.specs.Rational.{ℚ, of_ℤ, ◌*ℚ◌}
use Rattle.dc_frac.specs.Value.{value}
use Rattle.dc_sparse.specs.Lines.{IsLast}
use Rattle.dc_sparse.specs.Nodes.{by_rows, col_at, right_at, item, head_at}
use Rattle.dc_sparse.specs.Entries.{entry_at, IsPut, takes}
use Rattle.dc_sparse.specs.Rows.{reduced_entry, IsMultiplied}
use Rattle.dc_sparse.specs.Scales.{IsWhole}
use Rattle.dc_sparse.proofs.SingleWrites.{item_live, item-read}
use Rattle.dc_sparse.proofs.Links.{col-read, right-read}
use Rattle.dc_sparse.proofs.Scaling.{beyond}
use Rattle.dc_sparse.proofs.Wholes.{whole_zero}
use Rattle.dc_sparse.proofs.Multiples.{AreProducts}
use Rattle.dc_sparse.proofs.Combines.{IsBeside, beside_start, beside_on, beside_small, beside_stands, beside_entry, beside_by, beside_room, beside_step}
use Rattle.dc_sparse.proofs.web.Web.combine_row.Goals as goal

pub loop-source-init : goal.loop-source-init
loop-source-init c =
    let v = c.args.self.now in
    let ft : SFits w128 c.args.times = c.ranges.times in
    let ff : SFits w128 c.args.factor = c.ranges.factor in
    simp to_z-of_z (record {
      beside = beside_start v.nodes.items c.args.row c.args.pivot c.args.col (of_ℤ c.args.times) (of_ℤ c.args.factor) v.spare c.right_of-source.result c.right_of-source.ensures;
      arena = refl;
      height = refl;
      width = refl;
      within = omega arith;
    })

pub index-requires : goal.index-requires
index-requires c =
    let v = c.args.self.now in
    let w = c.loop-source.self in
    let ft : SFits w128 c.args.times = c.ranges.times in
    let ff : SFits w128 c.args.factor = c.ranges.factor in
    let b : IsBeside v.nodes.items w.nodes.items c.args.row c.args.pivot c.args.col (of_ℤ c.args.times) (of_ℤ c.args.factor) v.spare w.spare c.loop-source.done c.loop-source.small c.loop-source.source c.loop-source.left = (simp to_z-of_z at c.loop-source.invariant.beside) in
    let n = c.in-Some.node in
    let h : IsBeside v.nodes.items w.nodes.items c.args.row c.args.pivot c.args.col (of_ℤ c.args.times) (of_ℤ c.args.factor) v.spare w.spare c.loop-source.done c.loop-source.small (Some n) c.loop-source.left = rw c.in-Some.is at b in
    let inside = item_live w.nodes.items n h.next.0.live in
    omega (arith, w.nodes.ok.0)

pub index-requires-in-Some : goal.index-requires-in-Some
index-requires-in-Some c =
    let v = c.args.self.now in
    let w = c.loop-source.self in
    let ft : SFits w128 c.args.times = c.ranges.times in
    let ff : SFits w128 c.args.factor = c.ranges.factor in
    let b : IsBeside v.nodes.items w.nodes.items c.args.row c.args.pivot c.args.col (of_ℤ c.args.times) (of_ℤ c.args.factor) v.spare w.spare c.loop-source.done c.loop-source.small c.loop-source.source c.loop-source.left = (simp to_z-of_z at c.loop-source.invariant.beside) in
    let n = c.in-Some.node in
    let h : IsBeside v.nodes.items w.nodes.items c.args.row c.args.pivot c.args.col (of_ℤ c.args.times) (of_ℤ c.args.factor) v.spare w.spare c.loop-source.done c.loop-source.small (Some n) c.loop-source.left = rw c.in-Some.is at b in
    let inside = item_live w.nodes.items n h.next.0.live in
    omega (arith, w.nodes.ok.0)

pub multiply_to-passage-requires-clause-limit : goal.multiply_to-passage-requires-clause-limit
multiply_to-passage-requires-clause-limit c =
    let v = c.args.self.now in
    let w = c.loop-source.self in
    let ft : SFits w128 c.args.times = c.ranges.times in
    let ff : SFits w128 c.args.factor = c.ranges.factor in
    let b : IsBeside v.nodes.items w.nodes.items c.args.row c.args.pivot c.args.col (of_ℤ c.args.times) (of_ℤ c.args.factor) v.spare w.spare c.loop-source.done c.loop-source.small c.loop-source.source c.loop-source.left = (simp to_z-of_z at c.loop-source.invariant.beside) in
    let n = c.in-Some.node in
    let h : IsBeside v.nodes.items w.nodes.items c.args.row c.args.pivot c.args.col (of_ℤ c.args.times) (of_ℤ c.args.factor) v.spare w.spare c.loop-source.done c.loop-source.small (Some n) c.loop-source.left = rw c.in-Some.is at b in
    let inside = item_live w.nodes.items n h.next.0.live in
    let e : c.col-at.result ≡ col_at w.nodes.items n = c.col-at.ensures ∙ col-read w.nodes.items n c.index.result.now inside c.index.ensures in
    (let le = h.next.0.index in omega arith)

pub multiply_to-passage-requires-clause-whole : goal.multiply_to-passage-requires-clause-whole
multiply_to-passage-requires-clause-whole c k le =
    let v = c.args.self.now in
    let w = c.loop-source.self in
    let ft : SFits w128 c.args.times = c.ranges.times in
    let ff : SFits w128 c.args.factor = c.ranges.factor in
    let b : IsBeside v.nodes.items w.nodes.items c.args.row c.args.pivot c.args.col (of_ℤ c.args.times) (of_ℤ c.args.factor) v.spare w.spare c.loop-source.done c.loop-source.small c.loop-source.source c.loop-source.left = (simp to_z-of_z at c.loop-source.invariant.beside) in
    subst (IsWhole 41) (sym (b.row.later k le)) (c.requires.mine k)

pub combination-entry-requires-clause-by : goal.combination-entry-requires-clause-by
combination-entry-requires-clause-by c =
    let v = c.args.self.now in
    let w = c.loop-source.self in
    let ft : SFits w128 c.args.times = c.ranges.times in
    let ff : SFits w128 c.args.factor = c.ranges.factor in
    let b : IsBeside v.nodes.items w.nodes.items c.args.row c.args.pivot c.args.col (of_ℤ c.args.times) (of_ℤ c.args.factor) v.spare w.spare c.loop-source.done c.loop-source.small c.loop-source.source c.loop-source.left = (simp to_z-of_z at c.loop-source.invariant.beside) in
    let n = c.in-Some.node in
    let h : IsBeside v.nodes.items w.nodes.items c.args.row c.args.pivot c.args.col (of_ℤ c.args.times) (of_ℤ c.args.factor) v.spare w.spare c.loop-source.done c.loop-source.small (Some n) c.loop-source.left = rw c.in-Some.is at b in
    let inside = item_live w.nodes.items n h.next.0.live in
    let e : c.col-at.result ≡ col_at w.nodes.items n = c.col-at.ensures ∙ col-read w.nodes.items n c.index.result.now inside c.index.ensures in
    let u = c.multiply_to-passage.new.self in
    let d = c.multiply_to-passage.ensures in
    let m : IsMultiplied w.nodes.items u.nodes.items c.args.row c.loop-source.done (col_at w.nodes.items n) (of_ℤ c.args.times) = subst (λ k. IsMultiplied w.nodes.items u.nodes.items c.args.row c.loop-source.done k (of_ℤ c.args.times)) e (simp to_z-of_z at d.multiplied) in
    let by : value c.index-in-Some.result.now.value ≡ item w.nodes.items n = item-read w.nodes.items n c.index-in-Some.result.now inside c.index-in-Some.ensures in
    subst (IsWhole 41) (sym (by ∙ beside_by v.nodes.items w.nodes.items u.nodes.items c.args.row c.args.pivot c.args.col (of_ℤ c.args.times) (of_ℤ c.args.factor) v.spare w.spare c.loop-source.done n c.loop-source.small c.loop-source.left h c.requires.other c.requires.entry m w.woven.apart inside)) (c.requires.theirs (col_at w.nodes.items n))

pub combination-entry-requires-clause-whole : goal.combination-entry-requires-clause-whole
combination-entry-requires-clause-whole c =
    let v = c.args.self.now in
    let w = c.loop-source.self in
    let ft : SFits w128 c.args.times = c.ranges.times in
    let ff : SFits w128 c.args.factor = c.ranges.factor in
    let b : IsBeside v.nodes.items w.nodes.items c.args.row c.args.pivot c.args.col (of_ℤ c.args.times) (of_ℤ c.args.factor) v.spare w.spare c.loop-source.done c.loop-source.small c.loop-source.source c.loop-source.left = (simp to_z-of_z at c.loop-source.invariant.beside) in
    let n = c.in-Some.node in
    let h : IsBeside v.nodes.items w.nodes.items c.args.row c.args.pivot c.args.col (of_ℤ c.args.times) (of_ℤ c.args.factor) v.spare w.spare c.loop-source.done c.loop-source.small (Some n) c.loop-source.left = rw c.in-Some.is at b in
    let inside = item_live w.nodes.items n h.next.0.live in
    let e : c.col-at.result ≡ col_at w.nodes.items n = c.col-at.ensures ∙ col-read w.nodes.items n c.index.result.now inside c.index.ensures in
    let u = c.multiply_to-passage.new.self in
    let d = c.multiply_to-passage.ensures in
    let m : IsMultiplied w.nodes.items u.nodes.items c.args.row c.loop-source.done (col_at w.nodes.items n) (of_ℤ c.args.times) = subst (λ k. IsMultiplied w.nodes.items u.nodes.items c.args.row c.loop-source.done k (of_ℤ c.args.times)) e (simp to_z-of_z at d.multiplied) in
    subst (λ k. IsWhole 41 (entry_at u.nodes.items c.args.row k)) (sym e) (subst (IsWhole 41) (sym (beside_entry v.nodes.items w.nodes.items u.nodes.items c.args.row c.args.pivot c.args.col (of_ℤ c.args.times) (of_ℤ c.args.factor) v.spare w.spare c.loop-source.done n c.loop-source.small c.loop-source.left h c.requires.other c.requires.entry m)) (c.requires.mine (col_at w.nodes.items n)))

pub put-requires-clause-col : goal.put-requires-clause-col
put-requires-clause-col c =
    let v = c.args.self.now in
    let w = c.loop-source.self in
    let ft : SFits w128 c.args.times = c.ranges.times in
    let ff : SFits w128 c.args.factor = c.ranges.factor in
    let b : IsBeside v.nodes.items w.nodes.items c.args.row c.args.pivot c.args.col (of_ℤ c.args.times) (of_ℤ c.args.factor) v.spare w.spare c.loop-source.done c.loop-source.small c.loop-source.source c.loop-source.left = (simp to_z-of_z at c.loop-source.invariant.beside) in
    let n = c.in-Some.node in
    let h : IsBeside v.nodes.items w.nodes.items c.args.row c.args.pivot c.args.col (of_ℤ c.args.times) (of_ℤ c.args.factor) v.spare w.spare c.loop-source.done c.loop-source.small (Some n) c.loop-source.left = rw c.in-Some.is at b in
    let inside = item_live w.nodes.items n h.next.0.live in
    let e : c.col-at.result ≡ col_at w.nodes.items n = c.col-at.ensures ∙ col-read w.nodes.items n c.index.result.now inside c.index.ensures in
    let width = c.loop-source.invariant.width in
    let in_table = (w.woven.within n h.next.0.live).1 in
    (let s = c.multiply_to-passage.ensures.sizes.width in omega arith)

pub put-requires-clause-spare : goal.put-requires-clause-spare
put-requires-clause-spare c =
    let v = c.args.self.now in
    let w = c.loop-source.self in
    let ft : SFits w128 c.args.times = c.ranges.times in
    let ff : SFits w128 c.args.factor = c.ranges.factor in
    let b : IsBeside v.nodes.items w.nodes.items c.args.row c.args.pivot c.args.col (of_ℤ c.args.times) (of_ℤ c.args.factor) v.spare w.spare c.loop-source.done c.loop-source.small c.loop-source.source c.loop-source.left = (simp to_z-of_z at c.loop-source.invariant.beside) in
    let n = c.in-Some.node in
    let h : IsBeside v.nodes.items w.nodes.items c.args.row c.args.pivot c.args.col (of_ℤ c.args.times) (of_ℤ c.args.factor) v.spare w.spare c.loop-source.done c.loop-source.small (Some n) c.loop-source.left = rw c.in-Some.is at b in
    let inside = item_live w.nodes.items n h.next.0.live in
    let e : c.col-at.result ≡ col_at w.nodes.items n = c.col-at.ensures ∙ col-read w.nodes.items n c.index.result.now inside c.index.ensures in
    let u = c.multiply_to-passage.new.self in
    let d = c.multiply_to-passage.ensures in
    let m : IsMultiplied w.nodes.items u.nodes.items c.args.row c.loop-source.done (col_at w.nodes.items n) (of_ℤ c.args.times) = subst (λ k. IsMultiplied w.nodes.items u.nodes.items c.args.row c.loop-source.done k (of_ℤ c.args.times)) e (simp to_z-of_z at d.multiplied) in
    let width = c.loop-source.invariant.width in
    let in_table = (w.woven.within n h.next.0.live).1 in
    let r = beside_room v.nodes.items w.nodes.items u.nodes.items c.args.row c.args.pivot c.args.col (of_ℤ c.args.times) (of_ℤ c.args.factor) v.spare w.spare c.loop-source.done n c.loop-source.small c.loop-source.left h c.requires.other c.requires.entry m w.woven.apart inside (length v.col_heads.items) (value c.combination-entry.result) (omega arith) c.requires.spare in
    subst (λ k. takes (entry_at u.nodes.items c.args.row k) (value c.combination-entry.result) ≤ u.spare) (sym e) (let s = d.sizes.spare in omega arith)

pub overflow_add-done : goal.overflow_add-done
overflow_add-done c =
    let v = c.args.self.now in
    let w = c.loop-source.self in
    let ft : SFits w128 c.args.times = c.ranges.times in
    let ff : SFits w128 c.args.factor = c.ranges.factor in
    let b : IsBeside v.nodes.items w.nodes.items c.args.row c.args.pivot c.args.col (of_ℤ c.args.times) (of_ℤ c.args.factor) v.spare w.spare c.loop-source.done c.loop-source.small c.loop-source.source c.loop-source.left = (simp to_z-of_z at c.loop-source.invariant.beside) in
    let n = c.in-Some.node in
    let h : IsBeside v.nodes.items w.nodes.items c.args.row c.args.pivot c.args.col (of_ℤ c.args.times) (of_ℤ c.args.factor) v.spare w.spare c.loop-source.done c.loop-source.small (Some n) c.loop-source.left = rw c.in-Some.is at b in
    let inside = item_live w.nodes.items n h.next.0.live in
    let e : c.col-at.result ≡ col_at w.nodes.items n = c.col-at.ensures ∙ col-read w.nodes.items n c.index.result.now inside c.index.ensures in
    let width = c.loop-source.invariant.width in
    let in_table = (w.woven.within n h.next.0.live).1 in
    omega (arith, w.col_heads.ok.0)

pub index-requires-in-Some-2 : goal.index-requires-in-Some-2
index-requires-in-Some-2 c =
    let v = c.args.self.now in
    let w = c.loop-source.self in
    let ft : SFits w128 c.args.times = c.ranges.times in
    let ff : SFits w128 c.args.factor = c.ranges.factor in
    let b : IsBeside v.nodes.items w.nodes.items c.args.row c.args.pivot c.args.col (of_ℤ c.args.times) (of_ℤ c.args.factor) v.spare w.spare c.loop-source.done c.loop-source.small c.loop-source.source c.loop-source.left = (simp to_z-of_z at c.loop-source.invariant.beside) in
    let n = c.in-Some.node in
    let h : IsBeside v.nodes.items w.nodes.items c.args.row c.args.pivot c.args.col (of_ℤ c.args.times) (of_ℤ c.args.factor) v.spare w.spare c.loop-source.done c.loop-source.small (Some n) c.loop-source.left = rw c.in-Some.is at b in
    let inside = item_live w.nodes.items n h.next.0.live in
    let e : c.col-at.result ≡ col_at w.nodes.items n = c.col-at.ensures ∙ col-read w.nodes.items n c.index.result.now inside c.index.ensures in
    let u = c.multiply_to-passage.new.self in
    let d = c.multiply_to-passage.ensures in
    let m : IsMultiplied w.nodes.items u.nodes.items c.args.row c.loop-source.done (col_at w.nodes.items n) (of_ℤ c.args.times) = subst (λ k. IsMultiplied w.nodes.items u.nodes.items c.args.row c.loop-source.done k (of_ℤ c.args.times)) e (simp to_z-of_z at d.multiplied) in
    let newer = c.put.new.self in
    let p : IsPut u.nodes.items newer.nodes.items c.args.row (col_at w.nodes.items n) (value c.combination-entry.result) = subst (λ k. IsPut u.nodes.items newer.nodes.items c.args.row k (value c.combination-entry.result)) e c.put.ensures.entry in
    let l = item_live newer.nodes.items n (p.stays n c.args.pivot (col_at w.nodes.items n) (λ z _. c.requires.other z) (beside_stands v.nodes.items w.nodes.items u.nodes.items c.args.row c.args.pivot c.args.col (of_ℤ c.args.times) (of_ℤ c.args.factor) v.spare w.spare c.loop-source.done n c.loop-source.small c.loop-source.left h c.requires.other c.requires.entry m)).live in
    omega (arith, newer.nodes.ok.0)

pub loop-source-smaller : goal.loop-source-smaller
loop-source-smaller c =
    let v = c.args.self.now in
    let w = c.loop-source.self in
    let ft : SFits w128 c.args.times = c.ranges.times in
    let ff : SFits w128 c.args.factor = c.ranges.factor in
    let b : IsBeside v.nodes.items w.nodes.items c.args.row c.args.pivot c.args.col (of_ℤ c.args.times) (of_ℤ c.args.factor) v.spare w.spare c.loop-source.done c.loop-source.small c.loop-source.source c.loop-source.left = (simp to_z-of_z at c.loop-source.invariant.beside) in
    let n = c.in-Some.node in
    let h : IsBeside v.nodes.items w.nodes.items c.args.row c.args.pivot c.args.col (of_ℤ c.args.times) (of_ℤ c.args.factor) v.spare w.spare c.loop-source.done c.loop-source.small (Some n) c.loop-source.left = rw c.in-Some.is at b in
    let inside = item_live w.nodes.items n h.next.0.live in
    let e : c.col-at.result ≡ col_at w.nodes.items n = c.col-at.ensures ∙ col-read w.nodes.items n c.index.result.now inside c.index.ensures in
    let width = c.loop-source.invariant.width in
    let in_table = (w.woven.within n h.next.0.live).1 in
    let le = h.next.0.index in
    omega arith

pub loop-source-preserved : goal.loop-source-preserved
loop-source-preserved c =
    let v = c.args.self.now in
    let w = c.loop-source.self in
    let ft : SFits w128 c.args.times = c.ranges.times in
    let ff : SFits w128 c.args.factor = c.ranges.factor in
    let b : IsBeside v.nodes.items w.nodes.items c.args.row c.args.pivot c.args.col (of_ℤ c.args.times) (of_ℤ c.args.factor) v.spare w.spare c.loop-source.done c.loop-source.small c.loop-source.source c.loop-source.left = (simp to_z-of_z at c.loop-source.invariant.beside) in
    let n = c.in-Some.node in
    let h : IsBeside v.nodes.items w.nodes.items c.args.row c.args.pivot c.args.col (of_ℤ c.args.times) (of_ℤ c.args.factor) v.spare w.spare c.loop-source.done c.loop-source.small (Some n) c.loop-source.left = rw c.in-Some.is at b in
    let inside = item_live w.nodes.items n h.next.0.live in
    let e : c.col-at.result ≡ col_at w.nodes.items n = c.col-at.ensures ∙ col-read w.nodes.items n c.index.result.now inside c.index.ensures in
    let u = c.multiply_to-passage.new.self in
    let d = c.multiply_to-passage.ensures in
    let m : IsMultiplied w.nodes.items u.nodes.items c.args.row c.loop-source.done (col_at w.nodes.items n) (of_ℤ c.args.times) = subst (λ k. IsMultiplied w.nodes.items u.nodes.items c.args.row c.loop-source.done k (of_ℤ c.args.times)) e (simp to_z-of_z at d.multiplied) in
    let by : value c.index-in-Some.result.now.value ≡ item w.nodes.items n = item-read w.nodes.items n c.index-in-Some.result.now inside c.index-in-Some.ensures in
    let width = c.loop-source.invariant.width in
    let in_table = (w.woven.within n h.next.0.live).1 in
    let x = value c.combination-entry.result in
    let newer = c.put.new.self in
    let p : IsPut u.nodes.items newer.nodes.items c.args.row (col_at w.nodes.items n) x = subst (λ k. IsPut u.nodes.items newer.nodes.items c.args.row k x) e c.put.ensures.entry in
    let q : w.spare ≤ newer.spare + takes (entry_at u.nodes.items c.args.row (col_at w.nodes.items n)) x = subst (λ k. w.spare ≤ newer.spare + takes (entry_at u.nodes.items c.args.row k) x) e (let s = d.sizes.spare in let t = c.put.ensures.spare in omega arith) in
    let l : IsLast (by_rows u.nodes.items) c.args.row (col_at w.nodes.items n) c.multiply_to-passage.result.left = subst (λ k. IsLast (by_rows u.nodes.items) c.args.row k c.multiply_to-passage.result.left) e d.left in
    let f : x ≡ reduced_entry c.col-at.result c.args.col (of_ℤ c.args.factor) (value c.index-in-Some.result.now.value) (entry_at u.nodes.items c.args.row c.col-at.result *ℚ of_ℤ c.args.times) = (simp to_z-of_z at c.combination-entry.ensures) in
    let r : x ≡ reduced_entry (col_at w.nodes.items n) c.args.col (of_ℤ c.args.factor) (item w.nodes.items n) (entry_at u.nodes.items c.args.row (col_at w.nodes.items n) *ℚ of_ℤ c.args.times) =
    subst (λ (y : ℚ). x ≡ reduced_entry (col_at w.nodes.items n) c.args.col (of_ℤ c.args.factor) y (entry_at u.nodes.items c.args.row (col_at w.nodes.items n) *ℚ of_ℤ c.args.times)) by
    (subst (λ (k : ℕ). x ≡ reduced_entry k c.args.col (of_ℤ c.args.factor) (value c.index-in-Some.result.now.value) (entry_at u.nodes.items c.args.row k *ℚ of_ℤ c.args.times)) e f) in
    let products : IsTrue c.multiply_to-passage.result.small → AreProducts w.nodes.items c.args.row c.loop-source.done c.col-at.result (of_ℤ c.args.times) = (simp to_z-of_z at d.small) in
    let now = c.stays_small-small.ensures in
    let s = beside_step v.nodes.items w.nodes.items u.nodes.items c.args.row c.args.pivot c.args.col (of_ℤ c.args.times) (of_ℤ c.args.factor) v.spare w.spare c.loop-source.done n c.loop-source.small c.loop-source.left h c.requires.other c.requires.entry m w.woven.apart inside newer.nodes.items newer.spare x c.stays_small-small.result c.multiply_to-passage.result.left (length newer.row_heads.items) (head_at newer.row_heads.items) r p q l newer.woven.rows
    (λ z. d.before (now.before z)) (λ z. subst (λ k. AreProducts w.nodes.items c.args.row c.loop-source.done k (of_ℤ c.args.times)) e (products (now.before z))) now.here in
    let t = p.stays n c.args.pivot (col_at w.nodes.items n) (λ z _. c.requires.other z) (beside_stands v.nodes.items w.nodes.items u.nodes.items c.args.row c.args.pivot c.args.col (of_ℤ c.args.times) (of_ℤ c.args.factor) v.spare w.spare c.loop-source.done n c.loop-source.small c.loop-source.left h c.requires.other c.requires.entry m) in
    let right : c.right-source.result ≡ right_at newer.nodes.items n = c.right-source.ensures.is ∙ right-read newer.nodes.items n c.index-in-Some-2.result.now (item_live newer.nodes.items n t.live) c.index-in-Some-2.ensures in
    simp to_z-of_z (record {
      beside = rw (e, right) s;
      arena = c.put.ensures.arena ∙ d.sizes.arena ∙ c.loop-source.invariant.arena;
      height = c.put.ensures.height ∙ d.sizes.height ∙ c.loop-source.invariant.height;
      width = c.put.ensures.width ∙ d.sizes.width ∙ c.loop-source.invariant.width;
      within = omega arith;
    })

pub multiply_rest-requires-clause-whole : goal.multiply_rest-requires-clause-whole
multiply_rest-requires-clause-whole c k le =
    let v = c.args.self.now in
    let w = c.loop-source.self in
    let ft : SFits w128 c.args.times = c.ranges.times in
    let ff : SFits w128 c.args.factor = c.ranges.factor in
    let b : IsBeside v.nodes.items w.nodes.items c.args.row c.args.pivot c.args.col (of_ℤ c.args.times) (of_ℤ c.args.factor) v.spare w.spare c.loop-source.done c.loop-source.small c.loop-source.source c.loop-source.left = (simp to_z-of_z at c.loop-source.invariant.beside) in
    subst (IsWhole 41) (sym (b.row.later k le)) (c.requires.mine k)

pub returns-clause-combined : goal.returns-clause-combined
returns-clause-combined c =
    let v = c.args.self.now in
    let w = c.loop-source.self in
    let ft : SFits w128 c.args.times = c.ranges.times in
    let ff : SFits w128 c.args.factor = c.ranges.factor in
    let b : IsBeside v.nodes.items w.nodes.items c.args.row c.args.pivot c.args.col (of_ℤ c.args.times) (of_ℤ c.args.factor) v.spare w.spare c.loop-source.done c.loop-source.small c.loop-source.source c.loop-source.left = (simp to_z-of_z at c.loop-source.invariant.beside) in
    let h : IsBeside v.nodes.items w.nodes.items c.args.row c.args.pivot c.args.col (of_ℤ c.args.times) (of_ℤ c.args.factor) v.spare w.spare c.loop-source.done c.loop-source.small None c.loop-source.left = rw c.in_default.is at b in
    let u = c.multiply_rest.new.self in
    let d = c.multiply_rest.ensures in
    let wide = c.loop-source.invariant.width in
    let m : IsMultiplied w.nodes.items u.nodes.items c.args.row c.loop-source.done (length v.col_heads.items) (of_ℤ c.args.times) = subst (λ k. IsMultiplied w.nodes.items u.nodes.items c.args.row c.loop-source.done k (of_ℤ c.args.times)) wide (simp to_z-of_z at d.multiplied) in
    (beside_on v.nodes.items w.nodes.items u.nodes.items c.args.row c.args.pivot c.args.col (of_ℤ c.args.times) (of_ℤ c.args.factor) v.spare w.spare c.loop-source.done (length v.col_heads.items) c.loop-source.small None c.loop-source.left h c.requires.other c.requires.entry c.loop-source.invariant.within (λ k q. absurd (let r : ⊥ = cc in r)) m).combined

pub returns-clause-small : goal.returns-clause-small
returns-clause-small c z k =
    let v = c.args.self.now in
    let w = c.loop-source.self in
    let ft : SFits w128 c.args.times = c.ranges.times in
    let ff : SFits w128 c.args.factor = c.ranges.factor in
    let b : IsBeside v.nodes.items w.nodes.items c.args.row c.args.pivot c.args.col (of_ℤ c.args.times) (of_ℤ c.args.factor) v.spare w.spare c.loop-source.done c.loop-source.small c.loop-source.source c.loop-source.left = (simp to_z-of_z at c.loop-source.invariant.beside) in
    let h : IsBeside v.nodes.items w.nodes.items c.args.row c.args.pivot c.args.col (of_ℤ c.args.times) (of_ℤ c.args.factor) v.spare w.spare c.loop-source.done c.loop-source.small None c.loop-source.left = rw c.in_default.is at b in
    let u = c.multiply_rest.new.self in
    let d = c.multiply_rest.ensures in
    let wide = c.loop-source.invariant.width in
    let m : IsMultiplied w.nodes.items u.nodes.items c.args.row c.loop-source.done (length v.col_heads.items) (of_ℤ c.args.times) = subst (λ k. IsMultiplied w.nodes.items u.nodes.items c.args.row c.loop-source.done k (of_ℤ c.args.times)) wide (simp to_z-of_z at d.multiplied) in
    let on = beside_on v.nodes.items w.nodes.items u.nodes.items c.args.row c.args.pivot c.args.col (of_ℤ c.args.times) (of_ℤ c.args.factor) v.spare w.spare c.loop-source.done (length v.col_heads.items) c.loop-source.small None c.loop-source.left h c.requires.other c.requires.entry c.loop-source.invariant.within (λ k q. absurd (let r : ⊥ = cc in r)) m in
    let products : IsTrue c.multiply_rest.result → AreProducts w.nodes.items c.args.row c.loop-source.done (length w.col_heads.items) (of_ℤ c.args.times) = (simp to_z-of_z at d.small) in
    let small = beside_small v.nodes.items w.nodes.items u.nodes.items c.args.row c.args.pivot c.args.col (of_ℤ c.args.times) (of_ℤ c.args.factor) v.spare w.spare c.loop-source.done (length v.col_heads.items) c.loop-source.small None c.loop-source.left h c.requires.other c.requires.entry c.loop-source.invariant.within (λ k q. absurd (let r : ⊥ = cc in r)) m (d.before z) (subst (λ k. AreProducts w.nodes.items c.args.row c.loop-source.done k (of_ℤ c.args.times)) wide (products z)) in
    elim (cases_Bool (nat_lt k (length v.col_heads.items))) [
      | inl q ↦ (let lt = ltb-true k (length v.col_heads.items) q in subst (IsWhole 41) (sym (on.combined k lt)) (small k lt))
      | inr q ↦ (let le : length v.col_heads.items ≤ k = ltb-false k (length v.col_heads.items) q in subst (IsWhole 41) (sym (beyond u c.args.row k (let s = d.sizes.width in omega arith))) whole_zero)
    ]

pub returns-clause-others : goal.returns-clause-others
returns-clause-others c =
    let v = c.args.self.now in
    let w = c.loop-source.self in
    let ft : SFits w128 c.args.times = c.ranges.times in
    let ff : SFits w128 c.args.factor = c.ranges.factor in
    let b : IsBeside v.nodes.items w.nodes.items c.args.row c.args.pivot c.args.col (of_ℤ c.args.times) (of_ℤ c.args.factor) v.spare w.spare c.loop-source.done c.loop-source.small c.loop-source.source c.loop-source.left = (simp to_z-of_z at c.loop-source.invariant.beside) in
    let h : IsBeside v.nodes.items w.nodes.items c.args.row c.args.pivot c.args.col (of_ℤ c.args.times) (of_ℤ c.args.factor) v.spare w.spare c.loop-source.done c.loop-source.small None c.loop-source.left = rw c.in_default.is at b in
    let u = c.multiply_rest.new.self in
    let d = c.multiply_rest.ensures in
    let wide = c.loop-source.invariant.width in
    let m : IsMultiplied w.nodes.items u.nodes.items c.args.row c.loop-source.done (length v.col_heads.items) (of_ℤ c.args.times) = subst (λ k. IsMultiplied w.nodes.items u.nodes.items c.args.row c.loop-source.done k (of_ℤ c.args.times)) wide (simp to_z-of_z at d.multiplied) in
    (beside_on v.nodes.items w.nodes.items u.nodes.items c.args.row c.args.pivot c.args.col (of_ℤ c.args.times) (of_ℤ c.args.factor) v.spare w.spare c.loop-source.done (length v.col_heads.items) c.loop-source.small None c.loop-source.left h c.requires.other c.requires.entry c.loop-source.invariant.within (λ k q. absurd (let r : ⊥ = cc in r)) m).rows

pub returns-clause-spare : goal.returns-clause-spare
returns-clause-spare c =
    let v = c.args.self.now in
    let w = c.loop-source.self in
    let ft : SFits w128 c.args.times = c.ranges.times in
    let ff : SFits w128 c.args.factor = c.ranges.factor in
    let b : IsBeside v.nodes.items w.nodes.items c.args.row c.args.pivot c.args.col (of_ℤ c.args.times) (of_ℤ c.args.factor) v.spare w.spare c.loop-source.done c.loop-source.small c.loop-source.source c.loop-source.left = (simp to_z-of_z at c.loop-source.invariant.beside) in
    let h : IsBeside v.nodes.items w.nodes.items c.args.row c.args.pivot c.args.col (of_ℤ c.args.times) (of_ℤ c.args.factor) v.spare w.spare c.loop-source.done c.loop-source.small None c.loop-source.left = rw c.in_default.is at b in
    let u = c.multiply_rest.new.self in
    let d = c.multiply_rest.ensures in
    let wide = c.loop-source.invariant.width in
    let m : IsMultiplied w.nodes.items u.nodes.items c.args.row c.loop-source.done (length v.col_heads.items) (of_ℤ c.args.times) = subst (λ k. IsMultiplied w.nodes.items u.nodes.items c.args.row c.loop-source.done k (of_ℤ c.args.times)) wide (simp to_z-of_z at d.multiplied) in
    let on = (beside_on v.nodes.items w.nodes.items u.nodes.items c.args.row c.args.pivot c.args.col (of_ℤ c.args.times) (of_ℤ c.args.factor) v.spare w.spare c.loop-source.done (length v.col_heads.items) c.loop-source.small None c.loop-source.left h c.requires.other c.requires.entry c.loop-source.invariant.within (λ k q. absurd (let r : ⊥ = cc in r)) m).spare in
    let s = d.sizes.spare in
    omega arith
