use Rattle.std.proofs.Common.{◌≡◌, ◌∙◌, ◌<◌, ◌≤◌, ℕ, IsTrue, SFits, length, arith, Option, Some, None, sym, subst, refl}
use Rattle.std.proofs.lemmas.Int.{to_z-of_z}
use mir.Syntax.{w128}
use Rattle.dc_math.specs.Rational.{of_ℤ, ◌*ℚ◌}
use Rattle.dc_sparse.specs.Nodes.{by_rows, col_at, right_at, item, head_at}
use Rattle.dc_sparse.specs.Entries.{StandsAt, IsPut}
use Rattle.dc_sparse.specs.Scales.{IsWhole}
use Rattle.dc_sparse.proofs.SingleWrites.{item_live}
use Rattle.dc_sparse.proofs.Links.{left_from, col-read, right-read}
use Rattle.dc_sparse.proofs.HeldEntries.{same_sizes, sizes_on}
use Rattle.dc_sparse.proofs.Multiples.{IsPassing, passing_start, passing_entry, passing_step, passing_smaller, passing_ends, passing_small, passing_last}
use Rattle.dc_sparse.proofs.web.Web.multiply_to.Goals as goal

pub loop-next-init : goal.loop-next-init
loop-next-init c =
    let v = c.args.self.now in
    let ft : SFits w128 c.args.times = c.ranges.times in
    simp to_z-of_z (record {
      passing = passing_start v.nodes.items c.args.row c.args.done c.args.limit (of_ℤ c.args.times) c.args.small c.args.from c.right_of-next.result c.requires.limit c.requires.from c.right_of-next.ensures;
      before = λ t. t;
      sizes = same_sizes v;
    })

pub index-requires : goal.index-requires
index-requires c =
    let v = c.args.self.now in
    let w = c.loop-next.self in
    let n = c.in-Some.node in
    let ft : SFits w128 c.args.times = c.ranges.times in
    let p : IsPassing v.nodes.items w.nodes.items c.args.row c.args.done c.args.limit (of_ℤ c.args.times) c.loop-next.all c.loop-next.left c.loop-next.next = (simp to_z-of_z at c.loop-next.invariant.passing) in
    let h : IsPassing v.nodes.items w.nodes.items c.args.row c.args.done c.args.limit (of_ℤ c.args.times) c.loop-next.all c.loop-next.left (Some n) = rw c.in-Some.is at p in
    let inside = item_live w.nodes.items n h.walk.next.0.live in
    omega (arith, w.nodes.ok.0)

pub returns-then-col-limit-clause-left : goal.returns-then-col-limit-clause-left
returns-then-col-limit-clause-left c =
    let v = c.args.self.now in
    let w = c.loop-next.self in
    let n = c.in-Some.node in
    let ft : SFits w128 c.args.times = c.ranges.times in
    let p : IsPassing v.nodes.items w.nodes.items c.args.row c.args.done c.args.limit (of_ℤ c.args.times) c.loop-next.all c.loop-next.left c.loop-next.next = (simp to_z-of_z at c.loop-next.invariant.passing) in
    let h : IsPassing v.nodes.items w.nodes.items c.args.row c.args.done c.args.limit (of_ℤ c.args.times) c.loop-next.all c.loop-next.left (Some n) = rw c.in-Some.is at p in
    let inside = item_live w.nodes.items n h.walk.next.0.live in
    let e : c.col.result ≡ col_at w.nodes.items n = c.col.ensures ∙ col-read w.nodes.items n c.index.result.now inside c.index.ensures in
    let t = c.if-col-limit.true in
    let far : (m : ℕ) → Some n ≡ Some m → c.args.limit ≤ col_at w.nodes.items m = λ m q. (let same : col_at w.nodes.items n ≡ col_at w.nodes.items m = cc in omega arith) in
    passing_last v.nodes.items w.nodes.items c.args.row c.args.done c.args.limit (of_ℤ c.args.times) c.loop-next.all c.loop-next.left (Some n) h c.requires.limit far

pub returns-then-col-limit-clause-multiplied : goal.returns-then-col-limit-clause-multiplied
returns-then-col-limit-clause-multiplied c =
    let v = c.args.self.now in
    let w = c.loop-next.self in
    let n = c.in-Some.node in
    let ft : SFits w128 c.args.times = c.ranges.times in
    let p : IsPassing v.nodes.items w.nodes.items c.args.row c.args.done c.args.limit (of_ℤ c.args.times) c.loop-next.all c.loop-next.left c.loop-next.next = (simp to_z-of_z at c.loop-next.invariant.passing) in
    let h : IsPassing v.nodes.items w.nodes.items c.args.row c.args.done c.args.limit (of_ℤ c.args.times) c.loop-next.all c.loop-next.left (Some n) = rw c.in-Some.is at p in
    let inside = item_live w.nodes.items n h.walk.next.0.live in
    let e : c.col.result ≡ col_at w.nodes.items n = c.col.ensures ∙ col-read w.nodes.items n c.index.result.now inside c.index.ensures in
    let t = c.if-col-limit.true in
    let far : (m : ℕ) → Some n ≡ Some m → c.args.limit ≤ col_at w.nodes.items m = λ m q. (let same : col_at w.nodes.items n ≡ col_at w.nodes.items m = cc in omega arith) in
    passing_ends v.nodes.items w.nodes.items c.args.row c.args.done c.args.limit (of_ℤ c.args.times) c.loop-next.all c.loop-next.left (Some n) h c.requires.limit far

pub returns-then-col-limit-clause-small : goal.returns-then-col-limit-clause-small
returns-then-col-limit-clause-small c =
    let v = c.args.self.now in
    let w = c.loop-next.self in
    let n = c.in-Some.node in
    let ft : SFits w128 c.args.times = c.ranges.times in
    let p : IsPassing v.nodes.items w.nodes.items c.args.row c.args.done c.args.limit (of_ℤ c.args.times) c.loop-next.all c.loop-next.left c.loop-next.next = (simp to_z-of_z at c.loop-next.invariant.passing) in
    let h : IsPassing v.nodes.items w.nodes.items c.args.row c.args.done c.args.limit (of_ℤ c.args.times) c.loop-next.all c.loop-next.left (Some n) = rw c.in-Some.is at p in
    let inside = item_live w.nodes.items n h.walk.next.0.live in
    let e : c.col.result ≡ col_at w.nodes.items n = c.col.ensures ∙ col-read w.nodes.items n c.index.result.now inside c.index.ensures in
    let t = c.if-col-limit.true in
    let far : (m : ℕ) → Some n ≡ Some m → c.args.limit ≤ col_at w.nodes.items m = λ m q. (let same : col_at w.nodes.items n ≡ col_at w.nodes.items m = cc in omega arith) in
    passing_small v.nodes.items w.nodes.items c.args.row c.args.done c.args.limit (of_ℤ c.args.times) c.loop-next.all c.loop-next.left (Some n) h c.requires.limit far

pub multiply-all-requires-clause-whole : goal.multiply-all-requires-clause-whole
multiply-all-requires-clause-whole c le =
    let v = c.args.self.now in
    let w = c.loop-next.self in
    let n = c.in-Some.node in
    let ft : SFits w128 c.args.times = c.ranges.times in
    let p : IsPassing v.nodes.items w.nodes.items c.args.row c.args.done c.args.limit (of_ℤ c.args.times) c.loop-next.all c.loop-next.left c.loop-next.next = (simp to_z-of_z at c.loop-next.invariant.passing) in
    let h : IsPassing v.nodes.items w.nodes.items c.args.row c.args.done c.args.limit (of_ℤ c.args.times) c.loop-next.all c.loop-next.left (Some n) = rw c.in-Some.is at p in
    let inside = item_live w.nodes.items n h.walk.next.0.live in
    subst (IsWhole 41) (sym (passing_entry v.nodes.items w.nodes.items c.args.row c.args.done c.args.limit (of_ℤ c.args.times) c.loop-next.all c.loop-next.left n h w.woven.apart inside le)) (c.requires.whole (col_at w.nodes.items n) le)

pub index-requires-in-Some : goal.index-requires-in-Some
index-requires-in-Some c =
    let v = c.args.self.now in
    let w = c.loop-next.self in
    let n = c.in-Some.node in
    let ft : SFits w128 c.args.times = c.ranges.times in
    let p : IsPassing v.nodes.items w.nodes.items c.args.row c.args.done c.args.limit (of_ℤ c.args.times) c.loop-next.all c.loop-next.left c.loop-next.next = (simp to_z-of_z at c.loop-next.invariant.passing) in
    let h : IsPassing v.nodes.items w.nodes.items c.args.row c.args.done c.args.limit (of_ℤ c.args.times) c.loop-next.all c.loop-next.left (Some n) = rw c.in-Some.is at p in
    let inside = item_live w.nodes.items n h.walk.next.0.live in
    let e : c.col.result ≡ col_at w.nodes.items n = c.col.ensures ∙ col-read w.nodes.items n c.index.result.now inside c.index.ensures in
    let u = c.multiply-all.new.self in
    let d = c.multiply-all.ensures in
    let there = d.stays n c.args.row (col_at w.nodes.items n) (record { live = h.walk.next.0.live; row = h.walk.next.0.line; col = refl }) in
    let l = item_live u.nodes.items n there.live in
    omega (arith, u.nodes.ok.0)

pub loop-next-smaller : goal.loop-next-smaller
loop-next-smaller c =
    let v = c.args.self.now in
    let w = c.loop-next.self in
    let n = c.in-Some.node in
    let ft : SFits w128 c.args.times = c.ranges.times in
    let p : IsPassing v.nodes.items w.nodes.items c.args.row c.args.done c.args.limit (of_ℤ c.args.times) c.loop-next.all c.loop-next.left c.loop-next.next = (simp to_z-of_z at c.loop-next.invariant.passing) in
    let h : IsPassing v.nodes.items w.nodes.items c.args.row c.args.done c.args.limit (of_ℤ c.args.times) c.loop-next.all c.loop-next.left (Some n) = rw c.in-Some.is at p in
    let inside = item_live w.nodes.items n h.walk.next.0.live in
    let e : c.col.result ≡ col_at w.nodes.items n = c.col.ensures ∙ col-read w.nodes.items n c.index.result.now inside c.index.ensures in
    let u = c.multiply-all.new.self in
    let d = c.multiply-all.ensures in
    let entry : c.args.done ≤ col_at w.nodes.items n → (i k : ℕ) → StandsAt w.nodes.items n i k → IsPut w.nodes.items u.nodes.items i k (item w.nodes.items n *ℚ of_ℤ c.args.times) = (simp to_z-of_z at d.entry) in
    let small : IsTrue c.multiply-all.result → c.args.done ≤ col_at w.nodes.items n → IsWhole 41 (item w.nodes.items n *ℚ of_ℤ c.args.times) = (simp to_z-of_z at d.small) in
    let there = d.stays n c.args.row (col_at w.nodes.items n) (record { live = h.walk.next.0.live; row = h.walk.next.0.line; col = refl }) in
    let right : c.right-next.result ≡ right_at u.nodes.items n = c.right-next.ensures.is ∙ right-read u.nodes.items n c.index-in-Some.result.now (item_live u.nodes.items n there.live) c.index-in-Some.ensures in
    let s : left_from (by_rows u.nodes.items) (length w.col_heads.items) (right_at u.nodes.items n) < left_from (by_rows w.nodes.items) (length w.col_heads.items) (Some n) =
    passing_smaller v.nodes.items w.nodes.items c.args.row c.args.done c.args.limit (of_ℤ c.args.times) c.loop-next.all c.loop-next.left n h w.woven.apart inside u.nodes.items c.multiply-all.result (length u.row_heads.items) (head_at u.row_heads.items) d.done entry d.stays d.before small u.woven.apart u.woven.rows (length w.col_heads.items) (w.woven.within n h.walk.next.0.live).1 in
    let P : ℕ → Option ℕ → Option ℕ → Type 0 = λ k o q. left_from (by_rows u.nodes.items) k o < left_from (by_rows w.nodes.items) (length w.col_heads.items) q in
    subst (λ k. P k c.right-next.result c.loop-next.next) (sym d.sizes.width) (subst (λ o. P (length w.col_heads.items) o c.loop-next.next) (sym right) (subst (P (length w.col_heads.items) (right_at u.nodes.items n)) (sym c.in-Some.is) s))

pub loop-next-preserved : goal.loop-next-preserved
loop-next-preserved c =
    let v = c.args.self.now in
    let w = c.loop-next.self in
    let n = c.in-Some.node in
    let ft : SFits w128 c.args.times = c.ranges.times in
    let p : IsPassing v.nodes.items w.nodes.items c.args.row c.args.done c.args.limit (of_ℤ c.args.times) c.loop-next.all c.loop-next.left c.loop-next.next = (simp to_z-of_z at c.loop-next.invariant.passing) in
    let h : IsPassing v.nodes.items w.nodes.items c.args.row c.args.done c.args.limit (of_ℤ c.args.times) c.loop-next.all c.loop-next.left (Some n) = rw c.in-Some.is at p in
    let inside = item_live w.nodes.items n h.walk.next.0.live in
    let e : c.col.result ≡ col_at w.nodes.items n = c.col.ensures ∙ col-read w.nodes.items n c.index.result.now inside c.index.ensures in
    let u = c.multiply-all.new.self in
    let d = c.multiply-all.ensures in
    let entry : c.args.done ≤ col_at w.nodes.items n → (i k : ℕ) → StandsAt w.nodes.items n i k → IsPut w.nodes.items u.nodes.items i k (item w.nodes.items n *ℚ of_ℤ c.args.times) = (simp to_z-of_z at d.entry) in
    let small : IsTrue c.multiply-all.result → c.args.done ≤ col_at w.nodes.items n → IsWhole 41 (item w.nodes.items n *ℚ of_ℤ c.args.times) = (simp to_z-of_z at d.small) in
    let there = d.stays n c.args.row (col_at w.nodes.items n) (record { live = h.walk.next.0.live; row = h.walk.next.0.line; col = refl }) in
    let right : c.right-next.result ≡ right_at u.nodes.items n = c.right-next.ensures.is ∙ right-read u.nodes.items n c.index-in-Some.result.now (item_live u.nodes.items n there.live) c.index-in-Some.ensures in
    let t = c.if-col-limit.false in
    simp to_z-of_z (record {
      passing = rw right (passing_step v.nodes.items w.nodes.items c.args.row c.args.done c.args.limit (of_ℤ c.args.times) c.loop-next.all c.loop-next.left n h w.woven.apart inside u.nodes.items c.multiply-all.result (length u.row_heads.items) (head_at u.row_heads.items) d.done entry d.stays d.before small u.woven.apart u.woven.rows (omega arith));
      before = λ z. c.loop-next.invariant.before (d.before z);
      sizes = sizes_on v w u c.loop-next.invariant.sizes d.sizes;
    })

pub returns-clause-left : goal.returns-clause-left
returns-clause-left c =
    let v = c.args.self.now in
    let w = c.loop-next.self in
    let ft : SFits w128 c.args.times = c.ranges.times in
    let p : IsPassing v.nodes.items w.nodes.items c.args.row c.args.done c.args.limit (of_ℤ c.args.times) c.loop-next.all c.loop-next.left c.loop-next.next = (simp to_z-of_z at c.loop-next.invariant.passing) in
    let h : IsPassing v.nodes.items w.nodes.items c.args.row c.args.done c.args.limit (of_ℤ c.args.times) c.loop-next.all c.loop-next.left None = rw c.in_default.is at p in
    let far : (m : ℕ) → None ≡ Some m → c.args.limit ≤ col_at w.nodes.items m = λ m q. absurd (let r : ⊥ = cc in r) in
    passing_last v.nodes.items w.nodes.items c.args.row c.args.done c.args.limit (of_ℤ c.args.times) c.loop-next.all c.loop-next.left None h c.requires.limit far

pub returns-clause-multiplied : goal.returns-clause-multiplied
returns-clause-multiplied c =
    let v = c.args.self.now in
    let w = c.loop-next.self in
    let ft : SFits w128 c.args.times = c.ranges.times in
    let p : IsPassing v.nodes.items w.nodes.items c.args.row c.args.done c.args.limit (of_ℤ c.args.times) c.loop-next.all c.loop-next.left c.loop-next.next = (simp to_z-of_z at c.loop-next.invariant.passing) in
    let h : IsPassing v.nodes.items w.nodes.items c.args.row c.args.done c.args.limit (of_ℤ c.args.times) c.loop-next.all c.loop-next.left None = rw c.in_default.is at p in
    let far : (m : ℕ) → None ≡ Some m → c.args.limit ≤ col_at w.nodes.items m = λ m q. absurd (let r : ⊥ = cc in r) in
    passing_ends v.nodes.items w.nodes.items c.args.row c.args.done c.args.limit (of_ℤ c.args.times) c.loop-next.all c.loop-next.left None h c.requires.limit far

pub returns-clause-small : goal.returns-clause-small
returns-clause-small c =
    let v = c.args.self.now in
    let w = c.loop-next.self in
    let ft : SFits w128 c.args.times = c.ranges.times in
    let p : IsPassing v.nodes.items w.nodes.items c.args.row c.args.done c.args.limit (of_ℤ c.args.times) c.loop-next.all c.loop-next.left c.loop-next.next = (simp to_z-of_z at c.loop-next.invariant.passing) in
    let h : IsPassing v.nodes.items w.nodes.items c.args.row c.args.done c.args.limit (of_ℤ c.args.times) c.loop-next.all c.loop-next.left None = rw c.in_default.is at p in
    let far : (m : ℕ) → None ≡ Some m → c.args.limit ≤ col_at w.nodes.items m = λ m q. absurd (let r : ⊥ = cc in r) in
    passing_small v.nodes.items w.nodes.items c.args.row c.args.done c.args.limit (of_ℤ c.args.times) c.loop-next.all c.loop-next.left None h c.requires.limit far
