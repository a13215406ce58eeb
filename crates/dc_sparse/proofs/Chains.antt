-- Each line has its list.
use Rattle.std.proofs.Common.{◌≡◌, ◌≢◌, ℕ, zero, suc, ◌+◌, ◌<◌, ◌≤◌, true, false, List, [], ◌∷◌, length, Contains, slice_index_or, Option, Some, None, refl, sym, ◌∙◌, subst, arith, inl, inr, ◌==◌, add-one}
use Rattle.std.proofs.lemmas.Bool.{cases_Bool, eqb-true, eqb-false}
use Rattle.dc_sparse.specs.Lines.{Lines, IsFrom, IsFirst, AreLinked, AreApart}
use Rattle.dc_sparse.specs.declared.web.Node.{Node}
use Rattle.dc_sparse.specs.Nodes.{row_at, right_at, is_live}
use Rattle.dc_sparse.specs.Webs.{IsFree, IsTop, IsFreeList}
use Rattle.dc_sparse.specs.Chains.{IsChain, RiseFrom, IsListOf, RanksFall, IsFreeListOf}

first_contained : (a b : ℕ) (xs : List ℕ) → a ≡ b → Contains (b ∷ xs) a
first_contained a b xs e = (0, omega arith, sym e)

rest_contained : (a b : ℕ) (xs : List ℕ) → Contains xs a → Contains (b ∷ xs) a
rest_contained a b xs h = (suc h.0, (let l : h.0 < length xs = h.1 in omega arith), h.2)

record IsTail (s : Lines) (from : Option ℕ) (i k : ℕ) (xs : List ℕ) : Type 0 where
  chain : IsChain s.next from xs
  rise : RiseFrom s i k xs
  all : (a : ℕ) → IsFrom s i k a → Contains xs a

module _ (s : Lines) (lines w i : ℕ) (head : ℕ → Option ℕ) (linked : AreLinked s lines head) (apart : AreApart s) (inside : (a : ℕ) → s.live a ≡ true → s.index a < w) where
  ends : (k : ℕ) → IsFirst s i k None → IsTail s None i k []
  ends k f = record { chain = tt; rise = tt; all = λ a g. absurd (f a g) }

  goes : (k b : ℕ) (xs : List ℕ) → IsFirst s i k (Some b) → IsTail s (s.next b) i (suc (s.index b)) xs → IsTail s (Some b) i k (b ∷ xs)
  goes k b xs f t = record {
    chain = (refl, t.chain);
    rise = (f.0, t.rise);
    all = λ a g. elim (cases_Bool (s.index a == s.index b)) [
      | inl e ↦ first_contained a b xs (apart a b g.live f.0.live (g.line ∙ sym f.0.line) (eqb-true (s.index a) (s.index b) e))
      | inr e ↦ rest_contained a b xs (let ne : s.index a ≢ s.index b = eqb-false (s.index a) (s.index b) e in let l = f.1 a g in t.all a (record { live = g.live; line = g.line; index = omega arith }))
    ];
  }

  tail : (fuel k : ℕ) (o : Option ℕ) → w ≤ k + fuel → IsFirst s i k o → (xs : List ℕ) × IsTail s o i k xs
  tail fuel k None le f = ([], ends k f)
  tail zero k (Some b) le f = absurd (let l = f.0.index in let m = inside b f.0.live in omega arith)
  tail (suc fuel) k (Some b) le f =
      let l = f.0.index in
      let g : IsFirst s i (s.index b + 1) (s.next b) = subst (λ x. IsFirst s x (s.index b + 1) (s.next b)) f.0.line (linked.nexts b f.0.live) in
      let r = tail fuel (suc (s.index b)) (s.next b) (omega arith) (rw add-one at g) in
      (b ∷ r.0, goes k b r.0 f r.1)

  pub line_list : i < lines → (xs : List ℕ) × IsListOf s (head i) i xs
  line_list lt = (let r = tail w 0 (head i) (omega arith) (linked.heads i lt) in (r.0, record { chain = r.1.chain; rise = r.1.rise; all = r.1.all }))

-- ---- the free list

record IsFreeTail (xs : List Node) (from : Option ℕ) (n : ℕ) (ys : List ℕ) : Type 0 where
  chain : IsChain (right_at xs) from ys
  fall : RanksFall xs n ys
  all : (a : ℕ) → IsFree xs a → row_at xs a < n → Contains ys a

module _ (xs : List Node) (free : Option ℕ) (spare : ℕ) (h : IsFreeList xs free spare) where
  free_tail : (fuel n : ℕ) (o : Option ℕ) → n ≤ fuel → IsTop xs n o → (ys : List ℕ) × IsFreeTail xs o n ys
  free_tail fuel n None le t = ([], record { chain = tt; fall = tt; all = λ a f l. absurd (omega arith) })
  free_tail zero n (Some f) le t = absurd (let e = t.1 in omega arith)
  free_tail (suc fuel) n (Some f) le t =
      let e = t.1 in
      let r = free_tail fuel (row_at xs f) (right_at xs f) (omega arith) (h.nexts f t.0) in (
        f ∷ r.0,
        record {
          chain = (refl, r.1.chain);
          fall = (t.0, (let l : row_at xs f < n = omega arith in l), r.1.fall);
          all = λ a g l. elim (cases_Bool (row_at xs a == row_at xs f)) [
            | inl q ↦ first_contained a f r.0 (h.apart a f g t.0 (eqb-true (row_at xs a) (row_at xs f) q))
            | inr q ↦ rest_contained a f r.0 (let ne : row_at xs a ≢ row_at xs f = eqb-false (row_at xs a) (row_at xs f) q in r.1.all a g (omega arith))
          ];
        },
      )

  pub free_list : (ys : List ℕ) × IsFreeListOf xs free spare ys
  free_list = (let r = free_tail spare spare free (omega arith) h.top in (r.0, record { chain = r.1.chain; fall = r.1.fall; all = λ a f. r.1.all a f (h.ranks a f) }))

-- what stands in the free list is free
pub fall_dead : (xs : List Node) (n : ℕ) (ys : List ℕ) (m d : ℕ) → RanksFall xs n ys → m < length ys → is_live xs (slice_index_or ys m d) ≡ false
fall_dead xs n [] m d f l = absurd (omega arith)
fall_dead xs n (a ∷ ys) zero d f l = f.0.dead
fall_dead xs n (a ∷ ys) (suc m) d f l = fall_dead xs (row_at xs a) ys m d f.2 (omega arith)
