-- A web whose nodes are all free.
use Rattle.std.proofs.Common.{◌≡◌, ℕ, zero, suc, ◌+◌, ◌-◌, ◌<◌, ◌≤◌, true, false, not, pos, List, [], ◌∷◌, ◌++◌, length, length-append, Option, Some, None, refl, ◌∙◌, ap, arith, inl, inr, nat_lt, below_more}
use Rattle.std.proofs.lemmas.Bool.{cases_Bool, ne_eqb, ltb-true, ltb-false}
use Rattle.dc_math.specs.Rational.{ℚ, of_ℤ}
use Rattle.dc_math.specs.Tests.{is_zero, eq_ℚ-true}
use Rattle.dc_frac.specs.Value.{value}
use Rattle.dc_sparse.specs.declared.web.Node.{Node}
use Rattle.dc_sparse.specs.Nodes.{link, row_at, item, right_at, head_at, is_live}
use Rattle.dc_sparse.specs.Webs.{IsFree, IsTop, free_count, IsWoven, IsBlank, AreEmpty, AreFreed, top_of}
use Rattle.dc_sparse.specs.Entries.{IsPut, KeepsAll}
use Rattle.dc_sparse.proofs.SingleWrites.{IsWritten, at_same, at_other}
use Rattle.dc_sparse.proofs.FreeCounts.{free_count-first}

pub freed_start : (xs : List Node) → AreFreed xs (length xs) 0
freed_start xs = record { size = refl; row = λ a l. absurd (omega arith); item = λ a l. absurd (omega arith); right = λ a l. absurd (omega arith) }

pub freed_more : (xs ys : List Node) (long n : ℕ) (x : Node) → AreFreed xs long n → IsWritten xs ys n x → x.row ≡ n → value x.value ≡ of_ℤ (pos 0) → link x.right ≡ top_of n → AreFreed ys long (n + 1)
freed_more xs ys long n x h w r v t = record {
  size = w.long ∙ h.size;
  row = below_more (λ a. row_at ys a ≡ a) n (λ a l. w.row a ∙ at_other a n _ _ (omega arith) ∙ h.row a l) (w.row n ∙ at_same n _ _ ∙ r);
  item = below_more (λ a. item ys a ≡ of_ℤ (pos 0)) n (λ a l. w.item a ∙ at_other a n _ _ (omega arith) ∙ h.item a l) (w.item n ∙ at_same n _ _ ∙ v);
  right = below_more (λ a. right_at ys a ≡ top_of a) n (λ a l. w.right a ∙ at_other a n _ _ (omega arith) ∙ h.right a l) (w.right n ∙ at_same n _ _ ∙ t);
}

zero_dead : (q : ℚ) → q ≡ of_ℤ (pos 0) → not (is_zero q) ≡ false
zero_dead q e = ap (λ z. not (is_zero z)) e ∙ ap not (eq_ℚ-true (of_ℤ (pos 0)) (of_ℤ (pos 0)) refl)

item_past : (xs : List Node) (a : ℕ) → length xs ≤ a → item xs a ≡ of_ℤ (pos 0)
unfolding item
item_past [] a l = refl
item_past (x ∷ xs) zero l = absurd (omega arith)
item_past (x ∷ xs) (suc a) l = item_past xs a (omega arith)

pub freed_blank : (xs : List Node) (n : ℕ) → AreFreed xs n n → IsBlank xs
freed_blank xs n h a = elim (cases_Bool (nat_lt a n)) [
  | inl e ↦ zero_dead (item xs a) (h.item a (ltb-true a n e))
  | inr e ↦ (let l : n ≤ a = ltb-false a n e in let s = h.size in zero_dead (item xs a) (item_past xs a (omega arith)))
]

free_all-count : (xs : List Node) → IsBlank xs → free_count xs ≡ length xs
unfolding item
free_all-count [] h = refl
free_all-count (x ∷ xs) h = (let r = free_all-count xs (λ a. h (suc a)) in let e = free_count-first x xs (h 0) in omega arith)

module _ (xs : List Node) (rh ch : List (Option ℕ)) (height width n : ℕ) (h : AreFreed xs n n) (er : AreEmpty rh height) (ec : AreEmpty ch width) where
  blank : IsBlank xs
  blank = freed_blank xs n h

  not_live : (a : ℕ) → is_live xs a ≡ true → ⊥
  not_live a e = (let d = blank a in cc)

  all_free : (a : ℕ) → a < n → IsFree xs a
  all_free a l = (let s = h.size in record { inside = omega arith; dead = blank a })

  tops : (k : ℕ) → k ≤ n → IsTop xs k (top_of k)
  tops zero le = refl
  tops (suc k) le =
      let e : top_of (suc k) ≡ Some k = rw (ne_eqb (suc k) 0 (λ z. absurd (omega arith))) (let q : suc k - 1 ≡ k = omega arith in ap (λ z. Some z) q) in
      rw e (all_free k (omega arith), (let r = h.row k (omega arith) in omega arith))

  pub woven_blank : IsWoven xs rh ch (top_of n) n
  woven_blank =
      let s = h.size in
      let c = free_all-count xs blank in
      record {
        within = λ a e. absurd (not_live a e);
        rows = record { heads = λ i l. rw (er.none i) (λ a f. not_live a f.live); nexts = λ a e. absurd (not_live a e) };
        columns = record { heads = λ i l. rw (ec.none i) (λ a f. not_live a f.live); nexts = λ a e. absurd (not_live a e) };
        apart = λ a b e f g k. absurd (not_live a e);
        unused = record {
          top = tops n (omega arith);
          ranks = λ a f. (let l = f.inside in let r = h.row a (omega arith) in omega arith);
          nexts = λ a f. (let l = f.inside in rw (h.row a (omega arith), h.right a (omega arith)) (tops a (omega arith)));
          apart = λ a b f g e. (let l = f.inside in let m = g.inside in let r = h.row a (omega arith) in let q = h.row b (omega arith) in omega arith);
        };
        count = omega arith;
      }

-- ---- heads

pub empty_start : AreEmpty [] 0
unfolding head_at
empty_start = record { long = refl; none = λ l. refl }

head_append : (hs : List (Option ℕ)) (l : ℕ) → ((l : ℕ) → head_at hs l ≡ None) → head_at (hs ++ None ∷ []) l ≡ None
unfolding head_at
head_append [] zero h = refl
head_append [] (suc l) h = refl
head_append (x ∷ hs) zero h = h 0
head_append (x ∷ hs) (suc l) h = head_append hs l (λ m. h (suc m))

pub empty_more : (hs : List (Option ℕ)) (n : ℕ) → AreEmpty hs n → AreEmpty (hs ++ None ∷ []) (n + 1)
empty_more hs n h = (let l = h.long in record { long = omega (arith, length-append hs (None ∷ [])); none = λ l. head_append hs l h.none })

-- ---- an entry that comes after nodes did

pub keeps_put : (xs ys zs : List Node) (i k : ℕ) (v : ℚ) → KeepsAll xs ys → IsPut ys zs i k v → IsPut xs zs i k v
keeps_put xs ys zs i k v h p = record {
  here = p.here;
  others = λ a b ne. p.others a b ne ∙ h.entries a b;
  stays = λ n a b ne s. p.stays n a b ne (h.stays n a b s);
  stood = λ n a b ne s. h.stood n a b (p.stood n a b ne s);
}
