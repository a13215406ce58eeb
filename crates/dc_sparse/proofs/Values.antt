-- A web stays woven where a linked node gets another value that isn't 0.
use Rattle.std.proofs.Common.{◌≡◌, ℕ, ◌+◌, ◌<◌, true, false, not, ◌==◌, List, length, Option, Some, None, sym, ◌∙◌, ap, arith, inl, inr}
use Rattle.std.proofs.lemmas.Bool.{cases_Bool, eqb-true, eqb-false}
use Rattle.dc_math.specs.Rational.{ℚ}
use Rattle.dc_math.specs.Tests.{is_zero}
use Rattle.dc_sparse.specs.declared.web.Node.{Node}
use Rattle.dc_sparse.specs.Nodes.{row_at, item, right_at, head_at, is_live, by_rows, by_columns}
use Rattle.dc_sparse.specs.Webs.{IsFree, IsTop, IsWoven}
use Rattle.dc_sparse.specs.Entries.{StandsAt, IsPut}
use Rattle.dc_sparse.proofs.Lines.{SameLines, linked_same, apart_same}
use Rattle.dc_sparse.proofs.SingleWrites.{IsRevalued, at_same, at_other}
use Rattle.dc_sparse.proofs.FreeCounts.{free_count-same}
use Rattle.dc_sparse.proofs.Entries.{put_by, entry-node}

module _ (xs ys : List Node) (rh ch : List (Option ℕ)) (free : Option ℕ) (spare n : ℕ) (v : ℚ)
    (woven : IsWoven xs rh ch free spare) (live : is_live xs n ≡ true) (nonzero : is_zero v ≡ false) (h : IsRevalued xs ys n v) where
  pub live_same : (a : ℕ) → is_live ys a ≡ is_live xs a
  live_same a = elim (cases_Bool (a == n)) [
    | inl e ↦
        (let same : a ≡ n = eqb-true a n e in
        let new : is_live ys n ≡ true = ap (λ q. not (is_zero q)) (h.item n ∙ at_same n v (item xs n)) ∙ ap not nonzero in
        ap (is_live ys) same ∙ new ∙ sym live ∙ ap (is_live xs) (sym same))
    | inr e ↦ ap (λ q. not (is_zero q)) (h.item a ∙ at_other a n v (item xs a) (eqb-false a n e))
  ]

  rows_same : SameLines (by_rows xs) (by_rows ys)
  rows_same = record { live = live_same; line = h.row; index = h.col; next = h.right }

  columns_same : SameLines (by_columns xs) (by_columns ys)
  columns_same = record { live = live_same; line = h.col; index = h.row; next = h.down }

  free_new : (a : ℕ) → IsFree xs a → IsFree ys a
  free_new a f = (let l = h.long in let i = f.inside in record { inside = omega arith; dead = live_same a ∙ f.dead })

  free_old : (a : ℕ) → IsFree ys a → IsFree xs a
  free_old a f = (let l = h.long in let i = f.inside in record { inside = omega arith; dead = sym (live_same a) ∙ f.dead })

  top_same : (k : ℕ) (o : Option ℕ) → IsTop xs k o → IsTop ys k o
  top_same k None t = t
  top_same k (Some f) t = (free_new f t.0, ap (λ z. z + 1) (h.row f) ∙ t.1)

  pub woven_same : IsWoven ys rh ch free spare
  woven_same = record {
    within = λ a la. (let l = woven.within a (sym (live_same a) ∙ la) in let i = h.row a in let k = h.col a in (omega arith, omega arith));
    rows = linked_same (by_rows xs) (by_rows ys) rows_same (length rh) (head_at rh) woven.rows;
    columns = linked_same (by_columns xs) (by_columns ys) columns_same (length ch) (head_at ch) woven.columns;
    apart = apart_same (by_rows xs) (by_rows ys) rows_same woven.apart;
    unused = record {
      top = top_same spare free woven.unused.top;
      ranks = λ a f. (let l = woven.unused.ranks a (free_old a f) in let i = h.row a in omega arith);
      nexts = λ a f. rw (h.row a, h.right a) (top_same (row_at xs a) (right_at xs a) (woven.unused.nexts a (free_old a f)));
      apart = λ a b f g e. woven.unused.apart a b (free_old a f) (free_old b g) (sym (h.row a) ∙ e ∙ h.row b);
    };
    count = woven.count ∙ sym (free_count-same xs ys h.long live_same);
  }

  pub put_revalued : (i k : ℕ) → n < length xs → StandsAt xs n i k → IsPut xs ys i k v
  put_revalued i k lt at =
      let there : StandsAt ys n i k = record { live = live_same n ∙ at.live; row = h.row n ∙ at.row; col = h.col n ∙ at.col } in
      put_by xs ys n i k (record { long = h.long; row = λ a ne. h.row a; col = λ a ne. h.col a; item = λ a ne. h.item a ∙ at_other a n v (item xs a) ne }) v
      (λ b c s. (sym s.row ∙ at.row, sym s.col ∙ at.col))
      (λ b c s. (sym s.row ∙ there.row, sym s.col ∙ there.col))
      (entry-node ys n i k (let l = h.long in omega arith) (apart_same (by_rows xs) (by_rows ys) rows_same woven.apart) there ∙ h.item n ∙ at_same n v (item xs n))

  pub stays_revalued : (m i k : ℕ) → StandsAt xs m i k → StandsAt ys m i k
  stays_revalued m i k s = record { live = live_same m ∙ s.live; row = h.row m ∙ s.row; col = h.col m ∙ s.col }
