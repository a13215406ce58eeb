-- A web stays woven where a node is freed.
use Rattle.std.proofs.Common.{◌≡◌, ◌≢◌, ℕ, ◌+◌, ◌<◌, true, false, cond, not, ◌==◌, pos, List, length, Option, Some, None, refl, sym, ◌∙◌, ap, subst, arith, inl, inr}
use Rattle.std.proofs.lemmas.Bool.{cases_Bool, eqb-true, eqb-false}
use Rattle.dc_math.specs.Rational.{of_ℤ}
use Rattle.dc_math.specs.Tests.{is_zero, eq_ℚ-true}
use Rattle.dc_frac.specs.Value.{value}
use Rattle.dc_sparse.specs.declared.web.Node.{Node}
use Rattle.dc_sparse.specs.Lines.{IsLast, AreApart, link_after}
use Rattle.dc_sparse.specs.Nodes.{link, row_at, col_at, item, right_at, down_at, head_at, is_live, by_rows, by_columns, IsRelinkedRight, IsRelinkedDown, AreReheaded}
use Rattle.dc_sparse.specs.Webs.{IsFree, IsTop, IsFreeList, AreWithin, IsWoven, IsCleared}
use Rattle.dc_sparse.proofs.Lines.{StandAs, IsRemoved, removed, apart_less}
use Rattle.dc_sparse.proofs.SingleWrites.{IsWritten, at_same, at_other, item_live}
use Rattle.dc_sparse.proofs.FreeCounts.{free_count-less}
use Rattle.dc_sparse.proofs.Inserts.{relinked_other, last_live}

module _ (xs ws ys zs : List Node) (rh rh' ch ch' : List (Option ℕ)) (free : Option ℕ) (spare n : ℕ) (x : Node) (left above : Option ℕ)
    (woven : IsWoven xs rh ch free spare) (live : is_live xs n ≡ true)
    (zero_now : value x.value ≡ of_ℤ (pos 0)) (rank_now : x.row ≡ spare) (next_now : link x.right ≡ free)
    (last_left : IsLast (by_rows xs) (row_at xs n) (col_at xs n) left) (last_above : IsLast (by_columns xs) (col_at xs n) (row_at xs n) above)
    (w : IsWritten xs ws n x) (r : IsRelinkedRight ws ys left (right_at xs n)) (d : IsRelinkedDown ys zs above (down_at xs n))
    (hr : AreReheaded rh rh' left (row_at xs n) (right_at xs n)) (hc : AreReheaded ch ch' above (col_at xs n) (down_at xs n)) where
  row_all : (a : ℕ) → row_at zs a ≡ cond (a == n) x.row (row_at xs a)
  row_all a = d.row a ∙ r.row a ∙ w.row a

  col_all : (a : ℕ) → col_at zs a ≡ cond (a == n) x.col (col_at xs a)
  col_all a = d.col a ∙ r.col a ∙ w.col a

  item_all : (a : ℕ) → item zs a ≡ cond (a == n) (value x.value) (item xs a)
  item_all a = d.item a ∙ r.item a ∙ w.item a

  pub cleared : IsCleared xs zs n
  cleared = record {
    item = item_all n ∙ at_same n _ _ ∙ zero_now;
    others = record {
      long = d.long ∙ r.long ∙ w.long;
      row = λ a ne. row_all a ∙ at_other a n _ _ ne;
      col = λ a ne. col_all a ∙ at_other a n _ _ ne;
      item = λ a ne. item_all a ∙ at_other a n _ _ ne;
    };
  }

  live_other : (a : ℕ) → a ≢ n → is_live zs a ≡ is_live xs a
  live_other a ne = ap (λ q. not (is_zero q)) (cleared.others.item a ne)

  dead_now : is_live zs n ≡ false
  dead_now = ap (λ q. not (is_zero q)) cleared.item ∙ ap not (eq_ℚ-true (of_ℤ (pos 0)) (of_ℤ (pos 0)) refl)

  -- the node before n isn't n
  not_left : (p : ℕ) → left ≡ Some p → n ≢ p
  not_left p e q =
      let l : IsLast (by_rows xs) (row_at xs n) (col_at xs n) (Some p) = subst (IsLast (by_rows xs) (row_at xs n) (col_at xs n)) e last_left in
      let f = l.0.index in
      let g : col_at xs n ≡ col_at xs p = ap (col_at xs) q in
      omega arith

  not_above : (p : ℕ) → above ≡ Some p → n ≢ p
  not_above p e q =
      let l : IsLast (by_columns xs) (col_at xs n) (row_at xs n) (Some p) = subst (IsLast (by_columns xs) (col_at xs n) (row_at xs n)) e last_above in
      let f = l.0.index in
      let g : row_at xs n ≡ row_at xs p = ap (row_at xs) q in
      omega arith

  right_other : (a : ℕ) → a ≢ n → right_at zs a ≡ link_after left (right_at xs n) a (right_at xs a)
  right_other a ne = d.right a ∙ r.right a ∙ ap (link_after left (right_at xs n) a) (w.right a ∙ at_other a n _ _ ne)

  right_now : right_at zs n ≡ free
  right_now = d.right n ∙ r.right n ∙ relinked_other left (right_at xs n) n (right_at ws n) not_left ∙ w.right n ∙ at_same n _ _ ∙ next_now

  down_other : (a : ℕ) → a ≢ n → down_at zs a ≡ link_after above (down_at xs n) a (down_at xs a)
  down_other a ne = d.down a ∙ ap (link_after above (down_at xs n) a) (r.down a ∙ w.down a ∙ at_other a n _ _ ne)

  rows_stand : StandAs (by_rows xs) (by_rows zs) n
  rows_stand = record { live = live_other; line = cleared.others.row; index = cleared.others.col }

  columns_stand : StandAs (by_columns xs) (by_columns zs) n
  columns_stand = record { live = live_other; line = cleared.others.col; index = cleared.others.row }

  rows_out : IsRemoved (by_rows xs) (by_rows zs) (head_at rh) (head_at rh') n (row_at xs n) (col_at xs n) left
  rows_out = record { others = rows_stand; live = live; line = refl; index = refl; dead = dead_now; nexts = right_other; heads = hr.heads }

  columns_out : IsRemoved (by_columns xs) (by_columns zs) (head_at ch) (head_at ch') n (col_at xs n) (row_at xs n) above
  columns_out = record { others = columns_stand; live = live; line = refl; index = refl; dead = dead_now; nexts = down_other; heads = hc.heads }

  columns_apart : AreApart (by_columns xs)
  columns_apart a b la lb e f = woven.apart a b la lb f e

  -- ---- the free list

  inside : n < length xs
  inside = item_live xs n live

  free_now : IsFree zs n
  free_now = (let l = inside in let g = cleared.others.long in record { inside = omega arith; dead = dead_now })

  free_old : (a : ℕ) → IsFree xs a → a ≢ n
  free_old a f e = (let q : is_live xs a ≡ is_live xs n = ap (is_live xs) e in let g = f.dead in let v = live in cc)

  still_free : (a : ℕ) → IsFree xs a → IsFree zs a
  still_free a f = (let l = f.inside in let g = cleared.others.long in record { inside = omega arith; dead = live_other a (free_old a f) ∙ f.dead })

  was_free : (a : ℕ) → a ≢ n → IsFree zs a → IsFree xs a
  was_free a ne f = (let l = f.inside in let g = cleared.others.long in record { inside = omega arith; dead = sym (live_other a ne) ∙ f.dead })

  top_same : (k : ℕ) (o : Option ℕ) → IsTop xs k o → IsTop zs k o
  top_same k None t = t
  top_same k (Some f) t = (still_free f t.0, ap (λ z. z + 1) (cleared.others.row f (free_old f t.0)) ∙ t.1)

  free_right : (a : ℕ) → IsFree xs a → right_at zs a ≡ right_at xs a
  free_right a f = right_other a (free_old a f) ∙ relinked_other left (right_at xs n) a (right_at xs a)
      (λ p e q. (let v = last_live (by_rows xs) (row_at xs n) (col_at xs n) left p last_left e in let u : is_live xs a ≡ is_live xs p = ap (is_live xs) q in let g = f.dead in cc))

  row_now : row_at zs n ≡ spare
  row_now = row_all n ∙ at_same n _ _ ∙ rank_now

  -- a free node other than n has a lower rank
  lower : (a : ℕ) → a ≢ n → IsFree zs a → row_at zs a < spare
  lower a ne f = (let l = woven.unused.ranks a (was_free a ne f) in let s = cleared.others.row a ne in omega arith)

  unused : IsFreeList zs (Some n) (spare + 1)
  unused = record {
    top = (free_now, ap (λ z. z + 1) row_now);
    ranks = λ a f. elim (cases_Bool (a == n)) [
      | inl e ↦ (let q : row_at zs a ≡ row_at zs n = ap (row_at zs) (eqb-true a n e) in let s = row_now in omega arith)
      | inr e ↦ (let l = lower a (eqb-false a n e) f in omega arith)
    ];
    nexts = λ a f. elim (cases_Bool (a == n)) [
      | inl e ↦ subst (λ z. IsTop zs (row_at zs z) (right_at zs z)) (sym (eqb-true a n e)) (rw (row_now, right_now) (top_same spare free woven.unused.top))
      | inr e ↦
          (let ne : a ≢ n = eqb-false a n e in
          let g = was_free a ne f in
          rw (cleared.others.row a ne, free_right a g) (top_same (row_at xs a) (right_at xs a) (woven.unused.nexts a g)))
    ];
    apart = λ a b f g e. elim (cases_Bool (a == n)) [
      | inl p ↦ (let sa : a ≡ n = eqb-true a n p in elim (cases_Bool (b == n)) [
        | inl q ↦ sa ∙ sym (eqb-true b n q)
        | inr q ↦ (let l = lower b (eqb-false b n q) g in let u : row_at zs a ≡ row_at zs n = ap (row_at zs) sa in let s = row_now in absurd (omega arith))
      ])
      | inr p ↦ (let na : a ≢ n = eqb-false a n p in elim (cases_Bool (b == n)) [
        | inl q ↦ (let l = lower a na f in let u : row_at zs b ≡ row_at zs n = ap (row_at zs) (eqb-true b n q) in let s = row_now in absurd (omega arith))
        | inr q ↦ (let nb : b ≢ n = eqb-false b n q in
            woven.unused.apart a b (was_free a na f) (was_free b nb g) (sym (cleared.others.row a na) ∙ e ∙ cleared.others.row b nb))
      ])
    ];
  }

  within : AreWithin zs (length rh') (length ch')
  within a la =
      let ne : a ≢ n = (λ e. (let q : is_live zs a ≡ is_live zs n = ap (is_live zs) e in let v = dead_now in cc)) in
      let l = woven.within a (sym (live_other a ne) ∙ la) in
      let i = cleared.others.row a ne in
      let k = cleared.others.col a ne in
      let lr = hr.long in
      let lc = hc.long in
      (omega arith, omega arith)

  pub woven_less : IsWoven zs rh' ch' (Some n) (spare + 1)
  woven_less =
      let g = cleared.others.long in
      let l = inside in
      let c = free_count-less zs xs n (sym cleared.others.long) (omega arith) dead_now live (λ a ne. sym (live_other a ne)) in
      let o = woven.count in
      record {
        within = within;
        rows = rw hr.long (removed (by_rows xs) (by_rows zs) (length rh) (head_at rh) (head_at rh') n (row_at xs n) (col_at xs n) left rows_out woven.apart last_left woven.rows);
        columns = rw hc.long (removed (by_columns xs) (by_columns zs) (length ch) (head_at ch) (head_at ch') n (col_at xs n) (row_at xs n) above columns_out columns_apart last_above woven.columns);
        apart = apart_less (by_rows xs) (by_rows zs) n rows_stand dead_now woven.apart;
        unused = unused;
        count = omega arith;
      }
