-- A web stays woven where a free node is taken to hold an entry.
use Rattle.std.proofs.Common.{◌≡◌, ◌≢◌, ℕ, ◌+◌, ◌-◌, ◌<◌, ◌≤◌, true, false, cond, not, ◌==◌, List, length, Option, Some, None, refl, sym, ◌∙◌, ap, subst, arith, inl, inr}
use Rattle.std.proofs.lemmas.Bool.{cases_Bool, eqb-true, eqb-false}
use Rattle.dc_math.specs.Tests.{is_zero}
use Rattle.dc_frac.specs.Value.{value}
use Rattle.dc_sparse.specs.declared.web.Node.{Node}
use Rattle.dc_sparse.specs.Lines.{Lines, IsFirst, IsLast, AreApart, link_after}
use Rattle.dc_sparse.specs.Nodes.{link, row_at, col_at, item, right_at, down_at, head_at, is_live, by_rows, by_columns, IsIn, IsRelinkedRight, IsRelinkedDown, AreReheaded}
use Rattle.dc_sparse.specs.Webs.{IsFree, IsTop, IsFreeList, AreWithin, IsWoven, IsVacant, IsSeated}
use Rattle.dc_sparse.proofs.Lines.{StandAs, IsInserted, inserted, apart_more}
use Rattle.dc_sparse.proofs.SingleWrites.{IsWritten, at_same, at_other}
use Rattle.dc_sparse.proofs.FreeCounts.{free_count-less}

-- what is linked behind a node that isn't `before`
pub relinked_other : (before to : Option ℕ) (a : ℕ) (o : Option ℕ) → ((p : ℕ) → before ≡ Some p → a ≢ p) → link_after before to a o ≡ o
relinked_other None to a o ne = refl
relinked_other (Some p) to a o ne = at_other a p to o (ne p refl)

-- the last node before an index is linked
pub last_live : (s : Lines) (i k : ℕ) (o : Option ℕ) (p : ℕ) → IsLast s i k o → o ≡ Some p → s.live p ≡ true
last_live s i k o p l e = (let f : IsLast s i k (Some p) = subst (IsLast s i k) e l in f.0.live)

-- so it is in the arena
pub last_in : (s : Lines) (i k : ℕ) (xs ys : List Node) (o : Option ℕ) → length ys ≡ length xs → ((a : ℕ) → s.live a ≡ true → a < length xs) → IsLast s i k o → IsIn ys o
last_in s i k xs ys None e h l = tt
last_in s i k xs ys (Some p) e h l = (let v = h p l.0.live in omega arith)

module _ (xs ws ys zs : List Node) (rh rh' ch ch' : List (Option ℕ)) (spare n : ℕ) (x : Node) (left above : Option ℕ)
    (woven : IsWoven xs rh ch (Some n) spare)
    (inside_row : x.row < length rh) (inside_col : x.col < length ch) (nonzero : is_zero (value x.value) ≡ false) (vacant : IsVacant xs x.row x.col)
    (last_left : IsLast (by_rows xs) x.row x.col left) (last_above : IsLast (by_columns xs) x.col x.row above)
    (first_right : IsFirst (by_rows xs) x.row x.col (link x.right)) (first_down : IsFirst (by_columns xs) x.col x.row (link x.down))
    (w : IsWritten xs ws n x) (r : IsRelinkedRight ws ys left (Some n)) (d : IsRelinkedDown ys zs above (Some n))
    (hr : AreReheaded rh rh' left x.row (Some n)) (hc : AreReheaded ch ch' above x.col (Some n)) where
  taken : IsFree xs n
  taken = woven.unused.top.0

  rank : row_at xs n + 1 ≡ spare
  rank = woven.unused.top.1

  row_all : (a : ℕ) → row_at zs a ≡ cond (a == n) x.row (row_at xs a)
  row_all a = d.row a ∙ r.row a ∙ w.row a

  col_all : (a : ℕ) → col_at zs a ≡ cond (a == n) x.col (col_at xs a)
  col_all a = d.col a ∙ r.col a ∙ w.col a

  item_all : (a : ℕ) → item zs a ≡ cond (a == n) (value x.value) (item xs a)
  item_all a = d.item a ∙ r.item a ∙ w.item a

  pub seated : IsSeated xs zs n x.row x.col (value x.value)
  seated = record {
    was = taken.dead;
    row = row_all n ∙ at_same n _ _;
    col = col_all n ∙ at_same n _ _;
    item = item_all n ∙ at_same n _ _;
    others = record {
      long = d.long ∙ r.long ∙ w.long;
      row = λ a ne. row_all a ∙ at_other a n _ _ ne;
      col = λ a ne. col_all a ∙ at_other a n _ _ ne;
      item = λ a ne. item_all a ∙ at_other a n _ _ ne;
    };
  }

  live_other : (a : ℕ) → a ≢ n → is_live zs a ≡ is_live xs a
  live_other a ne = ap (λ q. not (is_zero q)) (seated.others.item a ne)

  live_new : is_live zs n ≡ true
  live_new = ap (λ q. not (is_zero q)) seated.item ∙ ap not nonzero

  -- a linked node isn't n
  not_taken : (a : ℕ) → is_live xs a ≡ true → a ≢ n
  not_taken a la e = (let q : is_live xs a ≡ is_live xs n = ap (is_live xs) e in let f = taken.dead in cc)

  not_left : (p : ℕ) → left ≡ Some p → n ≢ p
  not_left p e q = not_taken p (last_live (by_rows xs) x.row x.col left p last_left e) (sym q)

  not_above : (p : ℕ) → above ≡ Some p → n ≢ p
  not_above p e q = not_taken p (last_live (by_columns xs) x.col x.row above p last_above e) (sym q)

  right_new : right_at zs n ≡ link x.right
  right_new = d.right n ∙ r.right n ∙ relinked_other left (Some n) n (right_at ws n) not_left ∙ w.right n ∙ at_same n _ _

  right_other : (a : ℕ) → a ≢ n → right_at zs a ≡ link_after left (Some n) a (right_at xs a)
  right_other a ne = d.right a ∙ r.right a ∙ ap (link_after left (Some n) a) (w.right a ∙ at_other a n _ _ ne)

  down_new : down_at zs n ≡ link x.down
  down_new = d.down n ∙ relinked_other above (Some n) n (down_at ys n) not_above ∙ r.down n ∙ w.down n ∙ at_same n _ _

  down_other : (a : ℕ) → a ≢ n → down_at zs a ≡ link_after above (Some n) a (down_at xs a)
  down_other a ne = d.down a ∙ ap (link_after above (Some n) a) (r.down a ∙ w.down a ∙ at_other a n _ _ ne)

  rows_stand : StandAs (by_rows xs) (by_rows zs) n
  rows_stand = record { live = live_other; line = seated.others.row; index = seated.others.col }

  columns_stand : StandAs (by_columns xs) (by_columns zs) n
  columns_stand = record { live = live_other; line = seated.others.col; index = seated.others.row }

  rows_in : IsInserted (by_rows xs) (by_rows zs) (head_at rh) (head_at rh') n x.row x.col left (link x.right)
  rows_in = record { others = rows_stand; dead = taken.dead; live = live_new; line = seated.row; index = seated.col; next = right_new; nexts = right_other; heads = hr.heads }

  columns_in : IsInserted (by_columns xs) (by_columns zs) (head_at ch) (head_at ch') n x.col x.row above (link x.down)
  columns_in = record { others = columns_stand; dead = taken.dead; live = live_new; line = seated.col; index = seated.row; next = down_new; nexts = down_other; heads = hc.heads }

  -- no two nodes at one cell, read by columns
  columns_apart : AreApart (by_columns xs)
  columns_apart a b la lb e f = woven.apart a b la lb f e

  -- ---- the free list

  still_free : (a : ℕ) → IsFree xs a → a ≢ n → IsFree zs a
  still_free a f ne = (let l = f.inside in let g = seated.others.long in record { inside = omega arith; dead = live_other a ne ∙ f.dead })

  free_other : (a : ℕ) → IsFree zs a → a ≢ n
  free_other a f e = (let q : is_live zs a ≡ is_live zs n = ap (is_live zs) e in let g = f.dead in let v = live_new in cc)

  was_free : (a : ℕ) → IsFree zs a → IsFree xs a
  was_free a f = (let l = f.inside in let g = seated.others.long in record { inside = omega arith; dead = sym (live_other a (free_other a f)) ∙ f.dead })

  top_same : (k : ℕ) (o : Option ℕ) → k ≤ row_at xs n → IsTop xs k o → IsTop zs k o
  top_same k None le t = t
  top_same k (Some f) le t =
      let ne : f ≢ n = (λ e. (let q : row_at xs f ≡ row_at xs n = ap (row_at xs) e in let u = t.1 in omega arith)) in
      (still_free f t.0 ne, ap (λ z. z + 1) (seated.others.row f ne) ∙ t.1)

  free_right : (a : ℕ) → IsFree xs a → a ≢ n → right_at zs a ≡ right_at xs a
  free_right a f ne = right_other a ne ∙ relinked_other left (Some n) a (right_at xs a)
      (λ p e q. (let v = last_live (by_rows xs) x.row x.col left p last_left e in let u : is_live xs a ≡ is_live xs p = ap (is_live xs) q in let g = f.dead in cc))

  unused : IsFreeList zs (right_at xs n) (spare - 1)
  unused =
      let rk = rank in
      record {
        top = (let e : spare - 1 ≡ row_at xs n = omega arith in rw e (top_same (row_at xs n) (right_at xs n) (omega arith) (woven.unused.nexts n taken)));
        ranks = λ a f.
            let g = was_free a f in
            let ne = free_other a f in
            let l = woven.unused.ranks a g in
            let v : row_at xs a ≢ row_at xs n = (λ e. ne (woven.unused.apart a n g taken e)) in
            let s = seated.others.row a ne in
            omega arith;
        nexts = λ a f.
            let g = was_free a f in
            let ne = free_other a f in
            let l = woven.unused.ranks a g in
            rw (seated.others.row a ne, free_right a g ne) (top_same (row_at xs a) (right_at xs a) (omega arith) (woven.unused.nexts a g));
        apart = λ a b f g e. woven.unused.apart a b (was_free a f) (was_free b g) (sym (seated.others.row a (free_other a f)) ∙ e ∙ seated.others.row b (free_other b g));
      }

  within : AreWithin zs (length rh') (length ch')
  within a la = elim (cases_Bool (a == n)) [
    | inl e ↦
        (let same : a ≡ n = eqb-true a n e in
        let i : row_at zs a ≡ x.row = ap (row_at zs) same ∙ seated.row in
        let k : col_at zs a ≡ x.col = ap (col_at zs) same ∙ seated.col in
        let lr = hr.long in
        let lc = hc.long in
        (omega arith, omega arith))
    | inr e ↦
        (let ne : a ≢ n = eqb-false a n e in
        let l = woven.within a (sym (live_other a ne) ∙ la) in
        let i = seated.others.row a ne in
        let k = seated.others.col a ne in
        let lr = hr.long in
        let lc = hc.long in
        (omega arith, omega arith))
  ]

  pub woven_more : IsWoven zs rh' ch' (right_at xs n) (spare - 1)
  woven_more =
      let c = free_count-less xs zs n seated.others.long taken.inside taken.dead live_new live_other in
      let o = woven.count in
      record {
        within = within;
        rows = rw hr.long (inserted (by_rows xs) (by_rows zs) (length rh) (head_at rh) (head_at rh') n x.row x.col left (link x.right) rows_in woven.apart vacant last_left first_right woven.rows);
        columns = rw hc.long (inserted (by_columns xs) (by_columns zs) (length ch) (head_at ch) (head_at ch') n x.col x.row above (link x.down) columns_in columns_apart (λ c lc e f. vacant c lc f e) last_above first_down woven.columns);
        apart = apart_more (by_rows xs) (by_rows zs) n x.row x.col rows_stand live_new seated.row seated.col vacant woven.apart;
        unused = unused;
        count = omega arith;
      }
