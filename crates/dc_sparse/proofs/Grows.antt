-- A web stays woven where the arena gets a free node more.
use Rattle.std.proofs.Common.{◌≡◌, ◌≢◌, ℕ, ◌+◌, ◌<◌, true, false, not, ◌==◌, pos, List, [], ◌∷◌, ◌++◌, length, Option, Some, None, refl, sym, ◌∙◌, ap, subst, arith, inl, inr}
use Rattle.std.proofs.lemmas.Bool.{cases_Bool, eqb-true, eqb-false}
use Rattle.dc_math.specs.Rational.{of_ℤ}
use Rattle.dc_math.specs.Tests.{is_zero, eq_ℚ-true}
use Rattle.dc_frac.specs.Value.{value}
use Rattle.dc_sparse.specs.declared.web.Node.{Node}
use Rattle.dc_sparse.specs.Nodes.{link, row_at, col_at, right_at, head_at, is_live, by_rows, by_columns}
use Rattle.dc_sparse.specs.Webs.{IsFree, IsTop, IsFreeList, IsWoven}
use Rattle.dc_sparse.specs.Entries.{KeepsAll}
use Rattle.dc_sparse.proofs.Lines.{StandAs, linked_all, apart_less}
use Rattle.dc_sparse.proofs.SingleWrites.{IsAppended, appended, item_live, at_same, at_other}
use Rattle.dc_sparse.proofs.FreeCounts.{free_count-more}
use Rattle.dc_sparse.proofs.Entries.{entry_appended}

module _ (xs : List Node) (rh ch : List (Option ℕ)) (free : Option ℕ) (spare n : ℕ) (x : Node)
    (woven : IsWoven xs rh ch free spare) (zero_now : value x.value ≡ of_ℤ (pos 0)) (rank_now : x.row ≡ spare) (next_now : link x.right ≡ free) (end : n ≡ length xs) where
  abbrev ys : List Node
  ys = xs ++ x ∷ []

  h : IsAppended xs ys n x
  h = appended xs n x end

  zero_dead : not (is_zero (value x.value)) ≡ false
  zero_dead = ap (λ q. not (is_zero q)) zero_now ∙ ap not (eq_ℚ-true (of_ℤ (pos 0)) (of_ℤ (pos 0)) refl)

  live_other : (a : ℕ) → a ≢ n → is_live ys a ≡ is_live xs a
  live_other a ne = ap (λ q. not (is_zero q)) (h.item a ∙ at_other a n _ _ ne)

  dead_new : is_live ys n ≡ false
  dead_new = ap (λ q. not (is_zero q)) (h.item n ∙ at_same n _ _) ∙ zero_dead

  not_old : (a : ℕ) → is_live xs a ≡ true → a ≢ n
  not_old a la e = (let l = item_live xs a la in let q = end in omega arith)

  dead_old : is_live xs n ≡ false
  dead_old = elim (cases_Bool (is_live xs n)) [ inl e ↦ absurd (not_old n e refl) | inr e ↦ e ]

  row_other : (a : ℕ) → a ≢ n → row_at ys a ≡ row_at xs a
  row_other a ne = h.row a ∙ at_other a n _ _ ne

  col_other : (a : ℕ) → a ≢ n → col_at ys a ≡ col_at xs a
  col_other a ne = h.col a ∙ at_other a n _ _ ne

  rows_stand : StandAs (by_rows xs) (by_rows ys) n
  rows_stand = record { live = live_other; line = row_other; index = col_other }

  columns_stand : StandAs (by_columns xs) (by_columns ys) n
  columns_stand = record { live = live_other; line = col_other; index = row_other }

  -- ---- the free list

  free_now : IsFree ys n
  free_now = (let l = h.long in let e = end in record { inside = omega arith; dead = dead_new })

  free_old : (a : ℕ) → IsFree xs a → a ≢ n
  free_old a f e = (let l = f.inside in let q = end in omega arith)

  still_free : (a : ℕ) → IsFree xs a → IsFree ys a
  still_free a f = (let l = f.inside in let g = h.long in record { inside = omega arith; dead = live_other a (free_old a f) ∙ f.dead })

  was_free : (a : ℕ) → a ≢ n → IsFree ys a → IsFree xs a
  was_free a ne f = (let l = f.inside in let g = h.long in let e = end in record { inside = omega arith; dead = sym (live_other a ne) ∙ f.dead })

  top_same : (k : ℕ) (o : Option ℕ) → IsTop xs k o → IsTop ys k o
  top_same k None t = t
  top_same k (Some f) t = (still_free f t.0, ap (λ z. z + 1) (row_other f (free_old f t.0)) ∙ t.1)

  row_now : row_at ys n ≡ spare
  row_now = h.row n ∙ at_same n _ _ ∙ rank_now

  right_now : right_at ys n ≡ free
  right_now = h.right n ∙ at_same n _ _ ∙ next_now

  lower : (a : ℕ) → a ≢ n → IsFree ys a → row_at ys a < spare
  lower a ne f = (let l = woven.unused.ranks a (was_free a ne f) in let s = row_other a ne in omega arith)

  unused : IsFreeList ys (Some n) (spare + 1)
  unused = record {
    top = (free_now, ap (λ z. z + 1) row_now);
    ranks = λ a f. elim (cases_Bool (a == n)) [
      | inl e ↦ (let q : row_at ys a ≡ row_at ys n = ap (row_at ys) (eqb-true a n e) in let s = row_now in omega arith)
      | inr e ↦ (let l = lower a (eqb-false a n e) f in omega arith)
    ];
    nexts = λ a f. elim (cases_Bool (a == n)) [
      | inl e ↦ subst (λ z. IsTop ys (row_at ys z) (right_at ys z)) (sym (eqb-true a n e)) (rw (row_now, right_now) (top_same spare free woven.unused.top))
      | inr e ↦
          (let ne : a ≢ n = eqb-false a n e in
          rw (row_other a ne, h.right a ∙ at_other a n _ _ ne) (top_same (row_at xs a) (right_at xs a) (woven.unused.nexts a (was_free a ne f))))
    ];
    apart = λ a b f g e. elim (cases_Bool (a == n)) [
      | inl p ↦ (let sa : a ≡ n = eqb-true a n p in elim (cases_Bool (b == n)) [
        | inl q ↦ sa ∙ sym (eqb-true b n q)
        | inr q ↦ (let l = lower b (eqb-false b n q) g in let u : row_at ys a ≡ row_at ys n = ap (row_at ys) sa in let s = row_now in absurd (omega arith))
      ])
      | inr p ↦ (let na : a ≢ n = eqb-false a n p in elim (cases_Bool (b == n)) [
        | inl q ↦ (let l = lower a na f in let u : row_at ys b ≡ row_at ys n = ap (row_at ys) (eqb-true b n q) in let s = row_now in absurd (omega arith))
        | inr q ↦ (let nb : b ≢ n = eqb-false b n q in
            woven.unused.apart a b (was_free a na f) (was_free b nb g) (sym (row_other a na) ∙ e ∙ row_other b nb))
      ])
    ];
  }

  live_new : (a : ℕ) → is_live ys a ≡ true → a ≢ n
  live_new a la e = (let q : is_live ys a ≡ is_live ys n = ap (is_live ys) e in let d = dead_new in cc)

  pub woven_grown : IsWoven ys rh ch (Some n) (spare + 1)
  woven_grown =
      let c = free_count-more xs x zero_dead in
      let o = woven.count in
      record {
        within = λ a la.
            let ne = live_new a la in
            let l = woven.within a (sym (live_other a ne) ∙ la) in
            let i = row_other a ne in
            let k = col_other a ne in
            (omega arith, omega arith);
        rows = linked_all (by_rows xs) (by_rows ys) n rows_stand dead_old dead_new (length rh) (head_at rh) (λ a ne. h.right a ∙ at_other a n _ _ ne) woven.rows;
        columns = linked_all (by_columns xs) (by_columns ys) n columns_stand dead_old dead_new (length ch) (head_at ch) (λ a ne. h.down a ∙ at_other a n _ _ ne) woven.columns;
        apart = apart_less (by_rows xs) (by_rows ys) n rows_stand dead_new woven.apart;
        unused = unused;
        count = omega arith;
      }

  pub keeps_grown : KeepsAll xs ys
  keeps_grown = record {
    entries = λ a b. entry_appended xs x a b zero_now;
    stays = λ m a b s. (let ne = not_old m s.live in record { live = live_other m ne ∙ s.live; row = row_other m ne ∙ s.row; col = col_other m ne ∙ s.col });
    stood = λ m a b s. (let ne = live_new m s.live in record { live = sym (live_other m ne) ∙ s.live; row = sym (row_other m ne) ∙ s.row; col = sym (col_other m ne) ∙ s.col });
  }
