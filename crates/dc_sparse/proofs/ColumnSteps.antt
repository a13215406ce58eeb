-- The gaps of the rows that have an entry in a column are counted.
use Rattle.std.proofs.Common.{◌≡◌, ℕ, ◌+◌, ◌<◌, ◌≤◌, Bool, true, false, not, ◌&&◌, ◌||◌, ◌==◌, pos, List, Option, Some, None, refl, sym, ◌∙◌, ap, arith, add-one, inl, inr, eq-eqb, length}
use Rattle.std.proofs.lemmas.Bool.{cases_Bool, eqb-true}
use Rattle.dc_math.specs.Rational.{of_ℤ}
use Rattle.dc_math.specs.Tests.{is_zero, eq_ℚ-true}
use Rattle.dc_lp.specs.Fill.{count_below}
use Rattle.dc_lp.proofs.Belows.{or_true}
use Rattle.dc_sparse.specs.declared.web.Node.{Node}
use Rattle.dc_sparse.specs.Lines.{AreApart, AreLinked, IsFirst}
use Rattle.dc_sparse.specs.Nodes.{row_at, down_at, by_rows, by_columns}
use Rattle.dc_sparse.specs.Webs.{IsVacant}
use Rattle.dc_sparse.specs.Entries.{entry_at}
use Rattle.dc_sparse.specs.Rows.{row_gaps, rows_gaps}
use Rattle.dc_sparse.proofs.Links.{next_first}
use Rattle.dc_sparse.proofs.Entries.{entry-node, entry-vacant, item-live}
use Rattle.dc_lp.proofs.Counts.{count_below-same, count_below-none, count_cells-none}

-- above the next node of a column its entries are 0
pub gap_above : (xs : List Node) (col n : ℕ) (o : Option ℕ) → IsFirst (by_columns xs) col n o → (i : ℕ) → n ≤ i → ((m : ℕ) → o ≡ Some m → i < row_at xs m) → is_zero (entry_at xs i col) ≡ true
gap_above xs col n o f i le lt = ap is_zero (entry-vacant xs i col (vacant o f lt)) ∙ eq_ℚ-true (of_ℤ (pos 0)) (of_ℤ (pos 0)) refl
  where
    vacant : (o : Option ℕ) → IsFirst (by_columns xs) col n o → ((m : ℕ) → o ≡ Some m → i < row_at xs m) → IsVacant xs i col
    vacant None f lt c lc e q = f c (record { live = lc; line = q; index = omega arith })
    vacant (Some m) f lt c lc e q = (let w = f.1 c (record { live = lc; line = q; index = omega arith }) in let l = lt m refl in omega arith)

-- ---- the gaps of all rows are counted

pub record AreCounted (xs : List Node) (w pivot col count done : ℕ) (to : Option ℕ) : Type 0 where
  pub counted : count ≡ rows_gaps xs w pivot col done
  pub next : IsFirst (by_columns xs) col done to

pub counted_start : (xs : List Node) (w pivot col : ℕ) (to : Option ℕ) → IsFirst (by_columns xs) col 0 to → AreCounted xs w pivot col 0 0 to
unfolding rows_gaps
counted_start xs w pivot col to f = record { counted = refl; next = f }

-- a row without an entry in the column has no gap, nor has the pivot's row
no_gap : (xs : List Node) (w pivot col i : ℕ) → (i == pivot || is_zero (entry_at xs i col)) ≡ true → count_below w (λ k. is_zero (entry_at xs i k) && not (is_zero (entry_at xs i col)) && not (is_zero (entry_at xs pivot k))) ≡ 0
no_gap xs w pivot col i e = elim (cases_Bool (i == pivot)) [
  | inl q ↦ (let same : i ≡ pivot = eqb-true i pivot q in count_below-none _ 0 w (omega arith) (λ k l u. ap (λ x. is_zero (entry_at xs i k) && not (is_zero (entry_at xs i col)) && not (is_zero (entry_at xs x k))) (sym same) ∙ both (is_zero (entry_at xs i k)) (not (is_zero (entry_at xs i col)))))
  | inr q ↦ (let z : is_zero (entry_at xs i col) ≡ true = rw q at e in count_below-none _ 0 w (omega arith) (λ k l u. rw z (neither (is_zero (entry_at xs i k)) (not (is_zero (entry_at xs pivot k))))))
]
  where
    both : (a b : Bool) → a && b && not a ≡ false
    both true true = refl
    both true false = refl
    both false b = refl

    neither : (a b : Bool) → a && false && b ≡ false
    neither true b = refl
    neither false b = refl

counted_skip : (xs : List Node) (w pivot col m n : ℕ) (o : Option ℕ) → IsFirst (by_columns xs) col m o → m ≤ n → ((c : ℕ) → o ≡ Some c → n ≤ row_at xs c) → rows_gaps xs w pivot col n ≡ rows_gaps xs w pivot col m
unfolding rows_gaps
counted_skip xs w pivot col m n o f le lt = count_cells-none w _ m n le (λ i l u. no_gap xs w pivot col i (rw (gap_above xs col m o f i l (λ c e. (let v = lt c e in omega arith))) (or_true (i == pivot))))

module _ (xs : List Node) (w pivot col count done node : ℕ) (h : AreCounted xs w pivot col count done (Some node)) (one : AreApart (by_rows xs)) (inside : node < length xs) (lines : ℕ) (head : ℕ → Option ℕ) (linked : AreLinked (by_columns xs) lines head) where
  counted_here : rows_gaps xs w pivot col (row_at xs node) ≡ rows_gaps xs w pivot col done
  counted_here = counted_skip xs w pivot col done (row_at xs node) (Some node) h.next h.next.0.index (λ c e. (let q : row_at xs node ≡ row_at xs c = cc in omega arith))

  counted_next : IsFirst (by_columns xs) col (row_at xs node + 1) (down_at xs node)
  counted_next = next_first (by_columns xs) lines head col node linked (h.next.0.live, h.next.0.line)

  pub counted_entry : is_zero (entry_at xs (row_at xs node) col) ≡ false
  counted_entry = ap is_zero (entry-node xs node (row_at xs node) col inside one (record { live = h.next.0.live; row = refl; col = h.next.0.line })) ∙ item-live xs node h.next.0.live

  pub counted_pivot : row_at xs node ≡ pivot → AreCounted xs w pivot col count (row_at xs node + 1) (down_at xs node)
  unfolding rows_gaps
  counted_pivot e = record {
    counted = rw add-one (let c = h.counted in let s = counted_here in let z = no_gap xs w pivot col (row_at xs node) (rw (eq-eqb (row_at xs node) pivot e) refl) in omega arith);
    next = counted_next;
  }

  pub counted_more : AreCounted xs w pivot col (count + row_gaps xs (row_at xs node) pivot w) (row_at xs node + 1) (down_at xs node)
  unfolding rows_gaps row_gaps
  counted_more =
      let nz = counted_entry in
      let g : count_below w (λ k. is_zero (entry_at xs (row_at xs node) k) && not (is_zero (entry_at xs (row_at xs node) col)) && not (is_zero (entry_at xs pivot k))) ≡ count_below w (λ k. is_zero (entry_at xs (row_at xs node) k) && not (is_zero (entry_at xs pivot k))) =
      count_below-same _ _ w (λ k lk. rw nz (by (is_zero (entry_at xs (row_at xs node) k)) (not (is_zero (entry_at xs pivot k))))) in
      record {
        counted = rw add-one (let c = h.counted in let s = counted_here in omega arith);
        next = counted_next;
      }
    where
      by : (a b : Bool) → a && true && b ≡ a && b
      by true b = refl
      by false b = refl

pub counted_end : (xs : List Node) (w pivot col count done height : ℕ) → AreCounted xs w pivot col count done None → done ≤ height → count ≡ rows_gaps xs w pivot col height
counted_end xs w pivot col count done height h le = h.counted ∙ sym (counted_skip xs w pivot col done height None h.next le (λ c e. absurd (let r : ⊥ = cc in r)))

pub counted_so_far : (xs : List Node) (w pivot col count done : ℕ) (to : Option ℕ) → AreCounted xs w pivot col count done to → AreCounted xs w pivot col (rows_gaps xs w pivot col done) done to
counted_so_far xs w pivot col count done to h = record { counted = refl; next = h.next }
