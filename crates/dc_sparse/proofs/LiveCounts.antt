-- The linked nodes are as many as the entries that aren't 0.
use Rattle.std.proofs.Common.{◌≡◌, ℕ, suc, ◌+◌, ◌-◌, ◌<◌, true, false, not, pos, List, [], ◌∷◌, length, refl, sym, ◌∙◌, ap, arith, inl, inr}
use Rattle.std.proofs.lemmas.Bool.{cases_Bool}
use Rattle.dc_math.specs.Rational.{ℚ, of_ℤ, ◌+ℚ◌, +ℚ-zero, zero-+ℚ}
use Rattle.dc_math.specs.Tests.{is_zero, eq_ℚ-true}
use Rattle.dc_frac.specs.Value.{value}
use Rattle.dc_lp.specs.Fill.{count_cells}
use Rattle.dc_sparse.specs.declared.web.Node.{Node}
use Rattle.dc_sparse.specs.Lines.{AreApart}
use Rattle.dc_sparse.specs.Nodes.{row_at, col_at, item, by_rows}
use Rattle.dc_sparse.specs.Webs.{IsVacant, AreWithin, free_count}
use Rattle.dc_sparse.specs.Entries.{share, entry_at}
use Rattle.dc_sparse.specs.Sizes.{held_count, live_count}
use Rattle.dc_sparse.proofs.Entries.{entry-vacant, gives-elsewhere, gives-here, gives-dead}
use Rattle.dc_sparse.proofs.FreeCounts.{free_count-cons, weight-live, weight-dead}
use Rattle.dc_lp.proofs.Counts.{count_cells-empty, count_cells-more, count_cells-same}

-- the nodes stand within h rows and w columns, no two at one cell
record AreSpread (xs : List Node) (h w : ℕ) : Type 0 where
  apart : AreApart (by_rows xs)
  within : AreWithin xs h w

spread_rest : (x : Node) (xs : List Node) (h w : ℕ) → AreSpread (x ∷ xs) h w → AreSpread xs h w
unfolding row_at col_at item
spread_rest x xs h w s = record {
  apart = λ a b la lb e f. (let q : suc a ≡ suc b = s.apart (suc a) (suc b) la lb e f in omega arith);
  within = λ a la. s.within (suc a) la;
}

-- no node behind the first one stands at its cell
rest_vacant : (x : Node) (xs : List Node) → AreApart (by_rows (x ∷ xs)) → not (is_zero (value x.value)) ≡ true → IsVacant xs x.row x.col
unfolding row_at col_at item
rest_vacant x xs apart live c lc e f = (let q : 0 ≡ suc c = apart 0 (suc c) live lc (sym e) (sym f) in omega arith)

first_within : (x : Node) (xs : List Node) (h w : ℕ) → AreWithin (x ∷ xs) h w → not (is_zero (value x.value)) ≡ true → (x.row < h) × (x.col < w)
unfolding row_at col_at item
first_within x xs h w within live = within 0 live

-- ---- what the first node gives

entry-first : (x : Node) (xs : List Node) (i k : ℕ) → entry_at (x ∷ xs) i k ≡ share x i k +ℚ entry_at xs i k
unfolding entry_at
entry-first x xs i k = refl

share-elsewhere : (x : Node) (i k : ℕ) → (x.row ≡ i → x.col ≡ k → ⊥) → share x i k ≡ of_ℤ (pos 0)
unfolding row_at col_at item
share-elsewhere x i k ne = gives-elsewhere (x ∷ []) 0 i k ne

share-here : (x : Node) → share x x.row x.col ≡ value x.value
unfolding row_at col_at item
share-here x = gives-here (x ∷ []) 0 x.row x.col refl refl

share-dead : (x : Node) (i k : ℕ) → not (is_zero (value x.value)) ≡ false → share x i k ≡ of_ℤ (pos 0)
unfolding row_at col_at item
share-dead x i k dead = gives-dead (x ∷ []) 0 i k dead

entry-rest : (x : Node) (xs : List Node) (i k : ℕ) → share x i k ≡ of_ℤ (pos 0) → entry_at (x ∷ xs) i k ≡ entry_at xs i k
entry-rest x xs i k e = entry-first x xs i k ∙ ap (λ q. q +ℚ entry_at xs i k) e ∙ zero-+ℚ (entry_at xs i k)

entry-here : (x : Node) (xs : List Node) → entry_at xs x.row x.col ≡ of_ℤ (pos 0) → entry_at (x ∷ xs) x.row x.col ≡ value x.value
entry-here x xs e = entry-first x xs x.row x.col ∙ ap (λ q. share x x.row x.col +ℚ q) e ∙ +ℚ-zero (share x x.row x.col) ∙ share-here x

zero-test : (q : ℚ) → q ≡ of_ℤ (pos 0) → not (is_zero q) ≡ false
zero-test q e = ap (λ z. not (is_zero z)) e ∙ ap not (eq_ℚ-true (of_ℤ (pos 0)) (of_ℤ (pos 0)) refl)

entry-none : (i k : ℕ) → entry_at [] i k ≡ of_ℤ (pos 0)
unfolding entry_at
entry-none i k = refl

entries-count : (xs : List Node) (h w : ℕ) → AreSpread xs h w → held_count xs h w + free_count xs ≡ length xs
unfolding held_count
entries-count [] h w s =
    let e = count_cells-empty (λ i k. not (is_zero (entry_at [] i k))) h w (λ i k. zero-test (entry_at [] i k) (entry-none i k)) in
    let f : free_count [] ≡ 0 = refl in
    omega arith
entries-count (x ∷ xs) h w s =
    let r : count_cells h w (λ i k. not (is_zero (entry_at xs i k))) + free_count xs ≡ length xs = entries-count xs h w (spread_rest x xs h w s) in
    let f = free_count-cons x xs in
    elim (cases_Bool (not (is_zero (value x.value)))) [
      | inl live ↦
          (let inside = first_within x xs h w s.within live in
          let zero = entry-vacant xs x.row x.col (rest_vacant x xs s.apart live) in
          let m = count_cells-more (λ i k. not (is_zero (entry_at xs i k))) (λ i k. not (is_zero (entry_at (x ∷ xs) i k))) h w x.row x.col inside.0 inside.1
          (zero-test (entry_at xs x.row x.col) zero) (ap (λ q. not (is_zero q)) (entry-here x xs zero) ∙ live)
          (λ a b ne. ap (λ q. not (is_zero q)) (entry-rest x xs a b (share-elsewhere x a b (λ p q. ne (sym p) (sym q))))) in
          let l = weight-live x live in
          omega arith)
      | inr dead ↦
          (let m = count_cells-same (λ i k. not (is_zero (entry_at (x ∷ xs) i k))) (λ i k. not (is_zero (entry_at xs i k))) h w
          (λ i k li lk. ap (λ q. not (is_zero q)) (entry-rest x xs i k (share-dead x i k dead))) in
          let l = weight-dead x dead in
          omega arith)
    ]

pub live_count-entries : (xs : List Node) (h w : ℕ) → AreApart (by_rows xs) → AreWithin xs h w → live_count xs ≡ held_count xs h w
live_count-entries xs h w apart within = (let e = entries-count xs h w (record { apart = apart; within = within }) in omega arith)

-- the same, where the number of free nodes has another name
pub linked-entries : (xs : List Node) (h w spare : ℕ) → AreApart (by_rows xs) → AreWithin xs h w → spare ≡ free_count xs → length xs - spare ≡ held_count xs h w
linked-entries xs h w spare apart within e = (let c = entries-count xs h w (record { apart = apart; within = within }) in omega arith)
