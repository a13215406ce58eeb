-- A web's rows, columns and free nodes have their lists.
use Rattle.std.proofs.Common.{◌≡◌, ℕ, ◌<◌, ◌≤◌, nat_lt, true, false, List, [], Contains, refl, sym, ◌∙◌, ap, arith, inl, inr}
use Rattle.std.proofs.lemmas.Bool.{cases_Bool, ltb-true, ltb-false}
use Rattle.dc_sparse.specs.declared.web.Web.{Web}
use Rattle.dc_sparse.specs.Nodes.{row_at, col_at, is_live, by_rows, by_columns, head_at}
use Rattle.dc_sparse.specs.Chains.{IsListOf, IsFreeListOf}
use Rattle.dc_sparse.specs.declared.scaled.Scaled.{Scaled}
use Rattle.dc_math.specs.Inverse.{◌/ℚ◌}
use Rattle.dc_math.specs.Tests.{is_zero}
use Rattle.dc_sparse.specs.Entries.{entry_at}
use Rattle.dc_sparse.specs.Scales.{scale_at, den_of, scaled_at}
use Rattle.dc_sparse.proofs.Quotients.{zero_by}
use Rattle.dc_sparse.proofs.Wholes.{is_zero-zero}
use Rattle.dc_sparse.proofs.Scaling.{den_of-positive}
use Rattle.dc_sparse.specs.Held.{held_at, height_of, width_of, rows_of, columns_of}
use Rattle.dc_sparse.specs.Laws.{row_head, column_head, IsHeld, HasLists}
use Rattle.dc_sparse.proofs.SingleWrites.{item_live}
use Rattle.dc_sparse.proofs.Chains.{line_list, free_list, fall_dead}
use Rattle.dc_sparse.proofs.Entries.{entry-node, entry-vacant}

-- a list for each index below n
chosen : (n : ℕ) (P : ℕ → List ℕ → Type 0) → ((i : ℕ) → i < n → (xs : List ℕ) × P i xs) → (i : ℕ) → (xs : List ℕ) × (i < n → P i xs)
chosen n P h i = elim (cases_Bool (nat_lt i n)) [
  | inl e ↦ (let r : (xs : List ℕ) × P i xs = h i (ltb-true i n e) in (r.0, λ _. r.1))
  | inr e ↦ ([], λ l. (let g : n ≤ i = ltb-false i n e in absurd (omega arith)))
]

module _ (w : Web) where
  row_list : (i : ℕ) → (ys : List ℕ) × (i < height_of w → IsListOf (rows_of w) (row_head w i) i ys)
  row_list = chosen (height_of w) (λ i ys. IsListOf (rows_of w) (row_head w i) i ys)
      (λ i l. line_list (by_rows w.nodes.items) (height_of w) (width_of w) i (head_at w.row_heads.items) w.woven.rows w.woven.apart (λ a la. (w.woven.within a la).1) l)

  column_list : (k : ℕ) → (ys : List ℕ) × (k < width_of w → IsListOf (columns_of w) (column_head w k) k ys)
  column_list = chosen (width_of w) (λ k ys. IsListOf (columns_of w) (column_head w k) k ys)
      (λ k l. line_list (by_columns w.nodes.items) (width_of w) (height_of w) k (head_at w.col_heads.items) w.woven.columns (λ a b la lb e f. w.woven.apart a b la lb f e) (λ a la. (w.woven.within a la).0) l)

  free_one : (ys : List ℕ) × IsFreeListOf w.nodes.items w.free w.spare ys
  free_one = free_list w.nodes.items w.free w.spare w.woven.unused

  not_free : (a : ℕ) → is_live w.nodes.items a ≡ true → Contains free_one.0 a → ⊥
  not_free a la h =
      let d = fall_dead w.nodes.items w.spare free_one.0 h.0 a free_one.1.fall h.1 in
      let e : is_live w.nodes.items a ≡ false = ap (is_live w.nodes.items) (sym h.2) ∙ d in
      cc

held : (s : Scaled) → IsHeld s (λ i. (row_list s.web i).0) (λ k. (column_list s.web k).0) (free_one s.web).0
unfolding held_at scaled_at
held s = record {
  row_lists = λ i l. (row_list s.web i).1 l;
  column_lists = λ k l. (column_list s.web k).1 l;
  free_list = (free_one s.web).1;
  linked = λ a l la. (
    ((row_list s.web (row_at s.web.nodes.items a)).1 (s.web.woven.within a la).0).all a (record { live = la; line = refl; index = omega arith }),
    ((column_list s.web (col_at s.web.nodes.items a)).1 (s.web.woven.within a la).1).all a (record { live = la; line = refl; index = omega arith }),
    not_free s.web a la,
  );
  unused = λ a l d. (free_one s.web).1.all a (record { inside = l; dead = d });
  values = λ a i k t. ap (λ x. x /ℚ den_of (scale_at s.dens.items i)) (entry-node s.web.nodes.items a i k (item_live s.web.nodes.items a t.live) s.web.woven.apart t);
  zeros = λ i k v. zero_by (entry_at s.web.nodes.items i k) (den_of (scale_at s.dens.items i)) (ap is_zero (entry-vacant s.web.nodes.items i k v) ∙ is_zero-zero);
  dens = λ i. den_of-positive (scale_at s.dens.items i) (entry_at s.web.nodes.items i) (s.scaled.rows i);
}

pub has_lists : HasLists
has_lists c = (λ i. (row_list c.held.web i).0, λ k. (column_list c.held.web k).0, (free_one c.held.web).0, held c.held)
