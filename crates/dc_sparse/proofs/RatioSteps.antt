-- The row that leaves, sought down a column.
use Rattle.std.proofs.Common.{◌≡◌, ℕ, zero, suc, ◌+◌, ◌<◌, ◌≤◌, true, false, nat_lt, pos, List, [], length, slice_index_or, Option, Some, Ok, Err, refl, sym, ◌∙◌, ap, ap₂, subst, arith, inl, inr}
use Rattle.std.proofs.lemmas.Bool.{cases_Bool, ltb-true, ltb-false}
use Rattle.std.proofs.lemmas.List.FromFn.{get_or-map-range_with_len}
use Rattle.dc_math.specs.Rational.{ℚ, of_ℤ, ≤ℚ_refl}
use Rattle.dc_math.specs.Tests.{is_zero, is_positive, eq_ℚ_true, lt_ℚ-false}
use Rattle.dc_math.specs.Inverse.{◌/ℚ◌}
use Rattle.dc_frac.specs.Fits.{quotient_fits}
use Rattle.dc_frac.specs.Value.{value}
use Rattle.dc_lp.specs.Tables.{Table, made}
use Rattle.dc_lp.specs.Meanings.{at, right, ratio_answer}
use Rattle.dc_start.specs.declared.ratio.Candidate.{Candidate}
use Rattle.dc_start.specs.Ratios.{IsCandidate, IsBestOf, better, row_of}
use Rattle.dc_start.proofs.Ratios.{best-skip, best-more, best-past, best-all}
use Rattle.dc_sparse.specs.declared.web.Node.{Node}
use Rattle.dc_sparse.specs.Lines.{IsFirst, AreApart}
use Rattle.dc_sparse.specs.Nodes.{row_at, item, by_rows, by_columns}
use Rattle.dc_sparse.specs.Entries.{entry_at}
use Rattle.dc_sparse.specs.Ratios.{HasRatios}
use Rattle.dc_sparse.proofs.Entries.{entry-node}
use Rattle.dc_sparse.proofs.ColumnSteps.{gap_above}

zero_not_positive : (x : ℚ) → is_zero x ≡ true → is_positive x ≡ false
zero_not_positive x e = ap is_positive (eq_ℚ_true x (of_ℤ (pos 0)) e) ∙ lt_ℚ-false (of_ℤ (pos 0)) (of_ℤ (pos 0)) (≤ℚ_refl (of_ℤ (pos 0)))

-- rows without a positive entry are passed
best_on : (t : Table ℚ) (j m n : ℕ) (best : Option Candidate) → IsBestOf t j m best → m ≤ n → ((i : ℕ) → m ≤ i → i < n → is_positive (at t i j) ≡ false) → IsBestOf t j n best
best_on t j m zero best h le none = (let same : m ≡ 0 = omega arith in subst (λ k. IsBestOf t j k best) same h)
best_on t j m (suc n) best h le none = elim (cases_Bool (nat_lt n m)) [
  | inl e ↦ (let lt : n < m = ltb-true n m e in let same : m ≡ suc n = omega arith in subst (λ k. IsBestOf t j k best) same h)
  | inr e ↦
      (let up : m ≤ n = ltb-false n m e in
      let r : IsBestOf t j n best = best_on t j m n best h up (λ i l u. none i l (omega arith)) in
      let more : n + 1 ≡ suc n = omega arith in
      subst (λ k. IsBestOf t j k best) more (best-skip t j n best r (none n up (omega arith))))
]

-- ---- tables with the arena's quotients

-- a table with its entries
pub same_ratios : (real : ℕ) (rows : List (List ℚ)) (basis : List ℕ) (xs : List Node) (j : ℕ) → j < real + length basis + 1
    → ((i k : ℕ) → i < length basis → k < real + length basis + 1 → at (record { real = real; rows = rows; basis = basis }) i k ≡ entry_at xs i k)
    → HasRatios (record { real = real; rows = rows; basis = basis }) real basis xs j
same_ratios real rows basis xs j lj e = record {
  basic = refl;
  sign = λ i li. ap is_positive (e i j li lj);
  fits = λ i li p. ap₂ quotient_fits (e i (real + length basis) li (omega arith)) (e i j li lj);
  ratio = λ i li p. ap₂ ◌/ℚ◌ (e i (real + length basis) li (omega arith)) (e i j li lj);
}

abbrev pub stored : ℕ → ℕ → ℕ → List ℕ → List Node → Table ℚ
stored h w real basis xs = record { real = real; rows = made h (λ i. made w (λ k. entry_at xs i k)); basis = basis }

pub stored_ratios : (h w real : ℕ) (basis : List ℕ) (xs : List Node) → h ≡ length basis + 2 → w ≡ real + length basis + 1 → (j : ℕ) → j < w → HasRatios (stored h w real basis xs) real basis xs j
stored_ratios h w real basis xs tall wide j lj =
    same_ratios real (made h (λ i. made w (λ k. entry_at xs i k))) basis xs j (omega arith) (λ i k li lk.
    ap (λ r. slice_index_or r k (of_ℤ (pos 0))) (get_or-map-range_with_len (λ a. made w (λ b. entry_at xs a b)) 0 h i i [] (omega arith) (omega arith))
    ∙ get_or-map-range_with_len (λ b. entry_at xs i b) 0 w k k (of_ℤ (pos 0)) (omega arith) (omega arith))

-- ---- the search

module _ (t : Table ℚ) (real : ℕ) (basis : List ℕ) (xs : List Node) (j : ℕ) (h : HasRatios t real basis xs j) where
  -- above the next node no entry is positive
  pub seek_on : (m n : ℕ) (best : Option Candidate) (o : Option ℕ) → IsBestOf t j m best → IsFirst (by_columns xs) j m o → m ≤ n → n ≤ length basis → ((c : ℕ) → o ≡ Some c → n ≤ row_at xs c) → IsBestOf t j n best
  seek_on m n best o b f le most lt = best_on t j m n best b le (λ i l u. (
      let z : is_zero (entry_at xs i j) ≡ true = gap_above xs j m o f i l (λ c e. (let v = lt c e in omega arith)) in
      h.sign i (omega arith) ∙ zero_not_positive (entry_at xs i j) z))

  -- where no row is left
  pub seek_ends : (m : ℕ) (best : Option Candidate) (o : Option ℕ) → IsBestOf t j m best → IsFirst (by_columns xs) j m o → m ≤ length basis → ((c : ℕ) → o ≡ Some c → length basis ≤ row_at xs c) → Ok (row_of best) ≡ ratio_answer t j
  seek_ends m best o b f le lt = best-all t j (length basis) best (seek_on m (length basis) best o b f le (omega arith) lt) (ap length h.basic)

  module _ (done node : ℕ) (best : Option Candidate) (b : IsBestOf t j done best) (f : IsFirst (by_columns xs) j done (Some node)) (inside : node < length xs) (apart : AreApart (by_rows xs)) (lower : row_at xs node < length basis) where
    here : IsBestOf t j (row_at xs node) best
    here = seek_on done (row_at xs node) best (Some node) b f f.0.index (omega arith) (λ c e. (let q : row_at xs node ≡ row_at xs c = cc in omega arith))

    -- what the node holds
    seek_entry : entry_at xs (row_at xs node) j ≡ item xs node
    seek_entry = entry-node xs node (row_at xs node) j inside apart (record { live = f.0.live; row = refl; col = f.0.line })

    sign_here : is_positive (at t (row_at xs node) j) ≡ is_positive (item xs node)
    sign_here = h.sign (row_at xs node) lower ∙ ap is_positive seek_entry

    pub seek_skip : is_positive (item xs node) ≡ false → IsBestOf t j (row_at xs node + 1) best
    seek_skip e = best-skip t j (row_at xs node) best here (sign_here ∙ e)

    -- where the node's entry is positive, by the right side of its row
    module _ (x : ℚ) (r : x ≡ entry_at xs (row_at xs node) (real + length basis)) (positive : is_positive (item xs node) ≡ true) where
      fits_here : quotient_fits (at t (row_at xs node) (right t)) (at t (row_at xs node) j) ≡ quotient_fits x (item xs node)
      fits_here = h.fits (row_at xs node) lower (ap is_positive seek_entry ∙ positive) ∙ ap₂ quotient_fits (sym r) seek_entry

      pub seek_past : quotient_fits x (item xs node) ≡ false → Err (record {}) ≡ ratio_answer t j
      seek_past q = (let l : length basis ≡ length t.basis = ap length h.basic in best-past t j (row_at xs node) best here (sign_here ∙ positive) (fits_here ∙ q) (omega arith))

      pub seek_candidate : (c : Candidate) → c.row ≡ row_at xs node → value c.ratio ≡ x /ℚ item xs node → IsCandidate t j c
      seek_candidate c e v =
          let l : length basis ≡ length t.basis = ap length h.basic in
          record {
            row = omega arith;
            ratio = v ∙ ap₂ ◌/ℚ◌ r (sym seek_entry) ∙ sym (h.ratio (row_at xs node) lower (ap is_positive seek_entry ∙ positive)) ∙ ap (λ i. at t i (right t) /ℚ at t i j) (sym e);
          }

      pub seek_more : (c : Candidate) → quotient_fits x (item xs node) ≡ true → IsCandidate t j c → Some c.row ≡ better t j (row_at xs node) (row_of best) → IsBestOf t j (row_at xs node + 1) (Some c)
      seek_more c q k s = best-more t j (row_at xs node) best here c (sign_here ∙ positive) (fits_here ∙ q) k s
