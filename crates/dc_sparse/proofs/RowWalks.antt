-- What holds of 0 and of each number of a row, by a walk along the row.
use Rattle.std.proofs.Common.{◌≡◌, ℕ, ◌+◌, ◌<◌, ◌≤◌, ◌==◌, nat_lt, pos, List, Option, Some, None, sym, subst, arith, inl, inr}
use Rattle.std.proofs.lemmas.Bool.{cases_Bool, eqb-true, eqb-false, ltb-true, ltb-false}
use Rattle.dc_math.specs.Rational.{ℚ, of_ℤ}
use Rattle.dc_math.specs.Tests.{eq_ℚ_true}
use Rattle.dc_sparse.specs.declared.web.Node.{Node}
use Rattle.dc_sparse.specs.Lines.{IsFirst}
use Rattle.dc_sparse.specs.Nodes.{col_at, by_rows}
use Rattle.dc_sparse.specs.Entries.{entry_at}
use Rattle.dc_sparse.proofs.RowSteps.{gap_before}

module _ (P : ℚ → Type 0) (zero : P (of_ℤ (pos 0))) (xs : List Node) (i : ℕ) where
  -- the row has it before column n
  abbrev pub Each : ℕ → Type 0
  Each n = (k : ℕ) → k < n → P (entry_at xs i k)

  pub each_on : (n m : ℕ) (o : Option ℕ) → IsFirst (by_rows xs) i n o → Each n → ((c : ℕ) → o ≡ Some c → m ≤ col_at xs c) → Each m
  each_on n m o f h le k lt = elim (cases_Bool (nat_lt k n)) [
    | inl e ↦ h k (ltb-true k n e)
    | inr e ↦ subst P (sym (eq_ℚ_true (entry_at xs i k) (of_ℤ (pos 0)) (gap_before xs i n o f k (ltb-false k n e) (λ c q. (let l = le c q in omega arith))))) zero
  ]

  -- up to the next node and with it
  pub each_node : (n node : ℕ) → IsFirst (by_rows xs) i n (Some node) → Each n → P (entry_at xs i (col_at xs node)) → Each (col_at xs node + 1)
  each_node n node f h p k lt = elim (cases_Bool (k == col_at xs node)) [
    | inl e ↦ subst (λ x. P (entry_at xs i x)) (sym (eqb-true k (col_at xs node) e)) p
    | inr e ↦ (let ne = eqb-false k (col_at xs node) e in each_on n (col_at xs node) (Some node) f h (λ c q. (let same : col_at xs node ≡ col_at xs c = cc in omega arith)) k (omega arith))
  ]

  -- where no node is left
  pub each_end : (n : ℕ) → IsFirst (by_rows xs) i n None → Each n → (k : ℕ) → P (entry_at xs i k)
  each_end n f h k = each_on n (k + 1) None f h (λ c q. absurd (let r : ⊥ = cc in r)) k (omega arith)
