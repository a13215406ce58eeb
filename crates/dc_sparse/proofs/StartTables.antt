-- The starting table is a table.
use Rattle.std.proofs.Common.{◌≡◌, ℕ, ◌+◌, ◌<◌, ◌≤◌, ◌==◌, nat_lt, Bool, true, false, not, pos, List, [], length, slice_index_or, None, sym, ◌∙◌, ap, subst, arith, inl, inr}
use Rattle.std.proofs.lemmas.Bool.{cases_Bool, eqb-true, eqb-false, ltb-true, ltb-false, not-true}
use Rattle.std.proofs.lemmas.List.FromFn.{get_or-map-range_with_len}
use Rattle.dc_math.specs.Tests as tests
use Rattle.dc_math.specs.Rational.{ℚ, of_ℤ}
use Rattle.dc_lp.specs.declared.Problem.{Problem}
use Rattle.dc_lp.specs.Tables as tables
use Rattle.dc_lp.specs.Tables.{made}
use Rattle.dc_lp.specs.Meanings.{Meaning, resting, start, at}
use Rattle.dc_start.proofs.Loads.{made-length}
use Rattle.dc_sparse.specs.declared.web.Node.{Node}
use Rattle.dc_sparse.specs.Entries.{entry_at, StandsAt}
use Rattle.dc_lp.specs.Fill.{count_cells, entry_count}
use Rattle.dc_sparse.specs.Sizes.{held_count}
use Rattle.dc_sparse.specs.Pivots.{grid}
use Rattle.dc_start.specs.Starts.{width, start_value}
use Rattle.dc_lp.specs.Problems.{columns}
use Rattle.dc_sparse.specs.Fills.{IsFilled, IsFilling, IsPartOf, IsStarted}
use Rattle.dc_sparse.proofs.Tables.{made-same}
use Rattle.dc_sparse.proofs.Entries.{vacant-zero}
use Rattle.dc_lp.proofs.Counts.{count_cells-least}

grid-start : (p : Problem) (e : ℕ → ℕ → ℚ) → IsStarted p e → grid (p.rows + 2) (width p) e ≡ (start p).rows
unfolding grid tables.start
grid-start p e h = made-same (p.rows + 2) (λ i. made (width p) (λ k. e i k)) (λ i. made (width p) (λ k. start_value p i k)) (λ i li. made-same (width p) (λ k. e i k) (λ k. start_value p i k) (λ k lk. h i k li lk))

loaded : (p : Problem) (e : ℕ → ℕ → ℚ) (bs : List ℕ) → IsStarted p e → bs ≡ made p.rows (λ i. columns p + i)
    → ◌≡◌ {A = Meaning} (record { loaded = true; broken = false; ready = None; table = record { real = columns p; rows = grid (p.rows + 2) (width p) e; basis = bs } }) (resting (start p))
unfolding tables.start
loaded p e bs h q =
    let M : List (List ℚ) → List ℕ → Meaning = λ rs ks. record { loaded = true; broken = false; ready = None; table = record { real = columns p; rows = rs; basis = ks } } in
    ap (λ rs. M rs bs) (grid-start p e h) ∙ ap (M (start p).rows) q

-- the same in other words for the sizes
pub loaded-in : (p : Problem) (n h w : ℕ) (e : ℕ → ℕ → ℚ) (bs : List ℕ) → n ≡ columns p → h ≡ p.rows + 2 → w ≡ width p → IsStarted p e → bs ≡ made p.rows (λ i. n + i)
    → ◌≡◌ {A = Meaning} (record { loaded = true; broken = false; ready = None; table = record { real = n; rows = grid h w e; basis = bs } }) (resting (start p))
loaded-in p n h w e bs en eh ew f q =
    let M : ℕ → ℕ → ℕ → Meaning = λ a b c. record { loaded = true; broken = false; ready = None; table = record { real = a; rows = grid b c e; basis = bs } } in
    ap (λ a. M a h w) en ∙ ap (λ b. M (columns p) b w) eh ∙ ap (λ c. M (columns p) (p.rows + 2) c) ew ∙ loaded p e bs f (q ∙ ap (λ m. made p.rows (λ i. m + i)) en)

-- ---- what is held of the starting table, and how much

module _ (p : Problem) (xs : List Node) (h : ℕ) where
  pub filled-part : IsFilled p xs h 0 → IsPartOf p xs h
  filled-part f = record { each = λ i k li lk e. ap tests.is_zero (sym (f.entries i k li (omega arith) lk)) ∙ e }

  no_entry : (i k : ℕ) → ((n : ℕ) → StandsAt xs n i k → ⊥) → tests.is_zero (entry_at xs i k) ≡ false → ⊥
  no_entry i k none e = (let z : tests.is_zero (entry_at xs i k) ≡ true = vacant-zero xs i k (λ n l r c. none n (record { live = l; row = r; col = c })) in cc)

  pub filling-part : (row col : ℕ) → IsFilling p xs h row col → IsPartOf p xs h
  filling-part row col f = record {
    each = λ i k li lk e. elim (cases_Bool (nat_lt col k)) [
      | inl b ↦ (let l : col < k = ltb-true col k b in ap tests.is_zero (sym (f.entries i k li (omega arith) lk)) ∙ e)
      | inr b ↦ (let le : k ≤ col = ltb-false col k b in elim (cases_Bool (k == col)) [
        | inl q ↦ (let same : k ≡ col = eqb-true k col q in elim (cases_Bool (nat_lt i row)) [
          | inl d ↦ (let above : i < row = ltb-true i row d in absurd (no_entry i k (λ n s. elim (f.none_else n i k s) [ inl u ↦ absurd (omega arith) | inr u ↦ (let v = u.1 in absurd (omega arith)) ]) e))
          | inr d ↦ ap tests.is_zero (ap (start_value p i) same ∙ sym (f.part i li (ltb-false i row d)) ∙ ap (entry_at xs i) (sym same)) ∙ e
        ])
        | inr q ↦ (let ne = eqb-false k col q in absurd (no_entry i k (λ n s. elim (f.none_else n i k s) [ inl u ↦ absurd (omega arith) | inr u ↦ (let v = u.0 in absurd (omega arith)) ]) e))
      ])
    ];
  }

module _ (p : Problem) where
  start-tall : length (start p).basis + 2 ≡ p.rows + 2
  unfolding tables.start
  start-tall = ap (λ n. n + 2) (made-length p.rows (λ i. columns p + i))

  start-wide : (start p).real + length (start p).basis + 1 ≡ width p
  unfolding tables.start
  start-wide = ap (λ n. columns p + n + 1) (made-length p.rows (λ i. columns p + i))

  start-at : (i k : ℕ) → i < p.rows + 2 → k < width p → at (start p) i k ≡ start_value p i k
  unfolding tables.start
  start-at i k li lk =
      ap (λ r. slice_index_or r k (of_ℤ (pos 0))) (get_or-map-range_with_len (λ a. made (width p) (λ b. start_value p a b)) 0 (p.rows + 2) i i [] li (omega arith))
      ∙ get_or-map-range_with_len (λ b. start_value p i b) 0 (width p) k k (of_ℤ (pos 0)) lk (omega arith)

  -- what is part of the starting table has no more entries
  pub part-entries : (xs : List Node) → IsPartOf p xs (p.rows + 2) → held_count xs (p.rows + 2) (width p) ≤ entry_count (start p)
  unfolding held_count entry_count
  part-entries xs f =
      let some : ℕ → ℕ → Bool = λ i k. not (tests.is_zero (at (start p) i k)) in
      let l : count_cells (p.rows + 2) (width p) (λ i k. not (tests.is_zero (entry_at xs i k))) ≤ count_cells (p.rows + 2) (width p) some =
      count_cells-least (λ i k. not (tests.is_zero (entry_at xs i k))) some (p.rows + 2) (width p)
      (λ i k li lk e. ap not (ap tests.is_zero (start-at i k li lk) ∙ f.each i k li lk (not-true (tests.is_zero (entry_at xs i k)) e))) in
      subst (λ n. count_cells (p.rows + 2) (width p) (λ i k. not (tests.is_zero (entry_at xs i k))) ≤ count_cells n ((start p).real + length (start p).basis + 1) some) (sym start-tall)
      (subst (λ n. count_cells (p.rows + 2) (width p) (λ i k. not (tests.is_zero (entry_at xs i k))) ≤ count_cells (p.rows + 2) n some) (sym start-wide) l)
