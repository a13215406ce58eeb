-- The starting table is held column by column.
use Rattle.std.proofs.Common.{◌≡◌, ◌≢◌, ℕ, ◌+◌, ◌<◌, ◌≤◌, nat_lt, pos, List, length, refl, sym, ◌∙◌, ap, arith, inl, inr}
use Rattle.std.specs.Prelude.{ℤ, int_lt}
use Rattle.std.proofs.lemmas.Bool.{cases_Bool, cases_eq, ltb-true, ltb-false}
use Rattle.dc_math.specs.Rational.{ℚ, of_ℤ}
use Rattle.dc_lp.specs.declared.Entry.{Entry}
use Rattle.dc_lp.specs.declared.Problem.{Problem}
use Rattle.dc_lp.specs.Problems.{AreEntries, entries, coefficient, whole_at, columns}
use Rattle.dc_lp.proofs.Columns.{row_after, IsNext, none_behind}
use Rattle.dc_start.specs.Starts.{signed, start_value}
use Rattle.dc_start.proofs.Loads.{entry-real, entry-none, value-equation, value-none}
use Rattle.dc_sparse.specs.declared.web.Node.{Node}
use Rattle.dc_sparse.specs.Entries.{entry_at, IsPut}
use Rattle.dc_sparse.specs.Fills.{IsFilled, IsFilling}
use Rattle.dc_sparse.proofs.Entries.{entry-vacant}

-- ---- cells of the starting table that are 0

signed_zero : (b : ℤ) → pos 0 ≡ signed b (pos 0)
signed_zero b = elim (cases_Bool (int_lt b (pos 0))) [
  | inl e ↦ rw e refl
  | inr e ↦ rw e refl
]

-- in a real column where it has no entry
pub real_zero : (p : Problem) (i k : ℕ) → i < p.rows → k < columns p → coefficient p i k ≡ pos 0 → start_value p i k ≡ of_ℤ (pos 0)
real_zero p i k li lk e = sym (value-equation p i k (of_ℤ (pos 0)) li (ap of_ℤ (signed_zero (whole_at p.b.items i) ∙ ap (signed (whole_at p.b.items i)) (sym e) ∙ entry-real p i k lk)))

-- in an artificial column but at its unit
pub unit_zero : (p : Problem) (i k : ℕ) → i < p.rows → columns p ≤ k → k < columns p + p.rows → k ≢ columns p + i → start_value p i k ≡ of_ℤ (pos 0)
unit_zero p i k li lk l ne = sym (value-equation p i k (of_ℤ (pos 0)) li (ap of_ℤ (entry-none p i k lk l ne)))

-- in the last row behind the real columns
pub cost_zero : (p : Problem) (i k : ℕ) → p.rows < i → columns p ≤ k → start_value p i k ≡ of_ℤ (pos 0)
cost_zero p i k l lk = sym (value-none p i k (of_ℤ (pos 0)) (omega arith) (λ e. absurd (omega arith)) lk refl)

-- ---- a column is held from its last row to its first

module _ (p : Problem) (xs : List Node) (h : ℕ) where
  pub filling_start : (col : ℕ) → IsFilled p xs h (col + 1) → IsFilling p xs h h col
  filling_start col f = record {
    entries = λ i k li l lk. f.entries i k li l lk;
    part = λ i li l. absurd (omega arith);
    none_else = λ n i k s. inl (let l = f.none_else n i k s in omega arith);
  }

  -- one cell more
  pub filling_more : (ys : List Node) (row col : ℕ) (v : ℚ) → IsFilling p xs h (row + 1) col → IsPut xs ys row col v → v ≡ start_value p row col → IsFilling p ys h row col
  filling_more ys row col v f put e = record {
    entries = λ i k li l lk. put.others i k (λ _ q. absurd (omega arith)) ∙ f.entries i k li l lk;
    part = λ i li l. elim (cases_eq i row) [
      | inl q ↦ ap (λ x. entry_at ys x col) q ∙ put.here ∙ e ∙ ap (λ x. start_value p x col) (sym q)
      | inr ne ↦ put.others i col (λ q _. ne q) ∙ f.part i li (omega arith)
    ];
    none_else = λ n i k s. elim (cases_eq i row) [
      | inl q ↦ elim (cases_eq k col) [
        | inl r ↦ inr (r, omega arith)
        | inr nr ↦ elim (f.none_else n i k (put.stood n i k (λ _ z. nr z) s)) [ inl u ↦ inl u | inr u ↦ inr (u.0, (let v = u.1 in omega arith)) ]
      ]
      | inr ne ↦ elim (f.none_else n i k (put.stood n i k (λ z _. ne z) s)) [ inl u ↦ inl u | inr u ↦ inr (u.0, (let v = u.1 in omega arith)) ]
    ];
  }

  -- rows in which the starting table has 0 are passed
  pub filling_skip : (m n col : ℕ) → IsFilling p xs h n col → m ≤ n → ((i : ℕ) → m ≤ i → i < n → start_value p i col ≡ of_ℤ (pos 0)) → IsFilling p xs h m col
  filling_skip m n col f le none = record {
    entries = f.entries;
    part = λ i li l. elim (cases_Bool (nat_lt i n)) [
      | inl e ↦
          (let lt : i < n = ltb-true i n e in
          entry-vacant xs i col (λ c live r q. elim (f.none_else c i col (record { live = live; row = r; col = q })) [ inl u ↦ absurd (omega arith) | inr u ↦ (let v = u.1 in absurd (omega arith)) ])
          ∙ sym (none i l lt))
      | inr e ↦ f.part i li (ltb-false i n e)
    ];
    none_else = λ c i k s. elim (f.none_else c i k s) [ inl u ↦ inl u | inr u ↦ inr (u.0, (let v = u.1 in omega arith)) ];
  }

  pub filling_end : (col : ℕ) → IsFilling p xs h 0 col → IsFilled p xs h col
  filling_end col f = record {
    entries = λ i k li l lk. elim (cases_eq k col) [
      | inl e ↦ ap (entry_at xs i) e ∙ f.part i li (omega arith) ∙ ap (start_value p i) (sym e)
      | inr ne ↦ f.entries i k li (omega arith) lk
    ];
    none_else = λ n i k s. elim (f.none_else n i k s) [ inl u ↦ omega arith | inr u ↦ (let v = u.0 in omega arith) ];
  }

  module _ (col : ℕ) (lk : col < columns p) (es : AreEntries 0 p.rows (entries p col)) where
    -- behind the last entry of a real column
    pub filling_last : IsFilling p xs h p.rows col → row_after 0 (entries p col) (length (entries p col)) ≤ p.rows → IsFilling p xs h (row_after 0 (entries p col) (length (entries p col))) col
    filling_last f le = filling_skip (row_after 0 (entries p col) (length (entries p col))) p.rows col f le
        (λ i l li. real_zero p i col li lk (none_behind 0 p.rows (entries p col) i es l))

    -- between two of them
    pub filling_next : (n : ℕ) (e : Entry) → IsNext 0 p.rows (entries p col) n e → IsFilling p xs h e.row col → IsFilling p xs h (row_after 0 (entries p col) n) col
    filling_next n e x f = filling_skip (row_after 0 (entries p col) n) e.row col f x.later
        (λ i l li. (let r = x.inside in real_zero p i col (omega arith) lk (x.between i l li)))
