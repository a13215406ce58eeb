-- A row of whole numbers that is multiplied and reduced column after column.
use Rattle.std.proofs.Common.{◌≡◌, ◌≢◌, ℕ, ◌+◌, ◌<◌, ◌≤◌, Bool, true, false, IsTrue, ◌==◌, nat_lt, List, Option, Some, None, refl, sym, ◌∙◌, ap, subst, arith, inl, inr, length}
use Rattle.std.proofs.lemmas.Bool.{cases_Bool, ne_eqb, eqb-true, eqb-false, ltb-true, ltb-false}
use Rattle.dc_math.specs.Rational.{ℚ, ◌*ℚ◌}
use Rattle.dc_math.specs.Tests.{is_zero}
use Rattle.dc_start.proofs.Changes.{step-zero}
use Rattle.dc_sparse.specs.declared.web.Node.{Node}
use Rattle.dc_sparse.specs.Lines.{AreApart, AreLinked, IsFirst, IsLast, StandsBefore}
use Rattle.dc_sparse.specs.Nodes.{col_at, item, right_at, by_rows}
use Rattle.dc_sparse.specs.Entries.{entry_at, StandsAt, IsPut, takes}
use Rattle.dc_sparse.specs.Rows.{reduced_entry, combined_entry, AreCombined, IsMultiplied, row_gaps, KeepsRows}
use Rattle.dc_sparse.specs.Scales.{IsWhole}
use Rattle.dc_sparse.proofs.Links.{next_first}
use Rattle.dc_sparse.proofs.Entries.{entry-node, item-live}
use Rattle.dc_sparse.proofs.RowSteps.{gaps_skip, gaps_room, gaps_put, gap_before, stop_put}
use Rattle.dc_sparse.proofs.Multiples.{AreProducts}

-- ---- a row on its way: columns 0 to n - 1 are combined

pub record IsCombining (old new : List Node) (i pivot col : ℕ) (times factor : ℚ) (was now n : ℕ) : Type 0 where
  pub combined : AreCombined old new i pivot col times factor n
  pub later : (k : ℕ) → n ≤ k → entry_at new i k ≡ entry_at old i k
  pub rows : KeepsRows old new i
  pub spare : was ≤ now + row_gaps old i pivot n

combining_start : (xs : List Node) (i pivot col : ℕ) (times factor : ℚ) (was : ℕ) → IsCombining xs xs i pivot col times factor was was 0
combining_start xs i pivot col times factor was = record {
  combined = λ k lt. absurd (omega arith);
  later = λ k le. refl;
  rows = record { entries = λ a b ne. refl; stays = λ n a b ne s. s; stood = λ n a b ne s. s };
  spare = omega arith;
}

module _ (old new : List Node) (i pivot col : ℕ) (times factor : ℚ) (was now n : ℕ) (h : IsCombining old new i pivot col times factor was now n) where
  -- in columns in which the pivot's row has no entry the row is only multiplied
  combining_on : (mid : List Node) (m : ℕ) → n ≤ m → is_zero (entry_at old pivot col) ≡ false → ((k : ℕ) → n ≤ k → k < m → is_zero (entry_at old pivot k) ≡ true)
      → IsMultiplied new mid i n m times → IsCombining old mid i pivot col times factor was now m
  combining_on mid m le pivot_entry gap p = record {
    combined = λ k lt. elim (cases_Bool (nat_lt k n)) [
      | inl e ↦ (let l = ltb-true k n e in p.before k l ∙ h.combined k l)
      | inr e ↦
          (let up : n ≤ k = ltb-false k n e in
          let z = gap k up lt in
          let ne : k ≢ col = λ q. (let s : is_zero (entry_at old pivot k) ≡ is_zero (entry_at old pivot col) = ap (λ x. is_zero (entry_at old pivot x)) q in cc) in
          p.here k up lt
          ∙ ap (λ x. x *ℚ times) (h.later k up)
          ∙ (step-zero factor (entry_at old pivot k) (entry_at old i k *ℚ times) z).1
          ∙ sym (rw (ne_eqb k col ne) refl))
    ];
    later = λ k l. p.behind k l ∙ h.later k (omega arith);
    rows = record {
      entries = λ a b ne. p.others a b ne ∙ h.rows.entries a b ne;
      stays = λ m a b ne t. p.cells.stays m a b (h.rows.stays m a b ne t);
      stood = λ m a b ne t. h.rows.stood m a b ne (p.cells.stood m a b t);
    };
    spare = gaps_skip old i pivot was now n m le h.spare;
  }

  -- the entry in column n is made what it is to be
  combining_put : (newer : List Node) (then : ℕ) (v : ℚ) → is_zero (entry_at old pivot n) ≡ false → v ≡ combined_entry old i pivot col times factor n
      → IsPut new newer i n v → now ≤ then + takes (entry_at new i n) v → IsCombining old newer i pivot col times factor was then (n + 1)
  combining_put newer then v nz e p s = record {
    combined = λ k lt. elim (cases_Bool (k == n)) [
      | inl q ↦ (let same : k ≡ n = eqb-true k n q in ap (entry_at newer i) same ∙ p.here ∙ e ∙ ap (combined_entry old i pivot col times factor) (sym same))
      | inr q ↦ (let ne : k ≢ n = eqb-false k n q in p.others i k (λ _ z. ne z) ∙ h.combined k (omega arith))
    ];
    later = λ k le. p.others i k (λ _ z. absurd (omega arith)) ∙ h.later k (omega arith);
    rows = record {
      entries = λ a b ne. p.others a b (λ z _. ne z) ∙ h.rows.entries a b ne;
      stays = λ m a b ne t. p.stays m a b (λ z _. ne z) (h.rows.stays m a b ne t);
      stood = λ m a b ne t. h.rows.stood m a b ne (p.stood m a b (λ z _. ne z) t);
    };
    spare = gaps_put old i pivot was now n (entry_at new i n) v h.spare (h.later n (omega arith)) nz then s;
  }

-- ---- the walk along both rows

-- the numbers that columns 0 to n - 1 of row i become are small
abbrev AreSmall : List Node → ℕ → ℕ → ℕ → ℚ → ℚ → ℕ → Type 0
AreSmall old i pivot col times factor n = (k : ℕ) → k < n → IsWhole 41 (combined_entry old i pivot col times factor k)

-- what the loop along row `pivot` keeps: the columns before `done` are combined, `source` is the
-- next node, `left` stands before it in row i
pub record IsBeside (old new : List Node) (i pivot col : ℕ) (times factor : ℚ) (was now done : ℕ) (small : Bool) (source left : Option ℕ) : Type 0 where
  pub row : IsCombining old new i pivot col times factor was now done
  pub next : IsFirst (by_rows new) pivot done source
  pub stop : StandsBefore (by_rows new) i done left
  pub whole : IsTrue small → AreSmall old i pivot col times factor done

pub beside_start : (xs : List Node) (i pivot col : ℕ) (times factor : ℚ) (was : ℕ) (source : Option ℕ) → IsFirst (by_rows xs) pivot 0 source → IsBeside xs xs i pivot col times factor was was 0 true source None
beside_start xs i pivot col times factor was source f = record { row = combining_start xs i pivot col times factor was; next = f; stop = tt; whole = λ _ k lt. absurd (omega arith) }

-- `mid` is row i multiplied up to column m, before which no node of row `pivot` is left
module _ (old new mid : List Node) (i pivot col : ℕ) (times factor : ℚ) (was now done m : ℕ) (small : Bool) (source left : Option ℕ) (h : IsBeside old new i pivot col times factor was now done small source left)
    (apart : pivot ≢ i) (pivot_entry : is_zero (entry_at old pivot col) ≡ false) (le : done ≤ m) (far : (c : ℕ) → source ≡ Some c → m ≤ col_at new c) (p : IsMultiplied new mid i done m times) where
  pub beside_on : IsCombining old mid i pivot col times factor was now m
  beside_on = combining_on old new i pivot col times factor was now done h.row mid m le pivot_entry
      (λ k u l. ap is_zero (sym (h.row.rows.entries pivot k apart)) ∙ gap_before new pivot done source h.next k u (λ c e. (let f = far c e in omega arith))) p

  pub beside_small : IsTrue small → AreProducts new i done m times → AreSmall old i pivot col times factor m
  beside_small t q k lt = elim (cases_Bool (nat_lt k done)) [
    | inl e ↦ h.whole t k (ltb-true k done e)
    | inr e ↦ (let up = ltb-false k done e in subst (IsWhole 41) (sym (p.here k up lt) ∙ beside_on.combined k lt) (q k up lt))
  ]

-- at a node of row `pivot`
module _ (old new mid : List Node) (i pivot col : ℕ) (times factor : ℚ) (was now done node : ℕ) (small : Bool) (left : Option ℕ) (h : IsBeside old new i pivot col times factor was now done small (Some node) left)
    (apart : pivot ≢ i) (pivot_entry : is_zero (entry_at old pivot col) ≡ false) (p : IsMultiplied new mid i done (col_at new node) times) where
  far : (c : ℕ) → Some node ≡ Some c → col_at new node ≤ col_at new c
  far c e = (let q : col_at new node ≡ col_at new c = cc in omega arith)

  at : IsCombining old mid i pivot col times factor was now (col_at new node)
  at = beside_on old new mid i pivot col times factor was now done (col_at new node) small (Some node) left h apart pivot_entry h.next.0.index far p

  pub beside_stands : StandsAt mid node pivot (col_at new node)
  beside_stands = p.cells.stays node pivot (col_at new node) (record { live = h.next.0.live; row = h.next.0.line; col = refl })

  -- the entry of row i there is what it was
  pub beside_entry : entry_at mid i (col_at new node) ≡ entry_at old i (col_at new node)
  beside_entry = at.later (col_at new node) (omega arith)

  module _ (one : AreApart (by_rows new)) (inside : node < length new) where
    -- and so is that of row `pivot`
    pub beside_by : item new node ≡ entry_at old pivot (col_at new node)
    beside_by = sym (entry-node new node pivot (col_at new node) inside one (record { live = h.next.0.live; row = h.next.0.line; col = refl })) ∙ h.row.rows.entries pivot (col_at new node) apart

    nonzero : is_zero (entry_at old pivot (col_at new node)) ≡ false
    nonzero = ap is_zero (sym beside_by) ∙ item-live new node h.next.0.live

    pub beside_room : (w : ℕ) (v : ℚ) → col_at new node < w → row_gaps old i pivot w ≤ was → takes (entry_at mid i (col_at new node)) v ≤ now
    beside_room w v lt room = gaps_room old i pivot was now (col_at new node) (entry_at mid i (col_at new node)) v at.spare beside_entry nonzero w lt room

    pub beside_step : (newer : List Node) (then : ℕ) (v : ℚ) (later : Bool) (before : Option ℕ) (lines : ℕ) (head : ℕ → Option ℕ)
        → v ≡ reduced_entry (col_at new node) col factor (item new node) (entry_at mid i (col_at new node) *ℚ times)
        → IsPut mid newer i (col_at new node) v → now ≤ then + takes (entry_at mid i (col_at new node)) v → IsLast (by_rows mid) i (col_at new node) before → AreLinked (by_rows newer) lines head
        → (IsTrue later → IsTrue small) → (IsTrue later → AreProducts new i done (col_at new node) times) → (IsTrue later → IsWhole 41 v)
        → IsBeside old newer i pivot col times factor was then (col_at new node + 1) later (right_at newer node) before
    beside_step newer then v later before lines head e put s l linked t₁ t₂ t₃ =
        let t : StandsAt newer node pivot (col_at new node) = put.stays node pivot (col_at new node) (λ z _. apart z) beside_stands in
        let n : IsFirst (by_rows newer) pivot (col_at newer node + 1) (right_at newer node) = next_first (by_rows newer) lines head pivot node linked (t.live, t.row) in
        let v_is : v ≡ combined_entry old i pivot col times factor (col_at new node) = rw (← beside_by, ← beside_entry) e in
        record {
          row = combining_put old mid i pivot col times factor was now (col_at new node) at newer then v nonzero v_is put s;
          next = subst (λ k. IsFirst (by_rows newer) pivot (k + 1) (right_at newer node)) t.col n;
          stop = stop_put mid newer i (col_at new node) v before put l;
          whole = λ z k lt. elim (cases_Bool (k == col_at new node)) [
            | inl q ↦ subst (λ x. IsWhole 41 (combined_entry old i pivot col times factor x)) (sym (eqb-true k (col_at new node) q)) (subst (IsWhole 41) v_is (t₃ z))
            | inr q ↦
                (let ne = eqb-false k (col_at new node) q in
                beside_small old new mid i pivot col times factor was now done (col_at new node) small (Some node) left h apart pivot_entry h.next.0.index far p (t₁ z) (t₂ z) k (omega arith))
          ];
        }
