-- A row that is divided column after column.
use Rattle.std.proofs.Common.{◌≡◌, ◌≢◌, ℕ, ◌+◌, ◌<◌, ◌≤◌, true, false, ◌==◌, nat_lt, pos, List, [], ◌∷◌, Option, Some, None, refl, sym, ◌∙◌, ap, subst, arith, add-one, inl, inr, length}
use Rattle.std.proofs.lemmas.Bool.{cases_Bool, eqb-true, eqb-false, ltb-true, ltb-false}
use Rattle.dc_math.specs.Rational.{ℚ, ◌*ℚ◌, neg_ℚ, of_ℤ}
use Rattle.dc_math.specs.RationalRing.{ring, reads, read_nat, same_form, linear₂}
use Rattle.dc_math.specs.Inverse.{inverse, ◌/ℚ◌, *ℚ-inverse}
use Rattle.dc_math.specs.Tests.{is_zero, eq_ℚ_true, eq_ℚ_false}
use Rattle.dc_frac.specs.Fits.{quotient_fits}
use Rattle.dc_lp.proofs.Belows.{all_below-fails}
use Rattle.dc_start.proofs.Changes.{quotient-zero}
use Rattle.dc_sparse.specs.declared.web.Node.{Node}
use Rattle.dc_sparse.specs.Lines.{AreApart, AreLinked, IsFirst}
use Rattle.dc_sparse.specs.Nodes.{col_at, item, right_at, by_rows}
use Rattle.dc_sparse.specs.Entries.{entry_at, StandsAt, IsPut, KeepsCells}
use Rattle.dc_sparse.specs.Rows.{divisions_fit, AreDivided, KeepsRows}
use Rattle.dc_sparse.proofs.Links.{next_first}
use Rattle.dc_sparse.proofs.Entries.{entry-node, item-live}
use Rattle.dc_lp.proofs.Counts.{all_below-on}
use Rattle.dc_sparse.proofs.RowSteps.{gap_before}

-- ---- quotients that are 0

pub zero_by : (x by : ℚ) → is_zero x ≡ true → x /ℚ by ≡ of_ℤ (pos 0)
zero_by x by h = sym (quotient-zero x by h).1 ∙ eq_ℚ_true x (of_ℤ (pos 0)) h

back : (q p i : ℚ) → p *ℚ i ≡ of_ℤ (pos 1) → q *ℚ i ≡ of_ℤ (pos 0) → q ≡ of_ℤ (pos 0)
back q p i e f = linear₂ (neg_ℚ q) _ _ _ _ p _ _ e f (ring (q ∷ p ∷ i ∷ []) (λ ρ p₁ p₂ p₃. simp (p₁, p₂, p₃, read_nat ρ, reads) (same_form _ _ _ refl)))

pub quotient-nonzero : (x by : ℚ) → is_zero x ≡ false → is_zero by ≡ false → is_zero (x /ℚ by) ≡ false
quotient-nonzero x by h k = elim (cases_Bool (is_zero (x /ℚ by))) [
  | inl e ↦ absurd (eq_ℚ_false x (of_ℤ (pos 0)) h (back x by (inverse by) (*ℚ-inverse by (eq_ℚ_false by (of_ℤ (pos 0)) k)) (eq_ℚ_true (x /ℚ by) (of_ℤ (pos 0)) e)))
  | inr e ↦ e
]

-- ---- the row on its way

pub record IsDividing (old new : List Node) (i : ℕ) (by : ℚ) (n : ℕ) : Type 0 where
  pub fit : divisions_fit old i by n ≡ true
  pub divided : AreDivided old new i by n
  pub later : (k : ℕ) → n ≤ k → entry_at new i k ≡ entry_at old i k
  pub rows : KeepsRows old new i
  pub cells : KeepsCells old new

pub dividing_start : (xs : List Node) (i : ℕ) (by : ℚ) → IsDividing xs xs i by 0
unfolding divisions_fit
dividing_start xs i by = record {
  fit = refl;
  divided = λ k lt. absurd (omega arith);
  later = λ k le. refl;
  rows = record { entries = λ a b ne. refl; stays = λ n a b ne s. s; stood = λ n a b ne s. s };
  cells = record { stays = λ n a b s. s; stood = λ n a b s. s };
}

-- a node that gets another value keeps its cell, and so do all others
pub cells_put : (xs ys : List Node) (node i k : ℕ) (v : ℚ) → IsPut xs ys i k v → ((n a b : ℕ) → StandsAt xs n a b → StandsAt ys n a b) → AreApart (by_rows ys) → StandsAt xs node i k → KeepsCells xs ys
cells_put xs ys node i k v p stays one s = record {
  stays = stays;
  stood = λ m a b t. elim (cases_Bool (a == i)) [
    | inl q ↦ elim (cases_Bool (b == k)) [
      | inl u ↦
          (let ea : a ≡ i = eqb-true a i q in
          let eb : b ≡ k = eqb-true b k u in
          let there : StandsAt ys node i k = stays node i k s in
          let same : m ≡ node = one m node t.live there.live (t.row ∙ ea ∙ sym there.row) (t.col ∙ eb ∙ sym there.col) in
          subst (λ x. StandsAt xs x a b) (sym same) (subst (λ x. StandsAt xs node x b) (sym ea) (subst (λ x. StandsAt xs node i x) (sym eb) s)))
      | inr u ↦ p.stood m a b (λ _ z. eqb-false b k u z) t
    ]
    | inr q ↦ p.stood m a b (λ z _. eqb-false a i q z) t
  ];
}

module _ (old new : List Node) (i : ℕ) (by : ℚ) (n : ℕ) (h : IsDividing old new i by n) where
  pub dividing_skip : (m : ℕ) → n ≤ m → ((k : ℕ) → n ≤ k → k < m → is_zero (entry_at new i k) ≡ true) → IsDividing old new i by m
  unfolding divisions_fit
  dividing_skip m le gap =
      let zero_old : (k : ℕ) → n ≤ k → k < m → is_zero (entry_at old i k) ≡ true = λ k l u. ap is_zero (sym (h.later k l)) ∙ gap k l u in
      record {
        fit = all_below-on (λ k. quotient_fits (entry_at old i k) by) n m le h.fit (λ k l u. (quotient-zero (entry_at old i k) by (zero_old k l u)).0);
        divided = λ k lt. elim (cases_Bool (nat_lt k n)) [
          | inl e ↦ h.divided k (ltb-true k n e)
          | inr e ↦ (let up : n ≤ k = ltb-false k n e in h.later k up ∙ eq_ℚ_true (entry_at old i k) (of_ℤ (pos 0)) (zero_old k up lt) ∙ sym (zero_by (entry_at old i k) by (zero_old k up lt)))
        ];
        later = λ k l. h.later k (omega arith);
        rows = h.rows;
        cells = h.cells;
      }

  pub dividing_put : (newer : List Node) (v : ℚ) → quotient_fits (entry_at old i n) by ≡ true → v ≡ entry_at old i n /ℚ by → IsPut new newer i n v → KeepsCells new newer → IsDividing old newer i by (n + 1)
  unfolding divisions_fit
  dividing_put newer v f e p t = record {
    fit = rw (add-one, h.fit, f) refl;
    divided = λ k lt. elim (cases_Bool (k == n)) [
      | inl q ↦ (let same : k ≡ n = eqb-true k n q in ap (entry_at newer i) same ∙ p.here ∙ e ∙ ap (λ x. entry_at old i x /ℚ by) (sym same))
      | inr q ↦ (let ne : k ≢ n = eqb-false k n q in p.others i k (λ _ z. ne z) ∙ h.divided k (omega arith))
    ];
    later = λ k le. p.others i k (λ _ z. absurd (omega arith)) ∙ h.later k (omega arith);
    rows = record {
      entries = λ a b ne. p.others a b (λ z _. ne z) ∙ h.rows.entries a b ne;
      stays = λ m a b ne t. p.stays m a b (λ z _. ne z) (h.rows.stays m a b ne t);
      stood = λ m a b ne t. h.rows.stood m a b ne (p.stood m a b (λ z _. ne z) t);
    };
    cells = record { stays = λ m a b u. t.stays m a b (h.cells.stays m a b u); stood = λ m a b u. h.cells.stood m a b (t.stood m a b u) };
  }

  pub dividing_fails : (w : ℕ) → n < w → quotient_fits (entry_at old i n) by ≡ false → divisions_fit old i by w ≡ false
  unfolding divisions_fit
  dividing_fails w lt e = all_below-fails (λ k. quotient_fits (entry_at old i k) by) n w e lt

pub record IsAcross (old new : List Node) (i : ℕ) (by : ℚ) (done : ℕ) (to : Option ℕ) : Type 0 where
  pub row : IsDividing old new i by done
  pub next : IsFirst (by_rows new) i done to

module _ (old new : List Node) (i : ℕ) (by : ℚ) (done node : ℕ) (h : IsAcross old new i by done (Some node)) (one : AreApart (by_rows new)) (inside : node < length new) where
  pub across_at : IsDividing old new i by (col_at new node)
  across_at = dividing_skip old new i by done h.row (col_at new node) h.next.0.index
      (λ k le lt. gap_before new i done (Some node) h.next k le (λ m e. (let q : col_at new node ≡ col_at new m = cc in omega arith)))

  pub across_stands : StandsAt new node i (col_at new node)
  across_stands = record { live = h.next.0.live; row = h.next.0.line; col = refl }

  pub across_entry : item new node ≡ entry_at old i (col_at new node)
  across_entry = sym (entry-node new node i (col_at new node) inside one across_stands) ∙ across_at.later (col_at new node) (omega arith)

  pub across_nonzero : is_zero (item new node) ≡ false
  across_nonzero = item-live new node h.next.0.live

  pub across_fails : (w : ℕ) → col_at new node < w → quotient_fits (item new node) by ≡ false → divisions_fit old i by w ≡ false
  across_fails w lt e = dividing_fails old new i by (col_at new node) across_at w lt (rw (← across_entry) e)

  pub across_step : (newer : List Node) (v : ℚ) (lines : ℕ) (head : ℕ → Option ℕ) → quotient_fits (item new node) by ≡ true → v ≡ item new node /ℚ by
      → IsPut new newer i (col_at new node) v → ((n a b : ℕ) → StandsAt new n a b → StandsAt newer n a b) → AreApart (by_rows newer) → AreLinked (by_rows newer) lines head
      → IsAcross old newer i by (col_at new node + 1) (right_at newer node)
  across_step newer v lines head f e p stays apart linked =
      let t : StandsAt newer node i (col_at new node) = stays node i (col_at new node) across_stands in
      record {
        row = dividing_put old new i by (col_at new node) across_at newer v (rw (← across_entry) f) (rw (← across_entry) e) p (cells_put new newer node i (col_at new node) v p stays apart across_stands);
        next = subst (λ k. IsFirst (by_rows newer) i (k + 1) (right_at newer node)) t.col (next_first (by_rows newer) lines head i node linked (t.live, t.row));
      }

pub across_end : (old new : List Node) (i : ℕ) (by : ℚ) (done w : ℕ) → IsAcross old new i by done None → done ≤ w → IsDividing old new i by w
across_end old new i by done w h le = dividing_skip old new i by done h.row w le
    (λ k l lt. gap_before new i done None h.next k l (λ m e. absurd (let r : ⊥ = cc in r)))
