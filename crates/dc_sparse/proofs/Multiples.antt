-- Rows of whole numbers that are multiplied, and what products and differences of whole numbers are.
use Rattle.std.specs.Prelude.{◌≡◌, ◌≢◌, ℕ, ◌+◌, ◌-◌, ◌<◌, ◌≤◌, ◌^◌, max, ℤ, pos, ◌-ℤ◌, neg_ℤ, unsigned_abs, Bool, true, IsTrue, ◌==◌, List, length, Option, Some, None}
use Rattle.std.proofs.Common.{refl, sym, ◌∙◌, ap, ap₂, subst, arith, inl, inr, nat_lt, SFits, [], ◌∷◌}
use Rattle.std.proofs.lemmas.Int.{ints}
use Rattle.std.proofs.lemmas.Bool.{cases_Bool, ne_eqb, eqb-true, eqb-false, ltb-true, ltb-false}
use mir.Syntax.{w128}
use Rattle.dc_math.specs.Rational.{ℚ, Fraction, of_ℤ, of_ℤ-+ℤ, neg_ℚ, ◌+ℚ◌, ◌-ℚ◌, ◌*ℚ◌, *ℚ-one, zero-*ℚ}
use Rattle.dc_math.specs.RationalRing.{ring, reads, same_form}
use Rattle.dc_math.specs.Order.{of_ℤ-neg_ℤ}
use Rattle.dc_math.specs.Tests.{is_zero, eq_ℚ_true}
use Rattle.dc_frac.specs.declared.Frac.{Frac}
use Rattle.dc_frac.specs.Value.{value}
use Rattle.dc_frac.proofs.ValueLaws.{lowest-value}
use Rattle.dc_sparse.specs.declared.web.Node.{Node}
use Rattle.dc_sparse.specs.Lines.{AreApart, AreLinked, IsFirst, IsLast, StandsBefore, index_after}
use Rattle.dc_sparse.specs.Nodes.{col_at, right_at, item, by_rows}
use Rattle.dc_sparse.specs.Entries.{entry_at, StandsAt, IsPut, KeepsCells}
use Rattle.dc_sparse.specs.Rows.{reduced_entry, IsMultiplied}
use Rattle.dc_sparse.specs.Scales.{IsWhole}
use Rattle.dc_sparse.proofs.Links.{IsWalk, left_from, next_first, walk_stops, walk_ends}
use Rattle.dc_sparse.proofs.Entries.{entry-node}
use Rattle.dc_sparse.proofs.RowSteps.{gap_before}
use Rattle.dc_sparse.proofs.Quotients.{cells_put}
use Rattle.dc_sparse.proofs.Wholes.{whole_is, whole_zero}

-- ---- numbers

-- the numerator of a small whole number
pub whole_num : (f : Frac) → IsWhole 41 (value f) → of_ℤ f.num ≡ value f
whole_num f h = subst (λ (p : Fraction). of_ℤ p.num ≡ value f) (lowest-value f) (whole_is 41 (value f) h)

pub num_below : (f : Frac) → IsWhole 41 (value f) → unsigned_abs f.num < 2 ^ 41
num_below f h = subst (λ (p : Fraction). unsigned_abs p.num < 2 ^ 41) (lowest-value f) h.small

-- the difference of two products
pub difference_small : (a b : ℤ) → unsigned_abs a < 2 ^ 82 → unsigned_abs b < 2 ^ 82 → unsigned_abs (a -ℤ b) < 2 ^ 83
difference_small a b h k = omega (arith, ints)

pub small_fits : (z : ℤ) → unsigned_abs z < 2 ^ 83 → SFits w128 z
small_fits z h = omega (arith, ints)

-- a product less another one
pub combined_value : (at col : ℕ) (p q t f : ℤ) (x y : ℚ) → at ≢ col → of_ℤ p ≡ y *ℚ of_ℤ t → of_ℤ q ≡ x *ℚ of_ℤ f → of_ℤ (p -ℤ q) ≡ reduced_entry at col (of_ℤ f) x (y *ℚ of_ℤ t)
combined_value at col p q t f x y ne ep eq =
    of_ℤ-+ℤ p (neg_ℤ q)
    ∙ ap₂ ◌+ℚ◌ ep (of_ℤ-neg_ℤ q ∙ ap neg_ℚ eq)
    ∙ turned (y *ℚ of_ℤ t) x (of_ℤ f)
    ∙ sym (rw (ne_eqb at col ne) refl)
  where
    turned : (a x f : ℚ) → a -ℚ x *ℚ f ≡ a -ℚ f *ℚ x
    turned a x f = ring (a ∷ x ∷ f ∷ []) (λ ρ p q r. simp (p, q, r, reads) (same_form _ _ _ refl))

-- where the row has no number
pub taken_value : (at col : ℕ) (q t f : ℤ) (x y : ℚ) → at ≢ col → y ≡ of_ℤ (pos 0) → of_ℤ q ≡ x *ℚ of_ℤ f → of_ℤ (pos 0 -ℤ q) ≡ reduced_entry at col (of_ℤ f) x (y *ℚ of_ℤ t)
taken_value at col q t f x y ne ey eq = combined_value at col (pos 0) q t f x y ne (sym (ap (λ z. z *ℚ of_ℤ t) ey ∙ zero-*ℚ (of_ℤ t))) eq

zero_times : (x m : ℚ) → is_zero x ≡ true → x *ℚ m ≡ of_ℤ (pos 0)
zero_times x m e = ap (λ z. z *ℚ m) (eq_ℚ_true x (of_ℤ (pos 0)) e) ∙ zero-*ℚ m

pub once : (x : ℚ) (t : ℤ) → t ≡ pos 1 → x *ℚ of_ℤ t ≡ x
once x t e = ap (λ z. x *ℚ of_ℤ z) e ∙ *ℚ-one x

-- ---- a row that is multiplied from column n on

pub multiplied_start : (xs : List Node) (i n m : ℕ) (times : ℚ) → m ≤ n → IsMultiplied xs xs i n m times
multiplied_start xs i n m times le = record {
  here = λ k l u. absurd (omega arith);
  before = λ k l. refl;
  behind = λ k l. refl;
  others = λ a b ne. refl;
  cells = record { stays = λ n a b s. s; stood = λ n a b s. s };
}

pub multiplied_once : (xs : List Node) (i n m : ℕ) (t : ℤ) → t ≡ pos 1 → IsMultiplied xs xs i n m (of_ℤ t)
multiplied_once xs i n m t e = record {
  here = λ k l u. sym (once (entry_at xs i k) t e);
  before = λ k l. refl;
  behind = λ k l. refl;
  others = λ a b ne. refl;
  cells = record { stays = λ n a b s. s; stood = λ n a b s. s };
}

module _ (old new : List Node) (i n m : ℕ) (times : ℚ) (h : IsMultiplied old new i n m times) where
  -- columns without entry are passed
  multiplied_skip : (l : ℕ) → m ≤ l → ((k : ℕ) → m ≤ k → k < l → is_zero (entry_at new i k) ≡ true) → IsMultiplied old new i n l times
  multiplied_skip l le gap = record {
    here = λ k u v. elim (cases_Bool (nat_lt k m)) [
      | inl e ↦ h.here k u (ltb-true k m e)
      | inr e ↦
          (let up : m ≤ k = ltb-false k m e in
          let z = gap k up v in
          let same = h.behind k up in
          eq_ℚ_true (entry_at new i k) (of_ℤ (pos 0)) z ∙ sym (zero_times (entry_at old i k) times (ap is_zero (sym same) ∙ z)))
    ];
    before = h.before;
    behind = λ k u. h.behind k (omega arith);
    others = h.others;
    cells = h.cells;
  }

  multiplied_put : (newer : List Node) (v : ℚ) → n ≤ m → v ≡ entry_at old i m *ℚ times → IsPut new newer i m v → KeepsCells new newer → IsMultiplied old newer i n (m + 1) times
  multiplied_put newer v le e p t = record {
    here = λ k u l. elim (cases_Bool (k == m)) [
      | inl q ↦ (let same : k ≡ m = eqb-true k m q in ap (entry_at newer i) same ∙ p.here ∙ e ∙ ap (λ x. entry_at old i x *ℚ times) (sym same))
      | inr q ↦ (let ne : k ≢ m = eqb-false k m q in p.others i k (λ _ z. ne z) ∙ h.here k u (omega arith))
    ];
    before = λ k l. p.others i k (λ _ z. absurd (omega arith)) ∙ h.before k l;
    behind = λ k l. p.others i k (λ _ z. absurd (omega arith)) ∙ h.behind k (omega arith);
    others = λ a b ne. p.others a b (λ z _. ne z) ∙ h.others a b ne;
    cells = record { stays = λ m a b u. t.stays m a b (h.cells.stays m a b u); stood = λ m a b u. h.cells.stood m a b (t.stood m a b u) };
  }

-- ---- the walk

-- the products in columns n to m - 1 are small
abbrev pub AreProducts : List Node → ℕ → ℕ → ℕ → ℚ → Type 0
AreProducts old i n m times = (k : ℕ) → n ≤ k → k < m → IsWhole 41 (entry_at old i k *ℚ times)

products_skip : (old : List Node) (i n m l : ℕ) (times : ℚ) → ((k : ℕ) → m ≤ k → k < l → is_zero (entry_at old i k) ≡ true) → AreProducts old i n m times → AreProducts old i n l times
products_skip old i n m l times gap h k u v = elim (cases_Bool (nat_lt k m)) [
  | inl e ↦ h k u (ltb-true k m e)
  | inr e ↦ subst (IsWhole 41) (sym (zero_times (entry_at old i k) times (gap k (ltb-false k m e) v))) whole_zero
]

-- the column from which on nothing is multiplied yet, where `left` is the last node that is passed
abbrev reach : List Node → ℕ → Option ℕ → ℕ
reach xs n left = max n (index_after (by_rows xs) left)

-- what the loop keeps: `left` stands before column `limit`, and `next` is the node behind it
pub record IsPassing (old new : List Node) (i n limit : ℕ) (times : ℚ) (small : Bool) (left next : Option ℕ) : Type 0 where
  pub walk : IsWalk (by_rows new) i limit left next
  pub row : IsMultiplied old new i n (reach new n left) times
  pub whole : IsTrue small → AreProducts old i n (reach new n left) times

reach_first : (xs : List Node) (i n : ℕ) (o : Option ℕ) → StandsBefore (by_rows xs) i n o → reach xs n o ≤ n
reach_first xs i n None s = omega arith
reach_first xs i n (Some p) s = (let l = s.index in omega arith)

stands_limit : (xs : List Node) (i n limit : ℕ) (o : Option ℕ) → n ≤ limit → StandsBefore (by_rows xs) i n o → StandsBefore (by_rows xs) i limit o
stands_limit xs i n limit None le s = tt
stands_limit xs i n limit (Some p) le s = (let l = s.index in record { live = s.live; line = s.line; index = omega arith })

pub passing_start : (xs : List Node) (i n limit : ℕ) (times : ℚ) (small : Bool) (from next : Option ℕ) → n ≤ limit → StandsBefore (by_rows xs) i n from → IsFirst (by_rows xs) i (index_after (by_rows xs) from) next → IsPassing xs xs i n limit times small from next
passing_start xs i n limit times small from next le s f =
    let r = reach_first xs i n from s in
    record {
      walk = record { stop = stands_limit xs i n limit from le s; next = f };
      row = multiplied_start xs i n (reach xs n from) times r;
      whole = λ _ k u l. absurd (omega arith);
    }

module _ (old new : List Node) (i n limit : ℕ) (times : ℚ) (small : Bool) (left : Option ℕ) (node : ℕ) (h : IsPassing old new i n limit times small left (Some node)) where
  passing_stands : StandsAt new node i (col_at new node)
  passing_stands = record { live = h.walk.next.0.live; row = h.walk.next.0.line; col = refl }

  -- the node is behind all that are passed
  after : index_after (by_rows new) left ≤ col_at new node
  after = h.walk.next.0.index

  gap : (k : ℕ) → reach new n left ≤ k → k < col_at new node → is_zero (entry_at new i k) ≡ true
  gap k u l = gap_before new i (index_after (by_rows new) left) (Some node) h.walk.next k (omega arith) (λ m e. (let q : col_at new node ≡ col_at new m = cc in omega arith))

  module _ (one : AreApart (by_rows new)) (inside : node < length new) where
    -- from column n on the number is what it was
    pub passing_entry : n ≤ col_at new node → item new node ≡ entry_at old i (col_at new node)
    passing_entry le = sym (entry-node new node i (col_at new node) inside one passing_stands) ∙ h.row.behind (col_at new node) (let l = after in omega arith)

    module _ (newer : List Node) (later : Bool) (lines : ℕ) (head : ℕ → Option ℕ)
        (done : col_at new node < n → newer ≡ new)
        (entry : n ≤ col_at new node → (i k : ℕ) → StandsAt new node i k → IsPut new newer i k (item new node *ℚ times))
        (stays : (m a b : ℕ) → StandsAt new m a b → StandsAt newer m a b)
        (before : IsTrue later → IsTrue small) (here : IsTrue later → n ≤ col_at new node → IsWhole 41 (item new node *ℚ times))
        (apart : AreApart (by_rows newer)) (linked : AreLinked (by_rows newer) lines head) where
      there : StandsAt newer node i (col_at new node)
      there = stays node i (col_at new node) passing_stands

      -- what is written: nothing, or the product
      written : IsMultiplied old newer i n (max n (col_at new node + 1)) times × (IsTrue later → AreProducts old i n (max n (col_at new node + 1)) times)
      written = elim (cases_Bool (nat_lt (col_at new node) n)) [
        | inl e ↦
            (let lt = ltb-true (col_at new node) n e in
            let l = after in
            let same : max n (col_at new node + 1) ≡ reach new n left = omega arith in (
              subst (λ x. IsMultiplied old newer i n x times) (sym same) (subst (λ z. IsMultiplied old z i n (reach new n left) times) (sym (done lt)) h.row),
              λ t. subst (λ x. AreProducts old i n x times) (sym same) (h.whole (before t)),
            ))
        | inr e ↦
            (let le = ltb-false (col_at new node) n e in
            let l = after in
            let same : max n (col_at new node + 1) ≡ col_at new node + 1 = omega arith in
            let up : reach new n left ≤ col_at new node = omega arith in
            let p = entry le i (col_at new node) passing_stands in
            let skipped : IsMultiplied old new i n (col_at new node) times = multiplied_skip old new i n (reach new n left) times h.row (col_at new node) up gap in
            let product : item new node *ℚ times ≡ entry_at old i (col_at new node) *ℚ times = ap (λ x. x *ℚ times) (passing_entry le) in (
              subst (λ x. IsMultiplied old newer i n x times) (sym same)
                  (multiplied_put old new i n (col_at new node) times skipped newer (item new node *ℚ times) le product p (cells_put new newer node i (col_at new node) (item new node *ℚ times) p stays apart passing_stands)),
              λ t. subst (λ x. AreProducts old i n x times) (sym same) (λ k u v. elim (cases_Bool (k == col_at new node)) [
                | inl q ↦ subst (λ x. IsWhole 41 (entry_at old i x *ℚ times)) (sym (eqb-true k (col_at new node) q)) (subst (IsWhole 41) product (here t le))
                | inr q ↦
                    (let ne = eqb-false k (col_at new node) q in
                    products_skip old i n (reach new n left) (col_at new node) times (λ k u v. ap is_zero (sym (h.row.behind k u)) ∙ gap k u v) (h.whole (before t)) k u (omega arith))
              ]),
            ))
      ]

      pub passing_step : col_at new node < limit → IsPassing old newer i n limit times later (Some node) (right_at newer node)
      passing_step lt =
          let c : col_at newer node ≡ col_at new node = there.col in
          let same : max n (col_at new node + 1) ≡ reach newer n (Some node) = ap (λ k. max n (k + 1)) (sym c) in
          record {
            walk = record {
              stop = record { live = there.live; line = there.row; index = omega arith };
              next = next_first (by_rows newer) lines head i node linked (there.live, there.row);
            };
            row = subst (λ x. IsMultiplied old newer i n x times) same written.0;
            whole = λ t. subst (λ x. AreProducts old i n x times) same (written.1 t);
          }

      pub passing_smaller : (width : ℕ) → col_at new node < width → left_from (by_rows newer) width (right_at newer node) < left_from (by_rows new) width (Some node)
      passing_smaller width lt = less (right_at newer node) (next_first (by_rows newer) lines head i node linked (there.live, there.row))
        where
          less : (o : Option ℕ) → IsFirst (by_rows newer) i (col_at newer node + 1) o → left_from (by_rows newer) width o < width - col_at new node
          less None f = omega arith
          less (Some m) f = (let l = f.0.index in let c = there.col in omega arith)

-- where the next node stands from column `limit` on, or there is none
module _ (old new : List Node) (i n limit : ℕ) (times : ℚ) (small : Bool) (left next : Option ℕ) (h : IsPassing old new i n limit times small left next)
    (le : n ≤ limit) (far : (m : ℕ) → next ≡ Some m → limit ≤ col_at new m) where
  rest : (k : ℕ) → reach new n left ≤ k → k < limit → is_zero (entry_at new i k) ≡ true
  rest k u l = gap_before new i (index_after (by_rows new) left) next h.walk.next k (omega arith) (λ m e. (let f = far m e in omega arith))

  reached : (o : Option ℕ) → StandsBefore (by_rows new) i limit o → reach new n o ≤ limit
  reached None s = omega arith
  reached (Some p) s = (let l = s.index in omega arith)

  pub passing_ends : IsMultiplied old new i n limit times
  passing_ends = multiplied_skip old new i n (reach new n left) times h.row limit (reached left h.walk.stop) rest

  pub passing_small : IsTrue small → AreProducts old i n limit times
  passing_small t = products_skip old i n (reach new n left) limit times (λ k u v. ap is_zero (sym (h.row.behind k u)) ∙ rest k u v) (h.whole t)

  pub passing_last : IsLast (by_rows new) i limit left
  passing_last = last next h.walk far
    where
      last : (o : Option ℕ) → IsWalk (by_rows new) i limit left o → ((m : ℕ) → o ≡ Some m → limit ≤ col_at new m) → IsLast (by_rows new) i limit left
      last None w f = walk_ends (by_rows new) i limit left w
      last (Some m) w f = walk_stops (by_rows new) i limit left m w (f m refl)
