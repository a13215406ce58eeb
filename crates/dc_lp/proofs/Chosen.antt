-- What enters, what leaves and what is driven out, over any ordered field.
use Rattle.std.proofs.Common.{◌≡◌, ◌≢◌, ℕ, zero, suc, ◌<◌, ◌≤◌, inl, inr, ◌&&◌, not, true, false, nat_lt, length, slice_index, Option, Some, None, refl, sym, ◌∙◌, ap, subst, arith}
use Rattle.std.specs.Option.{option_map}
use Rattle.std.proofs.lemmas.Bool.{cases_Bool, cases_eq, both_ways, ltb-true, ltb-false, not-true, not-false, or_cases, or_parts, and_parts, and_cases, le-ltb}
use Rattle.dc_math.specs.Field.{Field, minus, nonneg, is_below, is_negative, is_positive, is_zero}
use Rattle.dc_math.specs.FieldOrder.{nonneg_zero, at_most_zero, above-nonzero, minus_chain, minus-flip}
use Rattle.dc_lp.specs.Tables.{Table, at, entering, ratio_row, ratio_of, best_below, better, goes_before, drive_cell, cell_in, is_artificial, real_entry}
use Rattle.dc_lp.proofs.Firsts.{first_some-all, first_some-is, index-none, index-some}

pair_of : (i k r j : ℕ) → ◌≡◌ {A = Option (ℕ × ℕ)} (Some (i, k)) (Some (r, j)) → (i ≡ r) × (k ≡ j)
pair_of i k r j e = (let f : ◌≡◌ {A = ℕ × ℕ} (i, k) (r, j) = (cc) in (ap (λ (p : ℕ × ℕ). p.0) f, ap (λ (p : ℕ × ℕ). p.1) f))

none-pair : (r j : ℕ) → ◌≡◌ {A = Option (ℕ × ℕ)} None (Some (r, j)) → ⊥
none-pair r j e = absurd (cc)

module _ (Q : Type 0) (F : Field Q) where
  pub entering-is : (t : Table Q) (i j : ℕ) → entering Q F t i ≡ Some j → (j < t.real) × (nonneg Q F (at Q F t i j) ≡ false) × ((k : ℕ) → k < j → nonneg Q F (at Q F t i k) ≡ true)
  unfolding entering
  entering-is t i j e =
      let h = index-some (λ k. is_negative Q F (at Q F t i k)) t.real j e in
      (h.0, not-true (nonneg Q F (at Q F t i j)) h.1, λ k l. not-false (nonneg Q F (at Q F t i k)) (h.2 k l))

  -- the tests of signs, by the numbers that are at least 0
  below-true : (x y : Q) → is_below Q F x y ≡ true → nonneg Q F (minus Q F x y) ≡ false
  below-true x y e = sym (F.at_most_sub y x) ∙ not-true (F.at_most y x) e

  below-false : (x y : Q) → is_below Q F x y ≡ false → nonneg Q F (minus Q F x y) ≡ true
  below-false x y e = sym (F.at_most_sub y x) ∙ not-false (F.at_most y x) e

  positive-true : (x : Q) → is_positive Q F x ≡ true → nonneg Q F (F.neg x) ≡ false
  positive-true x e = sym (at_most_zero Q F x) ∙ not-true (F.at_most x F.zero_q) e

  positive-false : (x : Q) → is_positive Q F x ≡ false → nonneg Q F (F.neg x) ≡ true
  positive-false x e = sym (at_most_zero Q F x) ∙ not-false (F.at_most x F.zero_q) e

  -- the quotient of row i is at most that of row k, and where they tie its basic column is at most that of row k
  pub record Leads (t : Table Q) (j i k : ℕ) : Type 0 where
    pub best : nonneg Q F (minus Q F (ratio_of Q F t j k) (ratio_of Q F t j i)) ≡ true
    pub tie : nonneg Q F (minus Q F (ratio_of Q F t j i) (ratio_of Q F t j k)) ≡ true → slice_index t.basis i ≤ slice_index t.basis k

  pub other-way : (x y : Q) → nonneg Q F (minus Q F x y) ≡ false → nonneg Q F (minus Q F y x) ≡ true
  other-way x y e = sym (ap (nonneg Q F) (minus-flip Q F x y)) ∙ F.nonneg_neg (minus Q F x y) e

  two-steps : (x y z : Q) → nonneg Q F (minus Q F x y) ≡ true → nonneg Q F (minus Q F y z) ≡ true → nonneg Q F (minus Q F x z) ≡ true
  two-steps x y z e f = sym (ap (nonneg Q F) (minus_chain Q F x y z)) ∙ F.nonneg_add (minus Q F x y) (minus Q F y z) e f

  leads-self : (t : Table Q) (j i : ℕ) → Leads t j i i
  leads-self t j i = record { best = ap (nonneg Q F) (F.add_neg (ratio_of Q F t j i)) ∙ nonneg_zero Q F; tie = λ e. omega arith }

  leads-then : (t : Table Q) (j i k l : ℕ) → Leads t j i k → Leads t j k l → Leads t j i l
  leads-then t j i k l a b =
      let f : ℕ → Q = ratio_of Q F t j in
      record {
        best = two-steps (f l) (f k) (f i) b.best a.best;
        tie = λ e. (let x : slice_index t.basis i ≤ slice_index t.basis k = a.tie (two-steps (f i) (f l) (f k) e b.best) in
            let y : slice_index t.basis k ≤ slice_index t.basis l = b.tie (two-steps (f k) (f i) (f l) a.best e) in omega arith);
      }

  before-leads : (t : Table Q) (j i k : ℕ) → goes_before Q F t j i k ≡ true → Leads t j i k
  unfolding goes_before
  before-leads t j i k e =
      let f : ℕ → Q = ratio_of Q F t j in
      elim (or_cases (is_below Q F (f i) (f k)) (not (is_below Q F (f k) (f i)) && nat_lt (slice_index t.basis i) (slice_index t.basis k)) e) [
        | inl h ↦ (let less : nonneg Q F (minus Q F (f i) (f k)) ≡ false = below-true (f i) (f k) h in
            record { best = other-way (f i) (f k) less; tie = λ x. absurd (both_ways (nonneg Q F (minus Q F (f i) (f k))) less x) })
        | inr h ↦ (let a = and_parts (not (is_below Q F (f k) (f i))) (nat_lt (slice_index t.basis i) (slice_index t.basis k)) h in
            let less : slice_index t.basis i < slice_index t.basis k = ltb-true (slice_index t.basis i) (slice_index t.basis k) a.1 in
            record { best = below-false (f k) (f i) (not-true (is_below Q F (f k) (f i)) a.0); tie = λ x. omega arith })
      ]

  not_before-leads : (t : Table Q) (j i k : ℕ) → goes_before Q F t j i k ≡ false → Leads t j k i
  unfolding goes_before
  not_before-leads t j i k e =
      let f : ℕ → Q = ratio_of Q F t j in
      let a = or_parts (is_below Q F (f i) (f k)) (not (is_below Q F (f k) (f i)) && nat_lt (slice_index t.basis i) (slice_index t.basis k)) e in
      let up : nonneg Q F (minus Q F (f i) (f k)) ≡ true = below-false (f i) (f k) a.0 in
      elim (and_cases (not (is_below Q F (f k) (f i))) (nat_lt (slice_index t.basis i) (slice_index t.basis k)) a.1) [
        | inl h ↦ (let less : nonneg Q F (minus Q F (f k) (f i)) ≡ false = below-true (f k) (f i) (not-false (is_below Q F (f k) (f i)) h) in
            record { best = up; tie = λ x. absurd (both_ways (nonneg Q F (minus Q F (f k) (f i))) less x) })
        | inr h ↦ (let le : slice_index t.basis k ≤ slice_index t.basis i = ltb-false (slice_index t.basis i) (slice_index t.basis k) h in record { best = up; tie = λ x. le })
      ]

  -- a row that goes before another and ties with it has the lesser basic column
  before-strict : (t : Table Q) (j i k : ℕ) → goes_before Q F t j i k ≡ true → nonneg Q F (minus Q F (ratio_of Q F t j i) (ratio_of Q F t j k)) ≡ true → slice_index t.basis i < slice_index t.basis k
  unfolding goes_before
  before-strict t j i k e x =
      let f : ℕ → Q = ratio_of Q F t j in
      elim (or_cases (is_below Q F (f i) (f k)) (not (is_below Q F (f k) (f i)) && nat_lt (slice_index t.basis i) (slice_index t.basis k)) e) [
        | inl h ↦ absurd (both_ways (nonneg Q F (minus Q F (f i) (f k))) (below-true (f i) (f k) h) x)
        | inr h ↦ ltb-true (slice_index t.basis i) (slice_index t.basis k) (and_parts (not (is_below Q F (f k) (f i))) (nat_lt (slice_index t.basis i) (slice_index t.basis k)) h).1
      ]

  -- of the first n rows with a positive entry, r leads, and is the first of those that lead
  pub record IsBest (t : Table Q) (j n r : ℕ) : Type 0 where
    pub below : r < n
    pub positive : nonneg Q F (F.neg (at Q F t r j)) ≡ false
    pub leads : (i : ℕ) → i < n → nonneg Q F (F.neg (at Q F t i j)) ≡ false → Leads t j r i
    pub first : (i : ℕ) → i < r → nonneg Q F (F.neg (at Q F t i j)) ≡ false
        → nonneg Q F (minus Q F (ratio_of Q F t j r) (ratio_of Q F t j i)) ≡ true → slice_index t.basis r < slice_index t.basis i

  best-none : (t : Table Q) (j n : ℕ) → best_below Q F t j n ≡ None → (i : ℕ) → i < n → nonneg Q F (F.neg (at Q F t i j)) ≡ true
  best-none t j zero e i l = absurd (omega arith)
  best-none t j (suc n) e i l = elim (cases_Bool (is_positive Q F (at Q F t n j))) [
    | inl p ↦ absurd (never (best_below Q F t j n) (rw p at e))
    | inr p ↦ elim (cases_eq i n) [
      | inl same ↦ ap (λ x. nonneg Q F (F.neg (at Q F t x j))) same ∙ positive-false (at Q F t n j) p
      | inr ne ↦ best-none t j n (rw p at e) i (omega arith)
    ]
  ]
    where
      never : (o : Option ℕ) → better Q F t j n o ≡ None → ⊥
      never None e = absurd (cc)
      never (Some k) e = elim (cases_Bool (goes_before Q F t j n k)) [ inl b ↦ (let f : ◌≡◌ {A = Option ℕ} (Some n) None = rw b at e in absurd (cc)) | inr b ↦ (let f : ◌≡◌ {A = Option ℕ} (Some k) None = rw b at e in absurd (cc)) ]

  best-more : (t : Table Q) (j n r : ℕ) → is_positive Q F (at Q F t n j) ≡ true → (o : Option ℕ) → best_below Q F t j n ≡ o → ((k : ℕ) → best_below Q F t j n ≡ Some k → IsBest t j n k) → better Q F t j n o ≡ Some r → IsBest t j (suc n) r
  best-more t j n r p None b ih e = (let same : n ≡ r = (cc) in
      record {
        below = omega arith;
        positive = ap (λ x. nonneg Q F (F.neg (at Q F t x j))) (sym same) ∙ positive-true (at Q F t n j) p;
        leads = λ i l h. elim (cases_eq i n) [
          | inl here ↦ subst (λ x. Leads t j r x) (sym (here ∙ same)) (leads-self t j r)
          | inr ne ↦ absurd (both_ways (nonneg Q F (F.neg (at Q F t i j))) h (best-none t j n b i (omega arith)))
        ];
        first = λ i l h x. absurd (both_ways (nonneg Q F (F.neg (at Q F t i j))) h (best-none t j n b i (omega arith)));
      })
  best-more t j n r p (Some k) b ih e =
      let old : IsBest t j n k = ih k b in
      let low : k < n = old.below in
      elim (cases_Bool (goes_before Q F t j n k)) [
        | inl g ↦ (let f : ◌≡◌ {A = Option ℕ} (Some n) (Some r) = rw g at e in let same : n ≡ r = (cc) in
            let lead : Leads t j n k = before-leads t j n k g in
            record {
              below = omega arith;
              positive = ap (λ x. nonneg Q F (F.neg (at Q F t x j))) (sym same) ∙ positive-true (at Q F t n j) p;
              leads = λ i l h. elim (cases_eq i n) [
                | inl here ↦ subst (λ x. Leads t j r x) (sym (here ∙ same)) (leads-self t j r)
                | inr ne ↦ subst (λ x. Leads t j x i) same (leads-then t j n k i lead (old.leads i (omega arith) h))
              ];
              first = λ i l h x.
                  let f : ℕ → Q = ratio_of Q F t j in
                  let y : nonneg Q F (minus Q F (f n) (f i)) ≡ true = ap (λ z. nonneg Q F (minus Q F (f z) (f i))) same ∙ x in
                  let under : Leads t j k i = old.leads i (omega arith) h in
                  let up : slice_index t.basis n < slice_index t.basis k = before-strict t j n k g (two-steps (f n) (f i) (f k) y under.best) in
                  let on : slice_index t.basis k ≤ slice_index t.basis i = under.tie (two-steps (f k) (f n) (f i) lead.best y) in
                  subst (λ z. slice_index t.basis z < slice_index t.basis i) same (let l : slice_index t.basis n < slice_index t.basis i = omega arith in l);
            })
        | inr g ↦ (let f : ◌≡◌ {A = Option ℕ} (Some k) (Some r) = rw g at e in let same : k ≡ r = (cc) in
            record {
              below = omega arith;
              positive = ap (λ x. nonneg Q F (F.neg (at Q F t x j))) (sym same) ∙ old.positive;
              leads = λ i l h. elim (cases_eq i n) [
                | inl here ↦ subst (λ x. Leads t j r x) (sym here) (subst (λ x. Leads t j x n) same (not_before-leads t j n k g))
                | inr ne ↦ subst (λ x. Leads t j x i) same (old.leads i (omega arith) h)
              ];
              first = λ i l h x. subst (λ z. slice_index t.basis z < slice_index t.basis i) same
                  (old.first i (omega arith) h (ap (λ z. nonneg Q F (minus Q F (ratio_of Q F t j z) (ratio_of Q F t j i))) same ∙ x));
            })
      ]

  best-is : (t : Table Q) (j n r : ℕ) → best_below Q F t j n ≡ Some r → IsBest t j n r
  best-is t j zero r e = absurd (cc)
  best-is t j (suc n) r e = elim (cases_Bool (is_positive Q F (at Q F t n j))) [
    | inl p ↦ best-more t j n r p (best_below Q F t j n) refl (best-is t j n) (rw p at e)
    | inr p ↦ (let old : IsBest t j n r = best-is t j n r (rw p at e) in let low : r < n = old.below in
        record {
          below = omega arith;
          positive = old.positive;
          leads = λ i l h. elim (cases_eq i n) [
            | inl here ↦ absurd (both_ways (nonneg Q F (F.neg (at Q F t i j))) h (ap (λ x. nonneg Q F (F.neg (at Q F t x j))) here ∙ positive-false (at Q F t n j) p))
            | inr ne ↦ old.leads i (omega arith) h
          ];
          first = old.first;
        })
  ]

  pub ratio_row-is : (t : Table Q) (j r : ℕ) → ratio_row Q F t j ≡ Some r → IsBest t j (length t.basis) r
  unfolding ratio_row
  ratio_row-is t j r e = best-is t j (length t.basis) r e

  pub ratio_row-none : (t : Table Q) (j : ℕ) → ratio_row Q F t j ≡ None → (i : ℕ) → i < length t.basis → nonneg Q F (F.neg (at Q F t i j)) ≡ true
  unfolding ratio_row
  ratio_row-none t j e = best-none t j (length t.basis) e

  pub zero-is : (x : Q) → is_zero Q F x ≡ true → x ≡ F.zero_q
  zero-is x e = (let h = and_parts (F.at_most x F.zero_q) (nonneg Q F x) e in F.nonneg_both x h.1 (sym (at_most_zero Q F x) ∙ h.0))

  zero-not : (x : Q) → is_zero Q F x ≡ false → x ≢ F.zero_q
  zero-not x e z = elim (and_cases (F.at_most x F.zero_q) (nonneg Q F x) e) [
    | inl h ↦ above-nonzero Q F x (sym (at_most_zero Q F x) ∙ h) z
    | inr h ↦ both_ways (nonneg Q F x) h (ap (nonneg Q F) z ∙ nonneg_zero Q F)
  ]

  -- where a column is driven out
  pub record IsDrive (t : Table Q) (r j : ℕ) : Type 0 where
    pub row : r < length t.basis
    pub artificial : t.real ≤ slice_index t.basis r
    pub column : j < t.real
    pub nonzero : at Q F t r j ≢ F.zero_q

  entry-in : (t : Table Q) (i r j : ℕ) (o : Option ℕ) → real_entry Q F t i ≡ o → option_map {U = ℕ × ℕ} (λ k. (i, k)) o ≡ Some (r, j) → (i ≡ r) × (real_entry Q F t i ≡ Some j)
  entry-in t i r j None e h = absurd (none-pair r j h)
  entry-in t i r j (Some k) e h = (let h' = pair_of i k r j h in (h'.0, e ∙ ap Some h'.1))

  real_entry-is : (t : Table Q) (i j : ℕ) → real_entry Q F t i ≡ Some j → (j < t.real) × (at Q F t i j ≢ F.zero_q)
  unfolding real_entry
  real_entry-is t i j e =
      let h = index-some (λ k. not (is_zero Q F (at Q F t i k))) t.real j e in
      (h.0, zero-not (at Q F t i j) (not-true (is_zero Q F (at Q F t i j)) h.1))

  pub drive-is : (t : Table Q) (r j : ℕ) → drive_cell Q F t ≡ Some (r, j) → IsDrive t r j
  unfolding drive_cell
  drive-is t r j e =
      let k = first_some-is (cell_in Q F t) (length t.basis) (r, j) e in
      elim (cases_Bool (is_artificial Q F t k.0)) [
        | inl b ↦ (let h = entry-in t k.0 r j (real_entry Q F t k.0) refl (rw b at k.2) in
            let same : k.0 ≡ r = h.0 in
            let below : k.0 < length t.basis = k.1 in
            let z = real_entry-is t k.0 j h.1 in
            record {
              row = omega arith;
              artificial = subst (λ x. t.real ≤ slice_index t.basis x) same (ltb-false (slice_index t.basis k.0) t.real (not-true (nat_lt (slice_index t.basis k.0) t.real) b));
              column = z.0;
              nonzero = subst (λ x. at Q F t x j ≢ F.zero_q) same z.1;
            })
        | inr b ↦ absurd (none-pair r j (rw b at k.2))
      ]

  map-none : (i : ℕ) (o : Option ℕ) → option_map {U = ℕ × ℕ} (λ k. (i, k)) o ≡ None → o ≡ None
  map-none i None e = refl
  map-none i (Some k) e = absurd (cc)

  real_entry-none : (t : Table Q) (i : ℕ) → real_entry Q F t i ≡ None → (k : ℕ) → k < t.real → at Q F t i k ≡ F.zero_q
  unfolding real_entry
  real_entry-none t i e k l = zero-is (at Q F t i k) (not-false (is_zero Q F (at Q F t i k)) (index-none (λ x. not (is_zero Q F (at Q F t i x))) t.real e k l))

  pub drive-none : (t : Table Q) → drive_cell Q F t ≡ None → (i : ℕ) → i < length t.basis → t.real ≤ slice_index t.basis i → (k : ℕ) → k < t.real → at Q F t i k ≡ F.zero_q
  unfolding drive_cell
  drive-none t e i l a k lk =
      let h : cell_in Q F t i ≡ None = first_some-all (cell_in Q F t) (length t.basis) e i l in
      let b : is_artificial Q F t i ≡ true = ap not (le-ltb (slice_index t.basis i) t.real a) in
      real_entry-none t i (map-none i (real_entry Q F t i) (rw b at h)) k lk

  pub entering-none : (t : Table Q) (i : ℕ) → entering Q F t i ≡ None → (k : ℕ) → k < t.real → nonneg Q F (at Q F t i k) ≡ true
  unfolding entering
  entering-none t i e k l = not-false (nonneg Q F (at Q F t i k)) (index-none (λ x. is_negative Q F (at Q F t i x)) t.real e k l)
