-- Sums of sizes: a column of the starting table weighs no more than it should.
use Rattle.std.proofs.Common.{◌≡◌, ◌≢◌, ℕ, zero, suc, ◌+◌, ◌-◌, ◌<◌, ◌≤◌, true, false, cond, ◌==◌, List, [], ◌∷◌, refl, sym, ap, arith, inl, inr, eq-eqb}
use Rattle.std.specs.Prelude.{ℤ, pos, unsigned_abs, sum_by, ◌^◌, int_lt, nat_lt}
use Rattle.std.proofs.lemmas.Bool.{cases_Bool, eqb-true, eqb-false, ne_eqb, ltb-true, ltb-false}
use Rattle.std.proofs.lemmas.Int.{ints}
use Rattle.std.proofs.lemmas.List.Sums.{sum_by-cons}
use Rattle.dc_lp.specs.declared.Entry.{Entry}
use Rattle.dc_lp.specs.declared.Problem.{Problem}
use Rattle.dc_lp.specs.Problems.{IsWellFormed, coefficient_in, coefficient, columns, entries, weight, whole_at}
use Rattle.dc_lp.proofs.Tallies.{tally, tally-none, tally-first, tally-at_most, tally-same, tally-term, hit, once-at, once-from, tally-hit}
use Rattle.dc_start.specs.Starts.{signed, whole_entry, lowered}

-- ---- a column's entries, and a list of whole numbers

entry-step : (e : Entry) (es : List Entry) (a : ℕ) → unsigned_abs (coefficient_in (e ∷ es) a) ≤ hit (λ i. e.row == i) (unsigned_abs e.value) a + unsigned_abs (coefficient_in es a)
entry-step e es a = elim (cases_Bool (e.row == a)) [
  | inl s ↦ rw s (omega arith)
  | inr s ↦ rw s (omega arith)
]

tally-entries : (es : List Entry) (n : ℕ) → tally (λ a. unsigned_abs (coefficient_in es a)) n ≤ weight es
tally-entries [] n = omega (arith, tally-none (λ a. unsigned_abs (coefficient_in [] a)) n (λ a l. refl))
tally-entries (e ∷ es) n =
    omega (
      arith,
      tally-at_most (λ a. unsigned_abs (coefficient_in (e ∷ es) a)) (hit (λ i. e.row == i) (unsigned_abs e.value)) (λ a. unsigned_abs (coefficient_in es a)) n (entry-step e es),
      tally-hit (λ i. e.row == i) (unsigned_abs e.value) n (once-at e.row),
      tally-entries es n,
      sum_by-cons (λ (f : Entry). unsigned_abs f.value) e es,
    )

tally-wholes : (xs : List ℤ) (n : ℕ) → tally (λ a. unsigned_abs (whole_at xs a)) n ≤ sum_by unsigned_abs xs
tally-wholes [] n = omega (arith, tally-none (λ a. unsigned_abs (whole_at [] a)) n (λ a l. refl))
tally-wholes (x ∷ xs) zero = omega arith
tally-wholes (x ∷ xs) (suc n) = omega (arith, tally-first (λ a. unsigned_abs (whole_at (x ∷ xs) a)) n, tally-wholes xs n, sum_by-cons unsigned_abs x xs)

-- ---- the starting table

signed-size : (b x : ℤ) → unsigned_abs (signed b x) ≡ unsigned_abs x
signed-size b x = elim (cases_Bool (int_lt b (pos 0))) [
  | inl e ↦ rw e (omega (arith, ints))
  | inr e ↦ rw e refl
]

module _ (p : Problem) (h : IsWellFormed p) where
  real-size : (k : ℕ) → nat_lt k (columns p) ≡ true → (a : ℕ) → unsigned_abs (whole_entry p a k) ≡ unsigned_abs (coefficient p a k)
  unfolding whole_entry
  real-size k e a = rw e (signed-size (whole_at p.b.items a) (coefficient p a k))

  unit-size : (k : ℕ) → nat_lt k (columns p) ≡ false → nat_lt k (columns p + p.rows) ≡ true → (a : ℕ) → unsigned_abs (whole_entry p a k) ≡ hit (λ i. k == columns p + i) 1 a
  unfolding whole_entry
  unit-size k e f a = elim (cases_Bool (k == columns p + a)) [
    | inl g ↦ rw (e, f, g) refl
    | inr g ↦ rw (e, f, g) refl
  ]

  right-size : (k : ℕ) → nat_lt k (columns p) ≡ false → nat_lt k (columns p + p.rows) ≡ false → (a : ℕ) → unsigned_abs (whole_entry p a k) ≡ unsigned_abs (whole_at p.b.items a)
  unfolding whole_entry
  right-size k e f a = rw (e, f) (signed-size (whole_at p.b.items a) (whole_at p.b.items a))

  pub column-small : (k n : ℕ) → tally (λ a. unsigned_abs (whole_entry p a k)) n < 2 ^ 127
  column-small k n = elim (cases_Bool (nat_lt k (columns p))) [
    | inl e ↦
        (let w = (h.columns k (ltb-true k (columns p) e)).weight in
        omega (arith, w, tally-same (λ a. unsigned_abs (whole_entry p a k)) (λ a. unsigned_abs (coefficient p a k)) n (λ a l. real-size k e a), tally-entries (entries p k) n))
    | inr e ↦ elim (cases_Bool (nat_lt k (columns p + p.rows))) [
      | inl f ↦
          omega (
            arith,
            tally-same (λ a. unsigned_abs (whole_entry p a k)) (hit (λ i. k == columns p + i) 1) n (λ a l. unit-size k e f a),
            tally-hit (λ i. k == columns p + i) 1 n (once-from k (columns p)),
          )
      | inr f ↦ omega (arith, h.right_side_weight, tally-same (λ a. unsigned_abs (whole_entry p a k)) (λ a. unsigned_abs (whole_at p.b.items a)) n (λ a l. right-size k e f a), tally-wholes p.b.items n)
    ]
  ]

  pub entry-small : (i k : ℕ) → unsigned_abs (whole_entry p i k) < 2 ^ 127
  entry-small i k = omega (arith, column-small k (suc i), tally-term (λ a. unsigned_abs (whole_entry p a k)) (suc i) i (omega arith))

  lowered-size : (k n : ℕ) → unsigned_abs (lowered p k n) ≤ tally (λ a. unsigned_abs (whole_entry p a k)) n
  unfolding lowered
  lowered-size k zero = omega arith
  lowered-size k (suc n) = (let r : unsigned_abs (lowered p k n) ≤ tally (λ a. unsigned_abs (whole_entry p a k)) n = lowered-size k n in omega (arith, ints))

  pub lowered-small : (k n : ℕ) → unsigned_abs (lowered p k n) < 2 ^ 127
  lowered-small k n = omega (arith, column-small k n, lowered-size k n)
