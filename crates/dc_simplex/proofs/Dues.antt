-- What is due, from the answers of a tableau's calls.
use Rattle.std.proofs.Common.{◌≡◌, ℕ, zero, suc, ◌+◌, ◌<◌, Bool, true, false, cond, not, ◌||◌, length, Option, Some, None, Result, Ok, Err, IsSome, refl, ◌∙◌, inl, inr}
use Rattle.std.proofs.lemmas.Bool.{cases_Bool}
use Rattle.dc_math.specs.Rational.{ℚ}
use Rattle.dc_math.specs.RationalField.{rationals}
use Rattle.dc_frac.specs.Fits.{quotient_fits}
use Rattle.dc_math.specs.Tests as tests
use Rattle.dc_lp.specs.declared.tableau.PastQuotient.{PastQuotient}
use Rattle.dc_lp.specs.Folds.{checked}
use Rattle.dc_lp.specs.Tables as tables
use Rattle.dc_lp.specs.Tables.{Table, first_some, first_index}
use Rattle.dc_lp.specs.Meanings.{at, right, entering, ratio_row, ratio_answer, ratios_fit, ratios_fit_below, drive_cell, all_below}
use Rattle.dc_pivots.specs.Runs as runs
use Rattle.dc_pivots.specs.declared.Phase.TheVariants.{One, Drive, Two}
use Rattle.dc_pivots.specs.declared.Ending.TheVariants.{Infeasible, Optimal, Unbounded}
use Rattle.dc_pivots.specs.declared.Due.{Due}
use Rattle.dc_pivots.specs.declared.Due.TheVariants.{Pivot, End}
use Rattle.dc_simplex.specs.Steps.{told, due_one, due_two, due_drive, end_one}
use Rattle.dc_lp.proofs.Firsts.{index-some, first_some-found, first_some-none}
use Rattle.dc_lp.proofs.Belows.{all_below-false_first}

abbrev pub real_entry : Table ℚ → ℕ → Option ℕ
real_entry t i = tables.real_entry ℚ rationals t i

abbrev pub is_artificial : Table ℚ → ℕ → Bool
is_artificial t i = tables.is_artificial ℚ rationals t i

abbrev pub cell_in : Table ℚ → ℕ → Option (ℕ × ℕ)
cell_in t i = tables.cell_in ℚ rationals t i

abbrev answered : Option ℕ → Result (Option ℕ) PastQuotient
answered o = Ok o

abbrev failed : PastQuotient → Result (Option ℕ) PastQuotient
failed x = Err x

abbrev unanswered : Result (Option ℕ) PastQuotient
unanswered = Err (record {})

answer-ok : (t : Table ℚ) (j : ℕ) (o : Option ℕ) → answered o ≡ ratio_answer t j → (ratios_fit t j ≡ true) × (ratio_row t j ≡ o)
answer-ok t j o a =
    elim (cases_Bool (ratios_fit t j)) [
      | inl b ↦ (let e : answered o ≡ answered (ratio_row t j) = rw b at a in (b, cc))
      | inr b ↦ (let e : answered o ≡ unanswered = rw b at a in absurd (cc))
    ]

answer-err : (t : Table ℚ) (j : ℕ) (x : PastQuotient) → failed x ≡ ratio_answer t j → ratios_fit t j ≡ false
answer-err t j x a =
    elim (cases_Bool (ratios_fit t j)) [
      | inl b ↦ (let e : failed x ≡ answered (ratio_row t j) = rw b at a in absurd (cc))
      | inr b ↦ b
    ]

some-of : (o : Option ℕ) → IsSome o → (r : ℕ) × (o ≡ Some r)
some-of None h = absurd (cc)
some-of (Some r) h = (r, refl)

-- The column that enters is real.
pub entering-real : (t : Table ℚ) (i j : ℕ) → entering t i ≡ Some j → j < t.real
unfolding tables.entering
entering-real t i j e = (index-some (λ k. tests.is_negative (at t i k)) t.real j e).0

-- Where a quotient doesn't fit, a row leaves.

better-some : (t : Table ℚ) (j i : ℕ) (o : Option ℕ) → IsSome (tables.better ℚ rationals t j i o)
better-some t j i None = refl
better-some t j i (Some k) = elim (tables.goes_before ℚ rationals t j i k) as (λ b. IsSome (cond b (Some i) (Some k))) [ true ↦ refl | false ↦ refl ]

best-some : (t : Table ℚ) (j n : ℕ) → all_below n (λ i. not (tests.is_positive (at t i j)) || quotient_fits (at t i (right t)) (at t i j)) ≡ false → IsSome (tables.best_below ℚ rationals t j n)
best-some t j zero e = absurd (cc)
best-some t j (suc n) e =
    elim (cases_Bool (tests.is_positive (at t n j))) [
      | inl p ↦ rw p (better-some t j n (tables.best_below ℚ rationals t j n))
      | inr p ↦ rw p (best-some t j n (all_below-false_first n _ e (rw p refl)))
    ]

pub ratio_row-some : (t : Table ℚ) (j : ℕ) → ratios_fit t j ≡ false → (r : ℕ) × (ratio_row t j ≡ Some r)
unfolding tables.ratio_row ratios_fit_below
ratio_row-some t j e = some-of (tables.best_below ℚ rationals t j (length t.basis)) (best-some t j (length t.basis) e)

-- Phase two.

pub two_none : (t : Table ℚ) → entering t (length t.basis + 1) ≡ None → told t (due_two t) ≡ Ok (End Optimal)
unfolding runs.due_two
two_none t e = rw e refl

pub two_unbounded : (t : Table ℚ) (j : ℕ) → entering t (length t.basis + 1) ≡ Some j → answered None ≡ ratio_answer t j → told t (due_two t) ≡ Ok (End (Unbounded j))
unfolding runs.due_two
two_unbounded t j e a = rw (e, (answer-ok t j None a).1) refl

pub two_pivot : (t : Table ℚ) (j r : ℕ) → entering t (length t.basis + 1) ≡ Some j → answered (Some r) ≡ ratio_answer t j → told t (due_two t) ≡ Ok (Pivot Two r j)
unfolding runs.due_two
two_pivot t j r e a = rw (e, (answer-ok t j (Some r) a).1, (answer-ok t j (Some r) a).0) refl

pub two_past : (t : Table ℚ) (j : ℕ) (x : PastQuotient) → entering t (length t.basis + 1) ≡ Some j → failed x ≡ ratio_answer t j → told t (due_two t) ≡ Err x
unfolding runs.due_two
two_past t j x e a =
    let b : ratios_fit t j ≡ false = answer-err t j x a in
    let r = ratio_row-some t j b in
    rw (e, r.1, b) refl

-- Drive-out.

pub drive_none : (t : Table ℚ) → drive_cell t ≡ None → told t (due_drive t) ≡ told t (due_two t)
unfolding runs.due_drive
drive_none t e = rw e refl

pub drive_pivot : (t : Table ℚ) (r j : ℕ) → drive_cell t ≡ Some (r, j) → told t (due_drive t) ≡ Ok (Pivot Drive r j)
unfolding runs.due_drive
drive_pivot t r j e = rw e refl

cell-here : (t : Table ℚ) (i j : ℕ) → is_artificial t i ≡ true → real_entry t i ≡ Some j → cell_in t i ≡ Some (i, j)
cell-here t i j a e = rw (a, e) refl

pub cell-none : (t : Table ℚ) (i : ℕ) → (is_artificial t i ≡ true → real_entry t i ≡ None) → cell_in t i ≡ None
cell-none t i h =
    elim (cases_Bool (is_artificial t i)) [
      | inl b ↦ rw (b, h b) refl
      | inr b ↦ rw b refl
    ]

pub drive-found : (t : Table ℚ) (i j : ℕ) → first_some (cell_in t) i ≡ None → i < length t.basis → is_artificial t i ≡ true → real_entry t i ≡ Some j → drive_cell t ≡ Some (i, j)
unfolding tables.drive_cell
drive-found t i j e lt a h = first_some-found (cell_in t) i (length t.basis) (i, j) e (cell-here t i j a h) lt

pub drive-none : (t : Table ℚ) (n : ℕ) → first_some (cell_in t) n ≡ None → n ≡ length t.basis → drive_cell t ≡ None
unfolding tables.drive_cell
drive-none t n e same = rw (← same) e

-- the first real entry of row i below column n
unfoldable pub entry_below : Table ℚ → ℕ → ℕ → Option ℕ
entry_below t i n = first_index (λ k. not (tests.is_zero (at t i k))) n

pub entry_below-start : (t : Table ℚ) (i : ℕ) → entry_below t i 0 ≡ None
unfolding entry_below
entry_below-start t i = refl

pub entry_below-more : (t : Table ℚ) (i n : ℕ) → entry_below t i n ≡ None → tests.is_zero (at t i n) ≡ true → entry_below t i (n + 1) ≡ None
unfolding entry_below
entry_below-more t i n e h = first_some-none (λ k. checked (not (tests.is_zero (at t i k))) k) n e (rw (h) refl)

pub real_entry-found : (t : Table ℚ) (i j : ℕ) → entry_below t i j ≡ None → tests.is_zero (at t i j) ≡ false → j < t.real → real_entry t i ≡ Some j
unfolding tables.real_entry entry_below
real_entry-found t i j e h lt = first_some-found (λ k. checked (not (tests.is_zero (at t i k))) k) j t.real j e (rw (h) refl) lt

pub real_entry-none : (t : Table ℚ) (i n : ℕ) → entry_below t i n ≡ None → n ≡ t.real → real_entry t i ≡ None
unfolding tables.real_entry entry_below
real_entry-none t i n e same = rw (← same) e

-- Phase one.

pub one_none : (t : Table ℚ) → entering t (length t.basis) ≡ None → told t (due_one t) ≡ told t (end_one t)
unfolding runs.due_one
one_none t e = rw e refl

pub one_stays : (t : Table ℚ) (j : ℕ) → entering t (length t.basis) ≡ Some j → answered None ≡ ratio_answer t j → told t (due_one t) ≡ told t (end_one t)
unfolding runs.due_one
one_stays t j e a = rw (e, (answer-ok t j None a).1) refl

pub one_pivot : (t : Table ℚ) (j r : ℕ) → entering t (length t.basis) ≡ Some j → answered (Some r) ≡ ratio_answer t j → told t (due_one t) ≡ Ok (Pivot One r j)
unfolding runs.due_one
one_pivot t j r e a = rw (e, (answer-ok t j (Some r) a).1, (answer-ok t j (Some r) a).0) refl

pub one_past : (t : Table ℚ) (j : ℕ) (x : PastQuotient) → entering t (length t.basis) ≡ Some j → failed x ≡ ratio_answer t j → told t (due_one t) ≡ Err x
unfolding runs.due_one
one_past t j x e a =
    let b : ratios_fit t j ≡ false = answer-err t j x a in
    let r = ratio_row-some t j b in
    rw (e, r.1, b) refl

pub end_infeasible : (t : Table ℚ) → tests.is_negative (at t (length t.basis) (right t)) ≡ true → told t (end_one t) ≡ Ok (End Infeasible)
unfolding runs.end_one
end_infeasible t e = rw e refl

pub end_drives : (t : Table ℚ) → tests.is_negative (at t (length t.basis) (right t)) ≡ false → told t (end_one t) ≡ told t (due_drive t)
unfolding runs.end_one
end_drives t e = rw e refl

pub ruleset dues = (two_none, two_unbounded, two_pivot, two_past, drive_none, drive_pivot, one_none, one_stays, one_pivot, one_past, end_infeasible, end_drives, entering-real, drive-found, real_entry-found, entry_below-start, entry_below-more, cell-none, real_entry-none, drive-none)
