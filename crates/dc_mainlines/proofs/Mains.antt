-- The main problem is one in pairs, so that the clauses show what a certificate claims.
use Rattle.std.specs.Prelude.{◌≡◌, ℕ, zero, suc, ◌*◌, ◌≤◌, ◌<◌, List, [], ◌∷◌, ◌++◌, flat_map, length, slice_get, pos, neg_ℤ, Option, Some, None}
use Rattle.std.specs.List.{range_with_len, AllByRecursion}
use Rattle.std.proofs.Common.{refl, sym, ◌∙◌, ap, subst, arith}
use Rattle.dc_math.specs.Members.{each_all, each-++, each-map, each-flat_map, get_each}
use Rattle.dc_math.specs.Rational.{ℚ, ◌≤ℚ◌}
use Rattle.dc_math.specs.Order.{of_ℤ_injective}
use Rattle.dc_lp.specs.Linear.{Linear, cost_of, IsSolution}
use Rattle.dc_lp.specs.Problems.{coefficient, whole_at}
use Rattle.dc_points.specs.Stated.{rational}
use Rattle.dc_points.proofs.Same.{same_problem}
use Rattle.dc_cert.specs.declared.certificate.Body.TheVariants.{Threshold, Nothing, Vacuous}
use Rattle.dc_syntax.specs.declared.tree.Side.{Side}
use Rattle.dc_syntax.specs.declared.tree.Side.TheVariants.{New, Old}
use Rattle.dc_claims.specs.declared.duty.Duty.{Duty}
use Rattle.dc_claims.specs.declared.duty.Unknown.{Unknown}
use Rattle.dc_claims.specs.declared.duty.Unknown.TheVariants.{Bound, Coefficient}
use Rattle.dc_claims.specs.Duties.{Pair, Flags, duties_of}
use Rattle.dc_claims.specs.Parts.{unknowns_at, unknowns_on, unknowns_of}
use Rattle.dc_claims.specs.Claims.{IsLeast}
use Rattle.dc_claims.specs.Problems.{Column, Plus, Minus, Times, both_signs, products_at, multipliers_at, equations_of, entry_or_zero, cost_in, cost_or_zero, main_problem, Equation}
use Rattle.dc_claims.proofs.Costs.{outcomes_are_claims}
use Rattle.dc_clauses.specs.Mains.{whole_problem}
use Rattle.dc_mainlines.specs.Laws.{MainProblemsArePaired, StepsShowClaims, ProblemsAreWhole}
use Rattle.dc_mainlines.proofs.Shown.{steps_show}

-- ---- the columns of the unknowns
plus_at : (us : List Unknown) (cs : List Column) (k : ℕ) (u : Unknown) → slice_get us k ≡ Some u → slice_get (flat_map both_signs us ++ cs) (k * 2) ≡ Some (Plus u)
plus_at [] cs k u e = absurd cc
plus_at (v ∷ us) cs zero u e = let s : v ≡ u = cc in ap (slice_get (flat_map both_signs (v ∷ us) ++ cs)) (let z : 0 * 2 ≡ 0 = omega arith in z) ∙ ap (λ w. Some (Plus w)) s
plus_at (v ∷ us) cs (suc k) u e = ap (slice_get (flat_map both_signs (v ∷ us) ++ cs)) (let z : suc k * 2 ≡ suc (suc (k * 2)) = omega arith in z) ∙ plus_at us cs k u e

minus_at : (us : List Unknown) (cs : List Column) (k : ℕ) (u : Unknown) → slice_get us k ≡ Some u → slice_get (flat_map both_signs us ++ cs) (suc (k * 2)) ≡ Some (Minus u)
minus_at [] cs k u e = absurd cc
minus_at (v ∷ us) cs zero u e = let s : v ≡ u = cc in ap (slice_get (flat_map both_signs (v ∷ us) ++ cs)) (let z : suc (0 * 2) ≡ 1 = omega arith in z) ∙ ap (λ w. Some (Minus w)) s
minus_at (v ∷ us) cs (suc k) u e = ap (slice_get (flat_map both_signs (v ∷ us) ++ cs)) (let z : suc (suc k * 2) ≡ suc (suc (suc (k * 2))) = omega arith in z) ∙ minus_at us cs k u e

times_at : (us : List Unknown) (cs : List Column) (j : ℕ) → length us * 2 ≤ j → (i : ℕ) × (slice_get (flat_map both_signs us ++ cs) j ≡ slice_get cs i)
times_at [] cs j l = (j, refl)
times_at (v ∷ us) cs zero l = absurd (omega arith)
times_at (v ∷ us) cs (suc zero) l = absurd (omega arith)
times_at (v ∷ us) cs (suc (suc j)) l = times_at us cs j (omega arith)

pairs_room : (us : List Unknown) (cs : List Column) → length us * 2 ≤ length (flat_map both_signs us ++ cs)
pairs_room [] cs = omega arith
pairs_room (v ∷ us) cs = let h = pairs_room us cs in omega arith

some_at : {A : Type 0} (xs : List A) (k : ℕ) → k < length xs → (x : A) × (slice_get xs k ≡ Some x)
some_at [] k l = absurd (omega arith)
some_at (x ∷ xs) zero l = (x, refl)
some_at (x ∷ xs) (suc k) l = some_at xs k (omega arith)

-- ---- what they cost
abbrev IsFree : Column → Type 0
IsFree c = cost_in c ≡ pos 0

abbrev IsCoefficient : Unknown → Type 0
IsCoefficient u = IsFree (Plus u)

free_times : (p : Pair) (d k : ℕ) (os : List Duty) → AllByRecursion IsFree (flat_map (multipliers_at p k) os)
free_times p d k os = each-flat_map IsFree (multipliers_at p k) os (each_all _ os (λ o. each-map IsFree (Times o) _ (each_all _ (range_with_len 0 (length (products_at p k o))) (λ i. refl))))

free_on : (p : Pair) (d : ℕ) (side : Side) → AllByRecursion IsCoefficient (unknowns_on p d side)
free_on p d side = each-flat_map IsCoefficient (unknowns_at p d side) _ (each_all _ _ (λ l. each-map IsCoefficient (Coefficient side l) _ (each_all _ _ (λ i. refl))))

free_at : (cs : List Column) (i : ℕ) → AllByRecursion IsFree cs → cost_or_zero (slice_get cs i) ≡ pos 0
free_at [] i h = refl
free_at (c ∷ cs) zero h = h.0
free_at (c ∷ cs) (suc i) h = free_at cs i h.1

opposite_cost : (u : Unknown) → cost_in (Minus u) ≡ neg_ℤ (cost_in (Plus u))
opposite_cost Bound = refl
opposite_cost (Coefficient s l i) = refl

module _ (p : Pair) (d k : ℕ) (f : Flags) where
  opposite_entry : (q : Option Equation) (u : Unknown) → entry_or_zero p d k q (Some (Minus u)) ≡ neg_ℤ (entry_or_zero p d k q (Some (Plus u)))
  opposite_entry None u = refl
  opposite_entry (Some q) u = refl

  behind_columns : List Column
  behind_columns = flat_map (multipliers_at p k) (duties_of f)

  minus_column : (i j : ℕ) → j < length (unknowns_of p d) → (main_problem p d k f).coefficient i (suc (j * 2)) ≡ neg_ℤ ((main_problem p d k f).coefficient i (j * 2))
  minus_column i j l =
      let s = some_at (unknowns_of p d) j l in
      let cs = flat_map (multipliers_at p k) (duties_of f) in
      ap (entry_or_zero p d k (slice_get (equations_of p d k f) i)) (minus_at (unknowns_of p d) cs j s.0 s.1)
      ∙ opposite_entry (slice_get (equations_of p d k f) i) s.0
      ∙ ap (λ c. neg_ℤ (entry_or_zero p d k (slice_get (equations_of p d k f) i) c)) (sym (plus_at (unknowns_of p d) cs j s.0 s.1))

  minus_costs : (j : ℕ) → j < length (unknowns_of p d) → (main_problem p d k f).cost (suc (j * 2)) ≡ neg_ℤ ((main_problem p d k f).cost (j * 2))
  minus_costs j l =
      let s = some_at (unknowns_of p d) j l in
      let cs = flat_map (multipliers_at p k) (duties_of f) in
      ap cost_or_zero (minus_at (unknowns_of p d) cs j s.0 s.1) ∙ opposite_cost s.0 ∙ ap (λ c. neg_ℤ (cost_or_zero c)) (sym (plus_at (unknowns_of p d) cs j s.0 s.1))

  other_costs : (j : ℕ) → 1 ≤ j → j < length (unknowns_of p d) → (main_problem p d k f).cost (j * 2) ≡ pos 0
  other_costs zero l g = absurd (omega arith)
  other_costs (suc j) l g =
      let us = unknowns_on p d New ++ unknowns_on p d Old in
      let s = some_at (unknowns_of p d) (suc j) g in
      ap cost_or_zero (plus_at (unknowns_of p d) (flat_map (multipliers_at p k) (duties_of f)) (suc j) s.0 s.1)
      ∙ get_each IsCoefficient us (each-++ IsCoefficient (unknowns_on p d New) (unknowns_on p d Old) (free_on p d New) (free_on p d Old)) j s.0 s.1

  times_costs : (j : ℕ) → length (unknowns_of p d) * 2 ≤ j → (main_problem p d k f).cost j ≡ pos 0
  times_costs j l =
      let cs = flat_map (multipliers_at p k) (duties_of f) in
      let s = times_at (unknowns_of p d) cs j l in
      ap cost_or_zero s.1 ∙ free_at cs s.0 (free_times p d k (duties_of f))

pub main_problems_are_paired : MainProblemsArePaired
main_problems_are_paired p d k f = record {
  some = omega arith;
  room = pairs_room (unknowns_of p d) (flat_map (multipliers_at p k) (duties_of f));
  minus = λ i j l. minus_column p d k f i j l;
  first = refl;
  others = λ j l g. other_costs p d k f j l g;
  minus_cost = λ j l. minus_costs p d k f j l;
  multipliers = λ j l. times_costs p d k f j l;
}

pub steps_show_claims : StepsShowClaims
steps_show_claims p d k f (Threshold t unknown lambda dual) fit right a =
    let s = steps_show (main_problem p d k f) (length (unknowns_of p d)) (Threshold t unknown lambda dual) (main_problems_are_paired p d k f) a in
    subst (IsLeast p d k) s.2 ((outcomes_are_claims p d k f fit right).least s.0 s.1 (subst (λ v. (x : ℕ → ℚ) → IsSolution (rational (main_problem p d k f)) x → v ≤ℚ cost_of (rational (main_problem p d k f)) x) (sym s.2) s.3))
steps_show_claims p d k f (Nothing dual) fit right a =
    (outcomes_are_claims p d k f fit right).none (steps_show (main_problem p d k f) (length (unknowns_of p d)) (Nothing dual) (main_problems_are_paired p d k f) a)
steps_show_claims p d k f (Vacuous unknown lambda ray_unknown ray_lambda) fit right a =
    let s = steps_show (main_problem p d k f) (length (unknowns_of p d)) (Vacuous unknown lambda ray_unknown ray_lambda) (main_problems_are_paired p d k f) a in
    (outcomes_are_claims p d k f fit right).every s.0 s.1 s.2

-- ---- a problem by columns
pub problems_are_whole : ProblemsAreWhole
problems_are_whole q m e =
    same_problem (whole_problem q) m (ap (λ (l : Linear ℚ). l.equations) e) (ap (λ (l : Linear ℚ). l.columns) e)
    (λ i j. of_ℤ_injective (coefficient q i j) (m.coefficient i j) (ap (λ (l : Linear ℚ). l.coefficient i j) e))
    (λ i. of_ℤ_injective (whole_at q.b.items i) (m.right_side i) (ap (λ (l : Linear ℚ). l.right_side i) e))
    (λ j. of_ℤ_injective (whole_at q.cost.items j) (m.cost j) (ap (λ (l : Linear ℚ). l.cost j) e))
