-- Values have a split, each solution is the split of some values, and a split costs the threshold.
use Rattle.std.specs.Prelude.{◌≡◌, ◌⊎◌, ℕ, zero, suc, ◌+◌, ◌≤◌, ◌<◌, Bool, true, false, cond, ◌&&◌, eqb, List, [], ◌∷◌, ◌++◌, flat_map, length, slice_get, Option, Some, None, pos, neg_ℤ}
use Rattle.std.specs.List.{range_with_len, AllByRecursion}
use Rattle.std.proofs.Common.{refl, sym, ◌∙◌, ap, ap₂, subst, arith, inl, inr}
use Rattle.std.proofs.lemmas.Option.{slice_get_within}
use Rattle.dc_math.specs.Members.{each_all, each-++, each-map, each-flat_map, get_each}
use Rattle.dc_math.specs.Rational.{ℚ, ◌+ℚ◌, ◌-ℚ◌, ◌*ℚ◌, of_ℤ, ◌≤ℚ◌, ≤ℚ_refl, ≤ℚ_total, ≤ℚ-sub, NonNegative, +ℚ-zero, *ℚ-zero}
use Rattle.dc_math.specs.RationalRing.{ring, reads, read_nat, same_form}
use Rattle.dc_syntax.specs.declared.tree.Side.{Side}
use Rattle.dc_syntax.specs.declared.tree.Side.TheVariants.{New, Old}
use Rattle.dc_claims.specs.Duties.{Pair, system_of, Flags, duties_of, same_side, same_duty}
use Rattle.dc_claims.specs.declared.duty.Duty.{Duty}
use Rattle.dc_claims.specs.declared.duty.Unknown.{Unknown}
use Rattle.dc_claims.specs.declared.duty.Unknown.TheVariants.{Bound, Coefficient}
use Rattle.dc_claims.specs.Claims.{monomials_at}
use Rattle.dc_claims.specs.Parts.{unknowns_at, unknowns_on, unknowns_of}
use Rattle.dc_claims.specs.Problems.{Column, Plus, Minus, Times, both_signs, products_at, multipliers_at, columns_of, cost_in, cost_or_zero}
use Rattle.dc_claims.specs.Claims.{Potential, Multipliers}
use Rattle.dc_claims.specs.Laws.{unknown_value, IsSplit, SplitsExist, SolutionsSplit, SplitsCost}
use Rattle.dc_claims.proofs.Totals.{total, total_zero, eqb_same}
use Rattle.dc_claims.proofs.Counting.{passing, passing-++, passing-map, none_mapped, none_flat, flat_at_most, range_once}
use Rattle.dc_claims.proofs.Owed.{same_duty_refl, occurs_at_most}
use Rattle.dc_claims.proofs.Rows.{sum_is_row, columns_row}

-- ---- a number as the difference of two that are not negative
record Halves (v : ℚ) : Type 0 where
  upper : ℚ
  lower : ℚ
  upper_sign : NonNegative upper
  lower_sign : NonNegative lower
  difference : upper -ℚ lower ≡ v

halves : (v : ℚ) → Halves v
halves v = by (≤ℚ_total (of_ℤ (pos 0)) v)
  where
    by : (of_ℤ (pos 0) ≤ℚ v) ⊎ (v ≤ℚ of_ℤ (pos 0)) → Halves v
    by (inl h) = record {
      upper = v;
      lower = of_ℤ (pos 0);
      upper_sign = h;
      lower_sign = ≤ℚ_refl (of_ℤ (pos 0));
      difference = ring (v ∷ []) (λ ρ i. simp (i, read_nat ρ, reads) (same_form _ _ _ refl));
    }
    by (inr h) = record {
      upper = of_ℤ (pos 0);
      lower = of_ℤ (pos 0) -ℚ v;
      upper_sign = ≤ℚ_refl (of_ℤ (pos 0));
      lower_sign = ≤ℚ-sub v (of_ℤ (pos 0)) h;
      difference = ring (v ∷ []) (λ ρ i. simp (i, read_nat ρ, reads) (same_form _ _ _ refl));
    }

-- ---- after a plus column comes its minus column
abbrev IsTimes : Column → Type 0
IsTimes (Plus u) = ⊥
IsTimes (Minus u) = ⊥
IsTimes (Times o i) = Unit {0}

all_times : (p : Pair) (d k : ℕ) (os : List Duty) → AllByRecursion IsTimes (flat_map (multipliers_at p k) os)
all_times p d k os = each-flat_map IsTimes (multipliers_at p k) os (each_all _ os (λ o. each-map IsTimes (Times o) _ (each_all _ (range_with_len 0 (length (products_at p k o))) (λ i. tt))))

next_after : (us : List Unknown) (cs : List Column) (u : Unknown) (j : ℕ) → AllByRecursion IsTimes cs → slice_get (flat_map both_signs us ++ cs) j ≡ Some (Plus u) → slice_get (flat_map both_signs us ++ cs) (suc j) ≡ Some (Minus u)
next_after [] cs u j h e = absurd (get_each IsTimes cs h j (Plus u) e)
next_after (v ∷ us) cs u zero h e = let s : v ≡ u = cc in ap (λ w. Some (Minus w)) s
next_after (v ∷ us) cs u (suc zero) h e = cc
next_after (v ∷ us) cs u (suc (suc j)) h e = next_after us cs u j h e

next_column : (p : Pair) (d k : ℕ) (f : Flags) (u : Unknown) (j : ℕ) → slice_get (columns_of p d k f) j ≡ Some (Plus u) → slice_get (columns_of p d k f) (suc j) ≡ Some (Minus u)
next_column p d k f u j e = next_after (unknowns_of p d) (flat_map (multipliers_at p k) (duties_of f)) u j (all_times p d k (duties_of f)) e

-- ---- values have a split
module _ (t : ℚ) (φ χ : Potential) (multipliers : Multipliers) where
  column_number : Option Column → ℚ
  column_number None = of_ℤ (pos 0)
  column_number (Some (Plus u)) = (halves (unknown_value t φ χ u)).upper
  column_number (Some (Minus u)) = (halves (unknown_value t φ χ u)).lower
  column_number (Some (Times o i)) = multipliers o i

  vector : Pair → ℕ → ℕ → Flags → ℕ → ℚ
  vector p d k f j = column_number (slice_get (columns_of p d k f) j)

  is_split : (p : Pair) (d k : ℕ) (f : Flags) → IsSplit p d k f (vector p d k f) t φ χ multipliers
  unfolding column_number vector
  is_split p d k f j (Plus u) e =
      let a : vector p d k f j ≡ (halves (unknown_value t φ χ u)).upper = ap column_number e in
      let b : vector p d k f (suc j) ≡ (halves (unknown_value t φ χ u)).lower = ap column_number (next_column p d k f u j e) in
      let h = halves (unknown_value t φ χ u) in
      (subst NonNegative (sym a) h.upper_sign, subst NonNegative (sym b) h.lower_sign, ap₂ ◌-ℚ◌ a b ∙ h.difference)
  is_split p d k f j (Minus u) e = tt
  is_split p d k f j (Times o i) e = ap column_number e

pub splits_exist : SplitsExist
splits_exist p d k f t φ χ multipliers = (vector t φ χ multipliers p d k f, is_split t φ χ multipliers p d k f)

-- ---- each column stands once
abbrev same_unknown : Unknown → Unknown → Bool
same_unknown Bound Bound = true
same_unknown Bound (Coefficient s l i) = false
same_unknown (Coefficient s l i) Bound = false
same_unknown (Coefficient s l i) (Coefficient r m j) = same_side s r && (eqb l m && eqb i j)

abbrev same_column : Column → Column → Bool
same_column (Plus u) (Plus v) = same_unknown u v
same_column (Minus u) (Minus v) = same_unknown u v
same_column (Times o i) (Times c j) = same_duty o c && eqb i j
same_column a b = false

same_unknown_refl : (u : Unknown) → same_unknown u u ≡ true
same_unknown_refl Bound = refl
same_unknown_refl (Coefficient New l i) = ap₂ ◌&&◌ (eqb_same l) (eqb_same i)
same_unknown_refl (Coefficient Old l i) = ap₂ ◌&&◌ (eqb_same l) (eqb_same i)

same_column_refl : (c : Column) → same_column c c ≡ true
same_column_refl (Plus u) = same_unknown_refl u
same_column_refl (Minus u) = same_unknown_refl u
same_column_refl (Times o i) = ap₂ ◌&&◌ (same_duty_refl o) (eqb_same i)

-- at most one, and none where the first test fails
both_once : (b : Bool) (i m : ℕ) → passing (λ j. b && eqb i j) (range_with_len 0 m) ≤ cond b 1 0
both_once true i m = range_once i 0 m
both_once false i m = at_none (range_with_len 0 m)
  where
    at_none : (xs : List ℕ) → passing (λ j. false) xs ≤ 0
    at_none [] = omega arith
    at_none (x ∷ xs) = let h = at_none xs in omega arith

module _ (p : Pair) (d k : ℕ) where
  coefficient_once : (s : Side) (l i : ℕ) (side : Side) → passing (same_unknown (Coefficient s l i)) (unknowns_on p d side) ≤ cond (same_side s side) 1 0
  coefficient_once s l i side = by (same_side s side) refl
    where
      mapped : (m : ℕ) → passing (same_unknown (Coefficient s l i)) (unknowns_at p d side m) ≡ passing (λ j. (same_side s side && eqb l m) && eqb i j) (range_with_len 0 (length (monomials_at p d side)))
      mapped m = passing-map (same_unknown (Coefficient s l i)) (Coefficient side m) (λ j. (same_side s side && eqb l m) && eqb i j) _ (λ j. turn (same_side s side) (eqb l m) (eqb i j))
        where
          turn : (a b c : Bool) → (a && (b && c)) ≡ ((a && b) && c)
          turn true b c = refl
          turn false b c = refl

      each_location : (m : ℕ) → passing (same_unknown (Coefficient s l i)) (unknowns_at p d side m) ≤ cond (same_side s side && eqb l m) 1 0
      each_location m = subst (λ n. n ≤ cond (same_side s side && eqb l m) 1 0) (sym (mapped m)) (both_once (same_side s side && eqb l m) i (length (monomials_at p d side)))

      all_locations : passing (same_unknown (Coefficient s l i)) (unknowns_on p d side) ≤ passing (λ m. same_side s side && eqb l m) (range_with_len 0 (system_of p side).locs)
      all_locations = flat_at_most (same_unknown (Coefficient s l i)) (unknowns_at p d side) (λ m. same_side s side && eqb l m) (range_with_len 0 (system_of p side).locs) each_location

      by : (b : Bool) → same_side s side ≡ b → passing (same_unknown (Coefficient s l i)) (unknowns_on p d side) ≤ cond b 1 0
      by b q =
          let a = all_locations in
          let c = both_once b l (system_of p side).locs in
          let e = ap (λ b. passing (λ m. b && eqb l m) (range_with_len 0 (system_of p side).locs)) q in
          omega arith

  bound_once : (side : Side) → passing (same_unknown Bound) (unknowns_on p d side) ≡ 0
  bound_once side = none_flat (same_unknown Bound) (unknowns_at p d side) _ (λ m. none_mapped (same_unknown Bound) (Coefficient side m) _ (λ j. refl))

  unknown_once : (u : Unknown) → passing (same_unknown u) (unknowns_of p d) ≤ 1
  unknown_once Bound =
      let e = passing-++ (same_unknown Bound) (unknowns_on p d New) (unknowns_on p d Old) in let a = bound_once New in let b = bound_once Old in omega arith
  unknown_once (Coefficient New l i) =
      let e = passing-++ (same_unknown (Coefficient New l i)) (unknowns_on p d New) (unknowns_on p d Old) in let a = coefficient_once New l i New in let b = coefficient_once New l i Old in omega arith
  unknown_once (Coefficient Old l i) =
      let e = passing-++ (same_unknown (Coefficient Old l i)) (unknowns_on p d New) (unknowns_on p d Old) in let a = coefficient_once Old l i New in let b = coefficient_once Old l i Old in omega arith

  column_once : (f : Flags) (c : Column) → passing (same_column c) (columns_of p d k f) ≤ 1
  column_once f (Plus u) =
      let e = passing-++ (same_column (Plus u)) (flat_map both_signs (unknowns_of p d)) (flat_map (multipliers_at p k) (duties_of f)) in
      let a = flat_at_most (same_column (Plus u)) both_signs (same_unknown u) (unknowns_of p d) (λ v. omega arith) in
      let b = none_flat (same_column (Plus u)) (multipliers_at p k) (duties_of f) (λ o. none_mapped (same_column (Plus u)) (Times o) _ (λ i. refl)) in
      let h = unknown_once u in
      omega arith
  column_once f (Minus u) =
      let e = passing-++ (same_column (Minus u)) (flat_map both_signs (unknowns_of p d)) (flat_map (multipliers_at p k) (duties_of f)) in
      let a = flat_at_most (same_column (Minus u)) both_signs (same_unknown u) (unknowns_of p d) (λ v. omega arith) in
      let b = none_flat (same_column (Minus u)) (multipliers_at p k) (duties_of f) (λ o. none_mapped (same_column (Minus u)) (Times o) _ (λ i. refl)) in
      let h = unknown_once u in
      omega arith
  column_once f (Times o i) =
      let e = passing-++ (same_column (Times o i)) (flat_map both_signs (unknowns_of p d)) (flat_map (multipliers_at p k) (duties_of f)) in
      let a = none_flat (same_column (Times o i)) both_signs (unknowns_of p d) (λ v. refl) in
      let b = flat_at_most (same_column (Times o i)) (multipliers_at p k) (same_duty o) (duties_of f) each_duty in
      let h = occurs_at_most f o in
      omega arith
    where
      each_duty : (c : Duty) → passing (same_column (Times o i)) (multipliers_at p k c) ≤ cond (same_duty o c) 1 0
      each_duty c =
          let e = passing-map (same_column (Times o i)) (Times c) (λ j. same_duty o c && eqb i j) (range_with_len 0 (length (products_at p k c))) (λ j. refl) in
          let a = both_once (same_duty o c) i (length (products_at p k c)) in
          omega arith

-- ---- where a column stands
index_from : Column → ℕ → List Column → ℕ
index_from c a [] = a
index_from c a (b ∷ cs) = cond (same_column c b) a (index_from c (suc a) cs)

some_passing : (c : Column) (j : ℕ) (cs : List Column) → slice_get cs j ≡ Some c → 1 ≤ passing (same_column c) cs
some_passing c j [] e = cc
some_passing c zero (b ∷ cs) e =
    let s : b ≡ c = cc in
    let h : same_column c b ≡ true = ap (same_column c) s ∙ same_column_refl c in
    subst (λ q. 1 ≤ cond q 1 0 + passing (same_column c) cs) (sym h) (omega arith)
some_passing c (suc j) (b ∷ cs) e = let h = some_passing c j cs e in omega arith

index_found : (c : Column) (a j : ℕ) (cs : List Column) → passing (same_column c) cs ≤ 1 → slice_get cs j ≡ Some c → index_from c a cs ≡ a + j
unfolding index_from
index_found c a j [] h e = cc
index_found c a zero (b ∷ cs) h e =
    let s : b ≡ c = cc in
    ap (λ q. cond q a (index_from c (suc a) cs)) (ap (same_column c) s ∙ same_column_refl c) ∙ (let z : a ≡ a + 0 = omega arith in z)
index_found c a (suc j) (b ∷ cs) h e = by (same_column c b) (some_passing c j cs e) h (index_found c (suc a) j cs)
  where
    by : (q : Bool) → 1 ≤ passing (same_column c) cs → cond q 1 0 + passing (same_column c) cs ≤ 1 → (passing (same_column c) cs ≤ 1 → slice_get cs j ≡ Some c → index_from c (suc a) cs ≡ suc a + j)
        → cond q a (index_from c (suc a) cs) ≡ a + suc j
    by true s h r = absurd (omega arith)
    by false s h r = r (omega arith) e ∙ (let z : suc a + j ≡ a + suc j = omega arith in z)

-- ---- the values of a vector
module _ (p : Pair) (d k : ℕ) (f : Flags) (x : ℕ → ℚ) where
  index_of : Column → ℕ
  index_of c = index_from c 0 (columns_of p d k f)

  index_is : (c : Column) (j : ℕ) → slice_get (columns_of p d k f) j ≡ Some c → index_of c ≡ j
  unfolding index_of
  index_is c j e = index_found c 0 j (columns_of p d k f) (column_once p d k f c) e ∙ (let z : 0 + j ≡ j = omega arith in z)

  unknown_at : Unknown → ℚ
  unknown_at u = x (index_of (Plus u)) -ℚ x (suc (index_of (Plus u)))

  bound : ℚ
  bound = unknown_at Bound

  new : Potential
  new l i = unknown_at (Coefficient New l i)

  old : Potential
  old l i = unknown_at (Coefficient Old l i)

  factors : Multipliers
  factors o i = x (index_of (Times o i))

  value_is : (u : Unknown) → unknown_value bound new old u ≡ unknown_at u
  unfolding bound new old
  value_is Bound = refl
  value_is (Coefficient New l i) = refl
  value_is (Coefficient Old l i) = refl

  values_split : ((j : ℕ) → j < length (columns_of p d k f) → NonNegative (x j)) → IsSplit p d k f x bound new old factors
  unfolding unknown_at factors
  values_split h j (Plus u) e = (
    h j (slice_get_within (columns_of p d k f) j (Plus u) e),
    h (suc j) (slice_get_within (columns_of p d k f) (suc j) (Minus u) (next_column p d k f u j e)),
    sym (value_is u ∙ ap (λ i. x i -ℚ x (suc i)) (index_is (Plus u) j e)),
  )
  values_split h j (Minus u) e = tt
  values_split h j (Times o i) e = sym (ap x (index_is (Times o i) j e))

-- ---- the cost
total_nothing : {A : Type 0} (g : A → ℚ) (xs : List A) → AllByRecursion (λ y. g y ≡ of_ℤ (pos 0)) xs → total g xs ≡ of_ℤ (pos 0)
total_nothing g [] h = refl
total_nothing g (y ∷ xs) h = ap₂ ◌+ℚ◌ h.0 (total_nothing g xs h.1) ∙ +ℚ-zero (of_ℤ (pos 0))

cost_opposite : (p : Pair) (d k : ℕ) (u : Unknown) → cost_in (Minus u) ≡ neg_ℤ (cost_in (Plus u))
cost_opposite p d k Bound = refl
cost_opposite p d k (Coefficient s l i) = refl

pub splits_cost : SplitsCost
splits_cost p d k f x t φ χ multipliers s =
    sum_is_row (cost_or_zero) x (columns_of p d k f)
    ∙ columns_row x t φ χ multipliers (cost_in) (cost_opposite p d k) p d k f s
    ∙ ap₂ (λ y z. (t *ℚ of_ℤ (pos 1) +ℚ y) +ℚ z) (total_nothing _ (unknowns_on p d New ++ unknowns_on p d Old) (each-++ _ (unknowns_on p d New) (unknowns_on p d Old) (free New) (free Old)))
    (total_zero _ (duties_of f) (λ o. total_zero _ (range_with_len 0 (length (products_at p k o))) (λ i. *ℚ-zero (multipliers o i))))
    ∙ shape t
  where
    free : (side : Side) → AllByRecursion (λ u. unknown_value t φ χ u *ℚ of_ℤ (cost_in (Plus u)) ≡ of_ℤ (pos 0)) (unknowns_on p d side)
    free side =
        each-flat_map (λ u. unknown_value t φ χ u *ℚ of_ℤ (cost_in (Plus u)) ≡ of_ℤ (pos 0)) (unknowns_at p d side) _
        (each_all _ _ (λ l. each-map (λ u. unknown_value t φ χ u *ℚ of_ℤ (cost_in (Plus u)) ≡ of_ℤ (pos 0)) (Coefficient side l) _ (each_all _ _ (λ i. *ℚ-zero (unknown_value t φ χ (Coefficient side l i))))))

    shape : (t : ℚ) → (t *ℚ of_ℤ (pos 1) +ℚ of_ℤ (pos 0)) +ℚ of_ℤ (pos 0) ≡ t
    shape t = ring (t ∷ []) (λ ρ i. simp (i, read_nat ρ, reads) (same_form _ _ _ refl))

pub solutions_split : SolutionsSplit
solutions_split p d k f x s =
    (bound p d k f x, new p d k f x, old p d k f x, factors p d k f x, values_split p d k f x s.signs)
