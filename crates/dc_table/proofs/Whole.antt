-- The problem of a whole table is the main problem, and it is well formed.
use Rattle.std.specs.Prelude.{◌≡◌, ℕ, zero, suc, ◌+◌, ◌-◌, ◌*◌, ◌^◌, ◌<◌, ◌≤◌, List, [], ◌∷◌, ◌++◌, flat_map, length, map, replicate, slice_get, slice_index_or, Option, Some, None, ℤ, pos, negsuc, neg_ℤ, sum_by, unsigned_abs, Vec}
use Rattle.std.specs.declared.alloc.Global.{Global}
use Rattle.std.specs.List.{AllByRecursion, range_with_len}
use Rattle.std.proofs.Common.{refl, sym, ◌∙◌, ap, ap₂, subst, arith}
use Rattle.std.proofs.lemmas.Int.{ints}
use Rattle.std.proofs.lemmas.List.{length-replicate, map-append, length-map}
use Rattle.dc_math.specs.Members.{each_all, each-++, each-map, each-flat_map, each_at_or}
use Rattle.dc_math.specs.Rational.{of_ℤ}
use Rattle.dc_lp.specs.declared.Entry.{Entry}
use Rattle.dc_lp.specs.declared.Problem.{Problem}
use Rattle.std.proofs.Math.Nat.{mul-le-mul_right}
use Rattle.dc_lp.specs.Problems.{AreEntries, IsWellFormed, IsColumn, linear_of, coefficient, coefficient_in, entries, weight, whole_at}
use Rattle.dc_points.specs.Stated.{rational}
use Rattle.dc_points.proofs.Same.{same_problem}
use Rattle.dc_syntax.specs.declared.tree.Side.{Side}
use Rattle.dc_syntax.specs.declared.tree.Side.TheVariants.{New, Old}
use Rattle.dc_coefficients.specs.Entries.{entries_from}
use Rattle.dc_coefficients.proofs.Rows.{rising, number_there}
use Rattle.dc_claims.specs.declared.duty.Duty.{Duty}
use Rattle.dc_claims.specs.declared.duty.Unknown.{Unknown}
use Rattle.dc_claims.specs.declared.duty.Unknown.TheVariants.{Bound, Coefficient}
use Rattle.dc_claims.specs.Duties.{Pair, Flags, duties_of}
use Rattle.dc_claims.specs.Parts.{unknowns_at, unknowns_on, unknowns_of}
use Rattle.dc_claims.specs.Problems.{Column, Plus, Minus, Times, both_signs, cost_in, cost_or_zero, Equation, products_at, multipliers_at, columns_of, equations_of, entry_of, entry_or_zero, right_of, right_or_zero, main_problem}
use Rattle.dc_claims.proofs.Owed.{occurs_at_most}
use Rattle.dc_table.specs.declared.table.Table.{Table}
use Rattle.dc_table.specs.Tables.{lists, IsProblemOf, equations_in, column_in, IsTable, IsWeighed, part_weight, product_weight}
use Rattle.dc_table.proofs.Columns.{multiplier_columns}

-- ---- lists by index
value_or : {A B : Type 0} → (A → B) → B → Option A → B
value_or g z None = z
value_or g z (Some x) = g x

at_index : {A B : Type 0} (g : A → B) (z : B) (xs : List A) (i : ℕ) → slice_index_or (map g xs) i z ≡ value_or g z (slice_get xs i)
unfolding value_or
at_index g z [] i = refl
at_index g z (x ∷ xs) zero = refl
at_index g z (x ∷ xs) (suc i) = at_index g z xs i

-- ---- costs
abbrev IsFree : Column → Type 0
IsFree c = cost_in c ≡ pos 0

zeros_are : (cs : List Column) → AllByRecursion IsFree cs → map cost_in cs ≡ replicate (length cs) (pos 0)
zeros_are [] h = refl
zeros_are (c ∷ cs) h = ap₂ ◌∷◌ h.0 (zeros_are cs h.1)

module _ (p : Pair) (d k : ℕ) (f : Flags) where
  side_free : (side : Side) → AllByRecursion (λ u. AllByRecursion IsFree (both_signs u)) (unknowns_on p d side)
  side_free side =
      each-flat_map (λ u. AllByRecursion IsFree (both_signs u)) (unknowns_at p d side) _
      (each_all _ _ (λ l. each-map (λ u. AllByRecursion IsFree (both_signs u)) (Coefficient side l) _ (each_all _ _ (λ i. (refl, (refl, tt))))))

  abbrev others : List Column
  others = flat_map both_signs (unknowns_on p d New ++ unknowns_on p d Old) ++ flat_map (multipliers_at p k) (duties_of f)

  others_free : AllByRecursion IsFree others
  others_free =
      each-++ IsFree (flat_map both_signs (unknowns_on p d New ++ unknowns_on p d Old)) (flat_map (multipliers_at p k) (duties_of f))
      (each-flat_map IsFree both_signs (unknowns_on p d New ++ unknowns_on p d Old) (each-++ (λ u. AllByRecursion IsFree (both_signs u)) (unknowns_on p d New) (unknowns_on p d Old) (side_free New) (side_free Old)))
      (each-flat_map IsFree (multipliers_at p k) (duties_of f) (each_all _ (duties_of f) (λ o. each-map IsFree (Times o) _ (each_all _ (range_with_len 0 (length (products_at p k o))) (λ i. refl)))))

  columns_split : columns_of p d k f ≡ Plus Bound ∷ Minus Bound ∷ others
  columns_split = refl

  costs_are : (n : ℕ) → n ≡ length (columns_of p d k f) → pos 1 ∷ negsuc 0 ∷ replicate (n - 2) (pos 0) ≡ map cost_in (columns_of p d k f)
  costs_are n e =
      ap (λ i. pos 1 ∷ negsuc 0 ∷ replicate i (pos 0)) (let a : n ≡ suc (suc (length others)) = e in let b : n - 2 ≡ length others = omega arith in b)
      ∙ ap (λ q. pos 1 ∷ negsuc 0 ∷ q) (sym (zeros_are others others_free))

  module _ (t : Table) (r : Problem) (h : IsTable p d k (duties_of f) t) (g : IsProblemOf t r) where
    abbrev columns : List Column
    columns = columns_of p d k f

    abbrev equations : List Equation
    equations = equations_of p d k f

    columns_are : lists r.columns.items ≡ map (column_in p d k (duties_of f)) columns
    columns_are =
        g.columns
        ∙ ap₂ ◌++◌ h.unknowns
        (h.products ∙ multiplier_columns p d k [] (duties_of f) (λ o. occurs_at_most f o))
        ∙ sym (map-append (column_in p d k (duties_of f)) (flat_map both_signs (unknowns_of p d)) (flat_map (multipliers_at p k) (duties_of f)))

    count : length r.columns.items ≡ length columns
    count = sym (length-map r.columns.items (λ (c : Vec Entry Global). c.items)) ∙ ap length columns_are ∙ length-map columns (column_in p d k (duties_of f))

    costs : r.cost.items ≡ map cost_in columns
    costs = g.cost ∙ costs_are (length r.columns.items) count

    -- ---- its numbers
    coefficient_is : (i j : ℕ) → coefficient r i j ≡ entry_or_zero p d k (slice_get equations i) (slice_get columns j)
    unfolding value_or
    coefficient_is i j =
        ap (λ cs. coefficient_in (slice_index_or cs j []) i) columns_are ∙ ap (λ es. coefficient_in es i) (at_index (column_in p d k (duties_of f)) [] columns j) ∙ in_column (slice_get columns j)
      where
        in_equation : (c : Column) (o : Option Equation) → value_or (λ q. entry_of p d k q c) (pos 0) o ≡ entry_or_zero p d k o (Some c)
        in_equation c None = refl
        in_equation c (Some q) = refl

        without : (o : Option Equation) → pos 0 ≡ entry_or_zero p d k o None
        without None = refl
        without (Some q) = refl

        in_column : (o : Option Column) → coefficient_in (value_or (column_in p d k (duties_of f)) [] o) i ≡ entry_or_zero p d k (slice_get equations i) o
        in_column None = without (slice_get equations i)
        in_column (Some c) =
            ap (coefficient_in (column_in p d k (duties_of f) c)) (let e : i ≡ 0 + i = omega arith in e)
            ∙ number_there 0 (map (λ q. entry_of p d k q c) equations) i ∙ at_index (λ q. entry_of p d k q c) (pos 0) equations i ∙ in_equation c (slice_get equations i)

    right_is : (i : ℕ) → whole_at r.b.items i ≡ right_or_zero p d k (slice_get equations i)
    unfolding value_or
    right_is i = ap (λ b. whole_at b i) (g.b ∙ h.b) ∙ at_index (right_of p d k) (pos 0) equations i ∙ by (slice_get equations i)
      where
        by : (o : Option Equation) → value_or (right_of p d k) (pos 0) o ≡ right_or_zero p d k o
        by None = refl
        by (Some q) = refl

    cost_is : (j : ℕ) → whole_at r.cost.items j ≡ cost_or_zero (slice_get columns j)
    unfolding value_or
    cost_is j = ap (λ c. whole_at c j) costs ∙ at_index cost_in (pos 0) columns j ∙ by (slice_get columns j)
      where
        by : (o : Option Column) → value_or cost_in (pos 0) o ≡ cost_or_zero o
        by None = refl
        by (Some c) = refl

    pub problem_is : linear_of r ≡ rational (main_problem p d k f)
    problem_is =
        same_problem (linear_of r) (rational (main_problem p d k f)) (g.rows ∙ h.rows) count (λ i j. ap of_ℤ (coefficient_is i j)) (λ i. ap of_ℤ (right_is i)) (λ j. ap of_ℤ (cost_is j))

    -- ---- its sizes
    module _ (n : ℕ) (few : n ≤ 2048) (w : IsWeighed n t) where
      below : (x : ℕ) → x ≤ n * part_weight → x < 2 ^ 127
      below x l = under n part_weight x l few (omega arith)
        where
          under : (n w x : ℕ) → x ≤ n * w → n ≤ 2048 → 2048 * w < 2 ^ 127 → x < 2 ^ 127
          under n w x l f b = let m = mul-le-mul_right w f in omega arith

      product_below : (x : ℕ) → x ≤ product_weight → x < 2 ^ 127
      product_below x l = omega arith

      unknowns_light : (cs : List (List Entry)) → AllByRecursion (λ es. weight es ≤ n * part_weight) cs → AllByRecursion (λ es. weight es < 2 ^ 127) cs
      unknowns_light [] h = tt
      unknowns_light (c ∷ cs) h = (below (weight c) h.0, unknowns_light cs h.1)

      products_light : (cs : List (List Entry)) → AllByRecursion (λ es. weight es ≤ product_weight) cs → AllByRecursion (λ es. weight es < 2 ^ 127) cs
      products_light [] h = tt
      products_light (c ∷ cs) h = (product_below (weight c) h.0, products_light cs h.1)

      joined : (xs ys : List (List Entry)) → AllByRecursion (λ es. weight es < 2 ^ 127) xs → AllByRecursion (λ es. weight es < 2 ^ 127) ys → AllByRecursion (λ es. weight es < 2 ^ 127) (xs ++ ys)
      joined [] ys h g = g
      joined (x ∷ xs) ys h g = (h.0, joined xs ys h.1 g)

      all_light : AllByRecursion (λ es. weight es < 2 ^ 127) (lists r.columns.items)
      all_light = subst (AllByRecursion (λ es. weight es < 2 ^ 127)) (sym g.columns) (joined _ _ (unknowns_light (lists t.unknowns.items) w.unknowns) (products_light (lists t.products.items) w.products))

      all_rise : (cs : List Column) → AllByRecursion (λ es. AreEntries 0 r.rows es) (map (column_in p d k (duties_of f)) cs)
      all_rise [] = tt
      all_rise (c ∷ cs) =
          (rising 0 r.rows (map (λ q. entry_of p d k q c) equations) (let a = length-map equations (λ q. entry_of p d k q c) in let b = g.rows in let e = h.rows in omega arith), all_rise cs)

      small_costs : (cs : List Column) → AllByRecursion (λ z. unsigned_abs z < 2 ^ 127) (map cost_in cs)
      small_costs [] = tt
      small_costs (c ∷ cs) = (one c, small_costs cs)
        where
          one : (c : Column) → unsigned_abs (cost_in c) < 2 ^ 127
          one (Plus Bound) = omega arith
          one (Minus Bound) = omega arith
          one (Plus (Coefficient s l i)) = omega arith
          one (Minus (Coefficient s l i)) = omega arith
          one (Times o i) = omega arith

      pub well_formed : IsWellFormed r
      well_formed = record {
        right_sides = ap length (g.b ∙ h.b) ∙ length-map equations (right_of p d k) ∙ sym (g.rows ∙ h.rows);
        costs = ap length costs ∙ length-map columns cost_in ∙ sym count;
        columns = λ j l. record {
          entries = each_at_or (λ es. AreEntries 0 r.rows es) (lists r.columns.items) j [] (subst (AllByRecursion (λ es. AreEntries 0 r.rows es)) (sym columns_are) (all_rise columns)) tt;
          weight = each_at_or (λ es. weight es < 2 ^ 127) (lists r.columns.items) j [] all_light (omega arith);
        };
        right_side_weight = below _ (subst (λ b. sum_by unsigned_abs b ≤ n * part_weight) (sym g.b) w.b);
        cost_sizes = λ j l. each_at_or (λ z. unsigned_abs z < 2 ^ 127) r.cost.items j (pos 0) (subst (AllByRecursion (λ z. unsigned_abs z < 2 ^ 127)) (sym costs) (small_costs columns)) (omega arith);
      }
