-- Values certify exactly where their vector solves the main problem.
use Rattle.std.specs.Prelude.{◌≡◌, ℕ, zero, suc, ◌+◌, ◌<◌, Bool, true, false, if◌then◌else◌, List, [], ◌∷◌, ◌++◌, map, flat_map, length, slice_get, Option, Some, ℤ, pos, neg_ℤ}
use Rattle.std.specs.List.{range_with_len, AllByRecursion}
use Rattle.std.proofs.Common.{refl, sym, ◌∙◌, ap, subst, arith}
use Rattle.std.proofs.lemmas.Option.{slice_get_within, slice_get-get_or}
use Rattle.dc_math.specs.Members.{each_all, each-weaker, each_right, each-map, each_map, each-flat_map, each_flat_map, each_range, each_get, get_each}
use Rattle.dc_math.specs.Rational.{ℚ, ◌+ℚ◌, ◌-ℚ◌, ◌*ℚ◌, neg_ℚ, of_ℤ, NonNegative}
use Rattle.dc_math.specs.RationalRing.{ring, reads, read_nat, same_form, linear₁}
use Rattle.dc_math.specs.Order.{of_ℤ-neg_ℤ}
use Rattle.dc_math.specs.Sums.{sum_ℚ}
use Rattle.dc_math.specs.Vectors.{dot}
use Rattle.dc_lp.specs.Linear.{IsSolution}
use Rattle.dc_lp.specs.Tables.{made}
use Rattle.dc_poly.specs.Terms.{Exponents, coef}
use Rattle.dc_points.specs.Stated.{rational}
use Rattle.dc_claims.specs.Duties.{Pair, places_of, IsOwed, Flags, duties_of, AreRight, same_duty}
use Rattle.dc_claims.specs.declared.duty.Duty.{Duty}
use Rattle.dc_claims.specs.declared.duty.Duty.TheVariants.{AtEntry}
use Rattle.dc_claims.specs.declared.duty.Unknown.{Unknown}
use Rattle.dc_claims.specs.Parts.{unknowns_of, part_of, rest_of}
use Rattle.dc_claims.specs.Problems.{Column, Plus, Minus, Times, both_signs, Equation, products_at, product_number, polynomials_at, multipliers_at, equations_at, columns_of, equations_of, entry_of, right_of, entry_or_zero, right_or_zero, main_problem}
use Rattle.dc_coefficients.specs.Monomials.{monos_in}
use Rattle.dc_claims.specs.Claims.{Potential, Multipliers, left_value, product_values, products_count, Certifies}
use Rattle.dc_claims.specs.Plans.{IsFit}
use Rattle.dc_claims.specs.Laws.{unknown_value, Splits, IsSplit, EquationsAreIdentities}
use Rattle.dc_claims.proofs.Totals.{total, total_same, total_zero, total-neg}
use Rattle.dc_poly.specs.Combinations.{coef_of}
use Rattle.dc_poly.proofs.Combinations.{vanishing, value_by_coefficients}
use Rattle.dc_claims.proofs.Listed.{all_coefficients}
use Rattle.dc_claims.proofs.AtDuty.{difference, difference_is, polynomials_are, count_is, difference_value}
use Rattle.dc_claims.proofs.Fits.{atoms_fit, difference_padded, locations_fit}
use Rattle.dc_claims.proofs.Owed.{occurs, same_duty_refl, once_each, total_once, each_owed, owed_once}
use Rattle.dc_claims.proofs.Rows.{row, sum_is_row, SplitFrom, split_all, duty_share, columns_row}

no_difference : (x y : ℚ) → x ≡ y → x -ℚ y ≡ of_ℤ (pos 0)
no_difference x y e = rw e (ring (y ∷ []) (λ ρ i. simp (i, read_nat ρ, reads) (same_form _ _ _ refl)))

same_number : (x y : ℚ) → x -ℚ y ≡ of_ℤ (pos 0) → x ≡ y
same_number x y e = linear₁ (of_ℤ (pos 1)) _ _ _ _ e (ring (x ∷ y ∷ []) (λ ρ i j. simp (i, j, read_nat ρ, reads) (same_form _ _ _ refl)))

module _ (p : Pair) (d k : ℕ) (f : Flags) (x : ℕ → ℚ) (t : ℚ) (φ χ : Potential) (multipliers : Multipliers) (fit : IsFit p d k f) (right : AreRight p f) (split : IsSplit p d k f x t φ χ multipliers) where
  -- ---- an equation says that a coefficient is 0
  abbrev coefficient : Duty → Exponents → ℚ
  coefficient o m = coef_of (difference p d k t φ χ multipliers o) m

  product_total : Duty → Exponents → ℚ
  product_total o m = total (λ i. multipliers o i *ℚ of_ℤ (coef (product_number p k o i).terms m)) (range_with_len 0 (length (products_at p k o)))

  abbrev unknown_total : Equation → ℚ
  unknown_total q = total (λ u. unknown_value t φ χ u *ℚ of_ℤ (coef (part_of p d q.duty u) q.mono)) (unknowns_of p d)

  abbrev share : Equation → Duty → ℚ
  share q o = duty_share x t φ χ multipliers (entry_of p d k q) (λ u. refl) p d k o

  other_share : (q : Equation) (o : Duty) → same_duty q.duty o ≡ false → share q o ≡ of_ℤ (pos 0)
  other_share q o e = total_zero _ (range_with_len 0 (length (products_at p k o))) (λ i. by (same_duty q.duty o) (multipliers o i) _ e)
    where
      by : (b : Bool) (a : ℚ) (y : ℤ) → b ≡ false → a *ℚ of_ℤ (if b then y else pos 0) ≡ of_ℤ (pos 0)
      by true a y e = cc
      by false a y e = ring (a ∷ []) (λ ρ i. simp (i, read_nat ρ, reads) (same_form _ _ _ refl))

  own_share : (q : Equation) → share q q.duty ≡ neg_ℚ (product_total q.duty q.mono)
  unfolding product_total
  own_share q =
      total_same _ _ (range_with_len 0 (length (products_at p k q.duty))) (λ i. by (same_duty q.duty q.duty) (multipliers q.duty i) (coef (product_number p k q.duty i).terms q.mono) (same_duty_refl q.duty))
      ∙ total-neg (λ i. multipliers q.duty i *ℚ of_ℤ (coef (product_number p k q.duty i).terms q.mono)) (range_with_len 0 (length (products_at p k q.duty)))
    where
      by : (b : Bool) (a : ℚ) (y : ℤ) → b ≡ true → a *ℚ of_ℤ (if b then neg_ℤ y else pos 0) ≡ neg_ℚ (a *ℚ of_ℤ y)
      by true a y e = ap (λ z. a *ℚ z) (of_ℤ-neg_ℤ y) ∙ ring (a ∷ of_ℤ y ∷ []) (λ ρ i j. simp (i, j, reads) (same_form _ _ _ refl))
      by false a y e = cc

  abbrev Holds : Equation → Type 0
  Holds q = row (entry_of p d k q) x 0 (columns_of p d k f) ≡ of_ℤ (right_of p d k q)

  row_is : (q : Equation) → occurs q.duty (duties_of f) ≡ 1 → row (entry_of p d k q) x 0 (columns_of p d k f) ≡ coefficient q.duty q.mono -ℚ of_ℤ (coef (rest_of p q.duty) q.mono)
  unfolding product_total
  row_is q h =
      columns_row x t φ χ multipliers (entry_of p d k q) (λ u. refl) p d k f split
      ∙ ap (λ z. unknown_total q +ℚ z) (total_once (share q) q.duty (duties_of f) (other_share q) h ∙ own_share q)
      ∙ shape (unknown_total q) (product_total q.duty q.mono) (of_ℤ (coef (rest_of p q.duty) q.mono)) (coefficient q.duty q.mono) (difference_is p d k t φ χ multipliers (λ r. coef r q.mono) q.duty)
    where
      shape : (u s r c : ℚ) → c ≡ (u +ℚ r) -ℚ s → u +ℚ neg_ℚ s ≡ c -ℚ r
      shape u s r c e = rw e (ring (u ∷ s ∷ r ∷ []) (λ ρ i j k. simp (i, j, k, reads) (same_form _ _ _ refl)))

  equation_of_zero : (q : Equation) → occurs q.duty (duties_of f) ≡ 1 → coefficient q.duty q.mono ≡ of_ℤ (pos 0) → Holds q
  equation_of_zero q h e = row_is q h ∙ shape _ _ e ∙ sym (of_ℤ-neg_ℤ (coef (rest_of p q.duty) q.mono))
    where
      shape : (c r : ℚ) → c ≡ of_ℤ (pos 0) → c -ℚ r ≡ neg_ℚ r
      shape c r e = rw e (ring (r ∷ []) (λ ρ i. simp (i, read_nat ρ, reads) (same_form _ _ _ refl)))

  zero_of_equation : (q : Equation) → occurs q.duty (duties_of f) ≡ 1 → Holds q → coefficient q.duty q.mono ≡ of_ℤ (pos 0)
  zero_of_equation q h e = shape _ (of_ℤ (coef (rest_of p q.duty) q.mono)) (sym (row_is q h) ∙ e ∙ of_ℤ-neg_ℤ (coef (rest_of p q.duty) q.mono))
    where
      shape : (c r : ℚ) → c -ℚ r ≡ neg_ℚ r → c ≡ of_ℤ (pos 0)
      shape c r e = linear₁ (of_ℤ (pos 1)) _ _ _ _ e (ring (c ∷ r ∷ []) (λ ρ i j. simp (i, j, read_nat ρ, reads) (same_form _ _ _ refl)))

  -- ---- the equations, by their numbers
  abbrev AtEquation : Option Equation → Type 0
  AtEquation o = sum_ℚ (length (columns_of p d k f)) (λ j. of_ℤ (entry_or_zero p d k o (slice_get (columns_of p d k f) j)) *ℚ x j) ≡ of_ℤ (right_or_zero p d k o)

  equations_hold : ((i : ℕ) → i < length (equations_of p d k f) → AtEquation (slice_get (equations_of p d k f) i)) → AllByRecursion Holds (equations_of p d k f)
  equations_hold h = each_get Holds (equations_of p d k f)
      (λ i q e. sym (sum_is_row (entry_or_zero p d k (Some q)) x (columns_of p d k f)) ∙ subst AtEquation e (h i (slice_get_within (equations_of p d k f) i q e)))

  no_equation : Equation
  no_equation = record { duty = AtEntry 0; mono = [] }

  by_number : AllByRecursion Holds (equations_of p d k f) → (i : ℕ) → i < length (equations_of p d k f) → AtEquation (slice_get (equations_of p d k f) i)
  by_number h i l =
      let e = slice_get-get_or (equations_of p d k f) i no_equation l in
      subst AtEquation (sym e) (sum_is_row (entry_or_zero p d k (Some _)) x (columns_of p d k f) ∙ get_each Holds (equations_of p d k f) h i _ e)

  -- ---- signs, by index
  abbrev SignsFrom : ℕ → List Column → Type 0
  SignsFrom j [] = Unit {0}
  SignsFrom j (c ∷ cs) = NonNegative (x j) × SignsFrom (suc j) cs

  sign_at : (a : ℕ) (cs : List Column) → SignsFrom a cs → (i : ℕ) → i < length cs → NonNegative (x (a + i))
  sign_at a [] h i l = absurd (omega arith)
  sign_at a (c ∷ cs) h zero l = subst (λ j. NonNegative (x j)) (let e : a ≡ a + 0 = omega arith in e) h.0
  sign_at a (c ∷ cs) h (suc i) l = subst (λ j. NonNegative (x j)) (let e : suc a + i ≡ a + suc i = omega arith in e) (sign_at (suc a) cs h.1 i (omega arith))

  -- the multiplier that a column stands for is not negative
  abbrev HasSign : Column → Type 0
  HasSign (Plus u) = Unit {0}
  HasSign (Minus u) = Unit {0}
  HasSign (Times o i) = NonNegative (multipliers o i)

  unknown_signs : (j : ℕ) (us : List Unknown) (cs : List Column) → SplitFrom x t φ χ multipliers j (flat_map both_signs us ++ cs) → ((j : ℕ) → SplitFrom x t φ χ multipliers j cs → SignsFrom j cs) → SignsFrom j (flat_map both_signs us ++ cs)
  unknown_signs j [] cs s h = h j s
  unknown_signs j (u ∷ us) cs s h = (s.0.0, (s.0.1, unknown_signs (suc (suc j)) us cs s.1.1 h))

  product_signs : (o : Duty) (j a n : ℕ) (cs : List Column) → SplitFrom x t φ χ multipliers j (map (Times o) (range_with_len a n) ++ cs) → ((i : ℕ) → i < a + n → NonNegative (multipliers o i))
      → ((j : ℕ) → SplitFrom x t φ χ multipliers j cs → SignsFrom j cs) → SignsFrom j (map (Times o) (range_with_len a n) ++ cs)
  product_signs o j a zero cs s g h = h j s
  product_signs o j a (suc n) cs s g h = (subst NonNegative (sym s.0) (g a (omega arith)), product_signs o (suc j) (a + 1) n cs s.1 (λ i l. g i (omega arith)) h)

  duty_signs : (os : List Duty) → AllByRecursion (λ o. (i : ℕ) → i < products_count p k o → NonNegative (multipliers o i)) os → (j : ℕ) → SplitFrom x t φ χ multipliers j (flat_map (multipliers_at p k) os) → SignsFrom j (flat_map (multipliers_at p k) os)
  duty_signs [] g j s = tt
  duty_signs (o ∷ os) g j s =
      product_signs o j 0 (length (products_at p k o)) (flat_map (multipliers_at p k) os) s (λ i l. g.0 i (let e = count_is p d k t φ χ multipliers o in omega arith)) (duty_signs os g.1)

  signs_each : (a : ℕ) (cs : List Column) → SplitFrom x t φ χ multipliers a cs → ((i : ℕ) → i < length cs → NonNegative (x (a + i))) → AllByRecursion HasSign cs
  signs_each a [] s h = tt
  signs_each a (c ∷ cs) s h = (
    one c s.0 (subst (λ j. NonNegative (x j)) (let e : a + 0 ≡ a = omega arith in e) (h 0 (omega arith))),
    signs_each (suc a) cs s.1 (λ i l. subst (λ j. NonNegative (x j)) (let e : a + suc i ≡ suc a + i = omega arith in e) (h (suc i) (omega arith))),
  )
    where
      one : (c : Column) → Splits x t φ χ multipliers a c → NonNegative (x a) → HasSign c
      one (Plus u) s n = tt
      one (Minus u) s n = tt
      one (Times o i) s n = subst NonNegative s n

  -- ---- from the values to the equations
  certified : Certifies p d k t φ χ multipliers → IsSolution (rational (main_problem p d k f)) x
  certified c =
      let owed = each_owed p f right in
      let s = unknown_signs 0 (unknowns_of p d) (flat_map (multipliers_at p k) (duties_of f)) (split_all x t φ χ multipliers (columns_of p d k f) split)
      (duty_signs (duties_of f) (each-weaker (IsOwed p) _ (λ o w. (c.meets o w).signs) (duties_of f) owed)) in
      record {
        signs = λ j l. subst (λ i. NonNegative (x i)) (let e : 0 + j ≡ j = omega arith in e) (sign_at 0 (columns_of p d k f) s j l);
        equations = by_number (each-flat_map Holds (equations_at p d k) (duties_of f) (each-weaker (IsOwed p) _ holds_for (duties_of f) owed));
      }
    where
      zero_at : (o : Duty) → IsOwed p o → (m : Exponents) → coefficient o m ≡ of_ℤ (pos 0)
      zero_at o w m =
          vanishing (places_of p o) (difference p d k t φ χ multipliers o) (difference_padded p d k f fit o t φ χ multipliers w.there)
          (λ xs l. difference_value p d k t φ χ multipliers o xs (locations_fit p d k f fit o t φ χ w.there) (atoms_fit p d k f fit o w.there) l
          ∙ no_difference _ _ ((c.meets o w).identity xs l)) m

      holds_for : (o : Duty) → IsOwed p o → AllByRecursion Holds (equations_at p d k o)
      holds_for o w = each-map Holds _ (monos_in (polynomials_at p d k o)) (each_all _ _ (λ m. equation_of_zero (record { duty = o; mono = m }) (owed_once p f right o w) (zero_at o w m)))

  -- ---- and back
  solved : IsSolution (rational (main_problem p d k f)) x → Certifies p d k t φ χ multipliers
  solved s = record { meets = λ o w. record { signs = signs_of o w; identity = identity_of o w } }
    where
      signs_of : (o : Duty) → IsOwed p o → (i : ℕ) → i < products_count p k o → NonNegative (multipliers o i)
      signs_of o w i l =
          let a = signs_each 0 (columns_of p d k f) (split_all x t φ χ multipliers (columns_of p d k f) split) (λ j l. subst (λ i. NonNegative (x i)) (let e : j ≡ 0 + j = omega arith in e) (s.signs j l)) in
          let b = each_right HasSign (flat_map both_signs (unknowns_of p d)) _ a in
          let c = once_each (λ o. AllByRecursion HasSign (multipliers_at p k o)) o (duties_of f) (owed_once p f right o w) (each_flat_map HasSign (multipliers_at p k) (duties_of f) b) in
          let r = each_range (λ i. NonNegative (multipliers o i)) 0 (length (products_at p k o)) (each_map HasSign (Times o) _ c) i (let e = count_is p d k t φ χ multipliers o in omega arith) in
          subst (λ i. NonNegative (multipliers o i)) (let e : 0 + i ≡ i = omega arith in e) r

      zero_at : (o : Duty) → IsOwed p o → (m : Exponents) → coefficient o m ≡ of_ℤ (pos 0)
      zero_at o w =
          let h = once_each (λ o. AllByRecursion Holds (equations_at p d k o)) o (duties_of f) (owed_once p f right o w) (each_flat_map Holds (equations_at p d k) (duties_of f) (equations_hold s.equations)) in
          let g = each-weaker _ (λ m. coefficient o m ≡ of_ℤ (pos 0)) (λ m e. zero_of_equation (record { duty = o; mono = m }) (owed_once p f right o w) e) _ (each_map Holds _ (monos_in (polynomials_at p d k o)) h) in
          all_coefficients (difference p d k t φ χ multipliers o) (subst (λ ps. AllByRecursion (λ m. coefficient o m ≡ of_ℤ (pos 0)) (monos_in ps)) (sym (polynomials_are p d k t φ χ multipliers o)) g)

      identity_of : (o : Duty) → IsOwed p o → (xs : List ℤ) → length xs ≡ places_of p o → left_value p d t φ χ o xs ≡ dot (made (products_count p k o) (multipliers o)) (product_values p k o xs)
      identity_of o w xs l =
          same_number _ _ (sym (difference_value p d k t φ χ multipliers o xs (locations_fit p d k f fit o t φ χ w.there) (atoms_fit p d k f fit o w.there) l)
          ∙ value_by_coefficients (difference p d k t φ χ multipliers o) (zero_at o w) xs)

pub equations_are_identities : EquationsAreIdentities
equations_are_identities p d k f x t φ χ multipliers fit right split =
    (certified p d k f x t φ χ multipliers fit right split, solved p d k f x t φ χ multipliers fit right split)
