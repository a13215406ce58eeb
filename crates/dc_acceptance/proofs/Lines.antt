-- Lines and keeps whose vectors show what they should, as tests.
use Rattle.std.specs.Prelude.{◌≡◌, ℕ, suc, ◌+◌, ◌<◌, Bool, true, false, if◌then◌else◌, List, [], ◌∷◌, ◌++◌, map, length, ℤ, pos, negsuc, Some}
use Rattle.std.specs.List.{range_with_len, list_all}
use Rattle.std.proofs.Common.{refl, sym, ◌∙◌, ap, subst, arith, add-one}
use Rattle.std.proofs.lemmas.Bool.{and_from}
use Rattle.dc_math.specs.Members.{Among, head, tail}
use Rattle.dc_math.specs.Rational.{ℚ, of_ℤ, ◌≤ℚ◌, ◌*ℚ◌, *ℚ_comm}
use Rattle.dc_math.specs.Tests.{is_negative, lt_ℚ-true}
use Rattle.dc_math.specs.Sums.{sum_ℚ, sum_ℚ_same}
use Rattle.dc_affine.specs.declared.atom.Atom.{Atom}
use Rattle.dc_cert.specs.Vectors.{in_range}
use Rattle.dc_lp.specs.Linear.{combined}
use Rattle.dc_cert.specs.declared.sparse.Sparse.{Sparse}
use Rattle.dc_cert.specs.declared.certificate.Liveness.{Liveness}
use Rattle.dc_cert.specs.declared.certificate.Liveness.TheVariants.{Dead, Live}
use Rattle.dc_points.specs.Stated.{rational, atom_number, coefficient_of, empty_problem, sup_problem}
use Rattle.dc_points.specs.Shown.{sum_at, constant_sum, ShowsAtom, ShowsDead, ShowsLive}
use Rattle.dc_invariant.specs.Shown.{IsKeep, AreKeeps, IsLine}
use Rattle.dc_clauses.specs.Steps.{Test}
use Rattle.dc_clauses.specs.Lines.{at, signs, part, part_sum, column_sum, is, is_at_most, coefficient_parts, dead_parts, live_parts, line_parts, line_in_range, keep_parts}
use Rattle.dc_clauses.specs.Sides.{paired}
use Rattle.dc_check.proofs.Shown.{part-place, part-last, part-column}
use Rattle.dc_acceptance.proofs.Passing.{Passes, AllPass, pass_both, numbered_pass, none_pass}
use Rattle.dc_acceptance.proofs.Sums.{is_passes, at_most_passes}
use Rattle.dc_acceptance.proofs.Items.{items_in_range, items_positive, solution_items, refutation_items}

module _ (hyps : List Atom) (n : ℕ) where
  place_sum : (x : ℕ → ℚ) (i : ℕ) → i < n → sum_ℚ (length hyps) (λ j. of_ℤ (part n (atom_number hyps j) i) *ℚ x j) ≡ sum_at hyps x i
  place_sum x i l = sum_ℚ_same (length hyps) _ _ (λ j g. ap (λ c. of_ℤ c *ℚ x j) (part-place n (atom_number hyps j) i l))

  last_sum : (x : ℕ → ℚ) → sum_ℚ (length hyps) (λ j. of_ℤ (part n (atom_number hyps j) n) *ℚ x j) ≡ constant_sum hyps x
  last_sum x = sum_ℚ_same (length hyps) _ _ (λ j g. ap (λ c. of_ℤ c *ℚ x j) (part-last n (atom_number hyps j)))

  column_is : (y : ℕ → ℚ) (j : ℕ) → sum_ℚ (n + 1) (λ i. of_ℤ (part n (atom_number hyps j) i) *ℚ y i) ≡ combined (rational (empty_problem hyps n)) y j
  column_is y j =
      sum_ℚ_same (n + 1) _ _ (λ i l. ap (λ c. of_ℤ c *ℚ y i) (part-column hyps n i j l) ∙ *ℚ_comm (of_ℤ ((empty_problem hyps n).coefficient i j)) (y i))
      ∙ ap (λ m. sum_ℚ m (λ i. y i *ℚ of_ℤ ((empty_problem hyps n).coefficient i j))) (add-one n)

  coefficients_pass : (v : Sparse) (f : ℕ → ℤ) → ((i : ℕ) → i < n → sum_at hyps (at v) i ≡ of_ℤ (f i)) → AllPass (coefficient_parts hyps n v f)
  coefficients_pass v f h =
      numbered_pass (λ i. is (part_sum hyps n v i) (f i)) n
      (λ i l. is_passes (length hyps) (λ j. part n (atom_number hyps j) i) (at v) (f i) (place_sum (at v) i l ∙ h i l))

  dead_pass : (v : Sparse) → AllPass (signs v) → ShowsDead hyps n (at v) → AllPass (dead_parts hyps n v)
  dead_pass v s h =
      pass_both (signs v) (coefficient_parts hyps n v (λ i. pos 0) ++ is (part_sum hyps n v n) (negsuc 0) ∷ []) s
      (pass_both (coefficient_parts hyps n v (λ i. pos 0)) (is (part_sum hyps n v n) (negsuc 0) ∷ []) (coefficients_pass v (λ i. pos 0) h.coefficients)
      (is_passes (length hyps) (λ j. part n (atom_number hyps j) n) (at v) (negsuc 0) (last_sum (at v) ∙ h.constant), tt))

  live_pass : (y : Sparse) → ShowsLive hyps n (at y) → AllPass (live_parts hyps n y)
  live_pass y h =
      pass_both (map (λ j. is_at_most (column_sum hyps n y j) (pos 0)) (range_with_len 0 (length hyps))) (Some (is_negative (at y n)) ∷ [])
      (numbered_pass (λ j. is_at_most (column_sum hyps n y j) (pos 0)) (length hyps)
      (λ j l. at_most_passes (n + 1) (part n (atom_number hyps j)) (at y) (pos 0) (subst (λ z. z ≤ℚ of_ℤ (pos 0)) (sym (column_is (at y) j)) (h.columns j l))))
      (lt_ℚ-true (at y n) (of_ℤ (pos 0)) h.last, tt)

  -- of an atom b that has the coefficients and the constant of a
  keep_pass : (a b : Atom) (more : List Test) (v : Sparse) → AllPass (signs v) → AllPass more → ShowsAtom hyps n b (at v)
      → ((i : ℕ) → i < n → coefficient_of b i ≡ coefficient_of a i) → b.c0 ≡ a.c0 → AllPass (keep_parts hyps n a more v)
  keep_pass a b more v s m h e q =
      pass_both (signs v) (more ++ (coefficient_parts hyps n v (coefficient_of a) ++ is_at_most (part_sum hyps n v n) a.c0 ∷ [])) s
      (pass_both more (coefficient_parts hyps n v (coefficient_of a) ++ is_at_most (part_sum hyps n v n) a.c0 ∷ []) m
      (pass_both (coefficient_parts hyps n v (coefficient_of a)) (is_at_most (part_sum hyps n v n) a.c0 ∷ [])
      (coefficients_pass v (coefficient_of a) (λ i l. h.coefficients i l ∙ ap of_ℤ (e i l)))
      (at_most_passes (length hyps) (λ j. part n (atom_number hyps j) n) (at v) a.c0 (subst (λ c. sum_ℚ (length hyps) (λ j. of_ℤ (part n (atom_number hyps j) n) *ℚ at v j) ≤ℚ of_ℤ c) q (subst (λ z. z ≤ℚ of_ℤ b.c0) (sym (last_sum (at v))) h.constant)), tt)))

  module _ (budget : ℕ) where
    -- ---- lines
    pub line_passes : (l : Liveness) → IsLine hyps n budget l → AllPass (line_parts hyps n l)
    line_passes (Dead k) h = dead_pass k (items_positive (length hyps) _ k (solution_items (empty_problem hyps n) budget k h.vector) h.shows.signs) h.shows
    line_passes (Live y) h = live_pass y h.shows

    pub line_ranges : (l : Liveness) → IsLine hyps n budget l → line_in_range (length hyps) n l ≡ true
    line_ranges (Dead k) h = items_in_range (length hyps) _ k (solution_items (empty_problem hyps n) budget k h.vector) (length hyps) (omega arith)
    line_ranges (Live y) h = items_in_range (suc n) _ y (refutation_items (empty_problem hyps n) budget y h.vector) (n + 1) (omega arith)

    -- ---- keeps
    keep_ranges : (form : List ℤ) (b : Atom) (k : Sparse) → IsKeep hyps n form b budget k → in_range (length hyps) k ≡ true
    keep_ranges form b k h = items_in_range (length hyps) _ k (solution_items (sup_problem hyps form) budget k h.vector) (length hyps) (omega arith)

    pub keep_passes : (form : List ℤ) (a b : Atom) (more : List Test) (k : Sparse) → IsKeep hyps n form b budget k → AllPass more
        → ((i : ℕ) → i < n → coefficient_of b i ≡ coefficient_of a i) → b.c0 ≡ a.c0 → AllPass (keep_parts hyps n a more k)
    keep_passes form a b more k h m e q =
        keep_pass a b more k (items_positive (length hyps) _ k (solution_items (sup_problem hyps form) budget k h.vector) h.shows.signs) m h.shows e q

    module _ (form : Atom → List ℤ) (shown : Atom → Atom) where
      pub keeps_many : (atoms : List Atom) (ks : List Sparse) → AreKeeps hyps n form shown budget atoms ks → length ks ≡ length atoms
      keeps_many [] [] h = refl
      keeps_many [] (k ∷ ks) h = absurd h
      keeps_many (a ∷ atoms) [] h = absurd h
      keeps_many (a ∷ atoms) (k ∷ ks) h = ap suc (keeps_many atoms ks h.1)

      pub keeps_range : (atoms : List Atom) (ks : List Sparse) → AreKeeps hyps n form shown budget atoms ks → list_all (in_range (length hyps)) ks ≡ true
      keeps_range [] [] h = refl
      keeps_range [] (k ∷ ks) h = absurd h
      keeps_range (a ∷ atoms) [] h = absurd h
      keeps_range (a ∷ atoms) (k ∷ ks) h = and_from (in_range (length hyps) k) (list_all (in_range (length hyps)) ks) (keep_ranges (form a) (shown a) k h.0) (keeps_range atoms ks h.1)

      -- each keep of an atom passes a test
      module _ (test : Atom → Sparse → Test) where
        pairs_pass : (atoms : List Atom) (ks : List Sparse) → ((a : Atom) → Among a atoms → (k : Sparse) → IsKeep hyps n (form a) (shown a) budget k → Passes (test a k))
            → AreKeeps hyps n form shown budget atoms ks → AllPass (paired test atoms ks)
        pairs_pass [] ks f h = tt
        pairs_pass (a ∷ atoms) [] f h = absurd h
        pairs_pass (a ∷ atoms) (k ∷ ks) f h = (f a head k h.0, pairs_pass atoms ks (λ b m j i. f b (tail m) j i) h.1)

        pub flagged_pass : (b : Bool) (atoms : List Atom) (ks : List Sparse)
            → (b ≡ true → (a : Atom) → Among a atoms → (k : Sparse) → IsKeep hyps n (form a) (shown a) budget k → Passes (test a k))
            → AreKeeps hyps n form shown budget (if b then atoms else []) ks → AllPass (paired test atoms ks)
        flagged_pass true atoms ks f h = pairs_pass atoms ks (f refl) h
        flagged_pass false atoms [] f h = none_pass test atoms
        flagged_pass false atoms (k ∷ ks) f h = absurd h
