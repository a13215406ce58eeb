-- Clauses 7 to 13: the main problem, and the vectors that show what is claimed.
use Rattle.std.specs.Prelude.{ℕ, ◌+◌, ◌*◌, ◌-◌, ltb, if◌then◌else◌, List, [], ◌∷◌, ◌++◌, map, length, ℤ, pos, Option, Some}
use Rattle.std.specs.List.{range_with_len}
use Rattle.std.specs.Option.{option_map}
use Rattle.dc_math.specs.Rational.{ℚ}
use Rattle.dc_math.specs.Tests.{eq_ℚ, is_negative, is_positive}
use Rattle.dc_frac.specs.Value.{value}
use Rattle.dc_cert.specs.Vectors.{in_range}
use Rattle.dc_lp.specs.declared.Problem.{Problem}
use Rattle.dc_lp.specs.Linear.{Linear}
use Rattle.dc_lp.specs.Problems.{coefficient, whole_at}
use Rattle.dc_lp.specs.Folds.{folded}
use Rattle.dc_cert.specs.declared.sparse.Item.{Item}
use Rattle.dc_cert.specs.declared.sparse.Sparse.{Sparse}
use Rattle.dc_cert.specs.declared.certificate.Body.{Body}
use Rattle.dc_cert.specs.declared.certificate.Body.TheVariants.{Threshold, Nothing, Vacuous}
use Rattle.dc_clauses.specs.Steps.{Test, all_of, Step, step, counted}
use Rattle.dc_clauses.specs.Lines.{at, is, is_at_most}

-- a problem by columns, in whole numbers
abbrev pub whole_problem : Problem → Linear ℤ
whole_problem p = record {
  equations = p.rows;
  columns = length p.columns.items;
  coefficient = coefficient p;
  right_side = whole_at p.b.items;
  cost = whole_at p.cost.items;
}

-- of the columns the first 2 * u belong to u unknowns, a plus and a minus each; the others are
-- those of the multipliers
module _ (main : Linear ℤ) (u : ℕ) where
  abbrev pub multipliers : ℕ
  multipliers = main.columns - u * 2

  -- the plus of each unknown, and then the multipliers
  abbrev pub short_column : ℕ → ℕ
  short_column k = if ltb k u then k * 2 else u + k

  abbrev pub short_coefficient : ℕ → ℕ → ℤ
  short_coefficient i k = main.coefficient i (short_column k)

  -- the values of the unknowns, then those of the multipliers
  abbrev pub short_value : Sparse → Sparse → ℕ → ℚ
  short_value unknown lambda k = if ltb k u then at unknown k else at lambda (k - u)

  abbrev pub left_fold : Sparse → Sparse → ℕ → Option ℚ
  left_fold unknown lambda i =
      folded (u + multipliers) (short_coefficient i) (short_value unknown lambda)

  abbrev pub price_fold : Sparse → ℕ → Option ℚ
  price_fold dual k = folded main.equations (λ i. short_coefficient i k) (at dual)

  abbrev pub right_fold : Sparse → Option ℚ
  right_fold dual = folded main.equations main.right_side (at dual)

  -- ---- clause 7: the items are in range; 0 unknown, 1 lambda, 2 the ray's unknown, 3 the ray's
  -- lambda, 4 dual
  abbrev pub range_step : ℕ → ℕ → Sparse → Step
  range_step k n v = step 7 k (Some (in_range n v))

  abbrev pub range_steps : Body → List Step
  range_steps (Threshold t unknown lambda dual) =
      range_step 0 u unknown ∷ range_step 1 multipliers lambda ∷ range_step 4 main.equations dual ∷ []
  range_steps (Nothing dual) = range_step 4 main.equations dual ∷ []
  range_steps (Vacuous unknown lambda ray_unknown ray_lambda) =
      range_step 0 u unknown ∷ range_step 1 multipliers lambda ∷ range_step 2 u ray_unknown
      ∷ range_step 3 multipliers ray_lambda ∷ []

  -- ---- clause 8: each item of lambda, then of the ray's lambda, is positive; the index is the
  -- item's
  abbrev pub sign_step : Item → Step
  sign_step i = step 8 i.index (Some (is_positive (value i.value)))

  abbrev pub sign_steps : Body → List Step
  sign_steps (Threshold t unknown lambda dual) = map sign_step lambda.items
  sign_steps (Nothing dual) = []
  sign_steps (Vacuous unknown lambda ray_unknown ray_lambda) =
      map sign_step lambda.items ++ map sign_step ray_lambda.items

  -- ---- clause 9: each equation holds
  abbrev pub equation_test : (ℕ → ℤ) → Sparse → Sparse → ℕ → Test
  equation_test right unknown lambda i = is (left_fold unknown lambda i) (right i)

  abbrev pub equation_tests : Body → List Test
  equation_tests (Threshold t unknown lambda dual) =
      map (equation_test main.right_side unknown lambda) (range_with_len 0 main.equations)
  equation_tests (Nothing dual) = []
  equation_tests (Vacuous unknown lambda ray_unknown ray_lambda) =
      map (equation_test main.right_side unknown lambda) (range_with_len 0 main.equations)

  -- ---- clause 10: dual times the column of an unknown is its cost, times that of a multiplier at
  -- most 0; for `none` the costs count as 0
  abbrev pub price_test : (ℕ → ℤ) → Sparse → ℕ → Test
  price_test cost dual k =
      if ltb k u then is (price_fold dual k) (cost (short_column k)) else is_at_most
      (price_fold dual k) (pos 0)

  abbrev pub price_tests : Body → List Test
  price_tests (Threshold t unknown lambda dual) =
      map (price_test main.cost dual) (range_with_len 0 (u + multipliers))
  price_tests (Nothing dual) = map (price_test (λ j. pos 0) dual) (range_with_len 0 (u + multipliers))
  price_tests (Vacuous unknown lambda ray_unknown ray_lambda) = []

  -- ---- clause 11: the threshold is unknown 0, and then dual times the right sides; for `none`
  -- the latter is positive
  abbrev pub threshold_tests : Body → List Test
  threshold_tests (Threshold t unknown lambda dual) =
      all_of (Some (eq_ℚ (value t) (at unknown 0))
      ∷ option_map (λ s. eq_ℚ (value t) s) (right_fold dual) ∷ []) ∷ []
  threshold_tests (Nothing dual) = option_map is_positive (right_fold dual) ∷ []
  threshold_tests (Vacuous unknown lambda ray_unknown ray_lambda) = []

  -- ---- clause 12: each equation with right side 0 holds for the ray
  abbrev pub ray_tests : Body → List Test
  ray_tests (Threshold t unknown lambda dual) = []
  ray_tests (Nothing dual) = []
  ray_tests (Vacuous unknown lambda ray_unknown ray_lambda) =
      map (equation_test (λ i. pos 0) ray_unknown ray_lambda) (range_with_len 0 main.equations)

  -- ---- clause 13: the ray's unknown 0 is negative
  abbrev pub fall_tests : Body → List Test
  fall_tests (Threshold t unknown lambda dual) = []
  fall_tests (Nothing dual) = []
  fall_tests (Vacuous unknown lambda ray_unknown ray_lambda) =
      Some (is_negative (at ray_unknown 0)) ∷ []

  -- ---- in order
  abbrev pub claim_steps : Body → List Step
  claim_steps b =
      range_steps b
      ++ (sign_steps b
      ++ (counted 9 0 (equation_tests b)
      ++ (counted 10 0 (price_tests b)
      ++ (counted 11 0 (threshold_tests b)
      ++ (counted 12 0 (ray_tests b)
      ++ counted 13 0 (fall_tests b))))))
