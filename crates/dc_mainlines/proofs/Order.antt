-- The steps in order, and the tests that the code has in the words of the clauses.
use Rattle.std.specs.Prelude.{◌≡◌, ℕ, zero, suc, ◌+◌, ◌*◌, ◌-◌, ◌≤◌, ◌<◌, Bool, true, false, not, ltb, if◌then◌else◌, List, [], ◌∷◌, ◌++◌, length, map, ℤ, pos, Option, Some, None, IsTrue, IsFalse}
use Rattle.std.specs.List.{range_with_len}
use Rattle.std.proofs.Common.{refl, sym, ◌∙◌, ap, ap₂, arith}
use Rattle.dc_frac.specs.declared.Frac.{Frac}
use Rattle.dc_lp.specs.declared.Problem.{Problem}
use Rattle.dc_lp.specs.Linear.{Linear}
use Rattle.dc_lp.specs.Folds.{folded, numbers}
use Rattle.dc_lp.proofs.Folding.{numbers-at}
use Rattle.dc_cert.specs.declared.sparse.Sparse.{Sparse}
use Rattle.dc_cert.specs.declared.certificate.Body.{Body}
use Rattle.dc_cert.specs.Vectors.{IsDense}
use Rattle.dc_clauses.specs.declared.step.Step.{Step}
use Rattle.dc_clauses.specs.Steps.{Test, all_of, counted, first_failure}
use Rattle.dc_clauses.specs.Lines.{at, is, is_at_most}
use Rattle.dc_clauses.specs.Mains.{whole_problem, multipliers, short_column, short_coefficient, left_fold, equation_test, equation_tests, price_test, price_tests, threshold_tests, ray_tests, fall_tests}
use Rattle.dc_clauses.proofs.Tests.{all_of-one}
use Rattle.dc_clauses.proofs.Walks.{first_failure-++}
use Rattle.dc_clauses.proofs.Items.{folded_same}
use Rattle.dc_mainlines.specs.Sums.{AreSums, solved, priced, short_columns}

-- ---- steps after steps

pub goes_on : (a b : List Step) (r : Option Step) → None ≡ first_failure a → r ≡ first_failure b → r ≡ first_failure (a ++ b)
goes_on a b r e h = h ∙ sym (first_failure-++ a b e)

-- what comes behind a clause
module _ (m : Linear ℤ) (u : ℕ) (b : Body) where
  abbrev pub behind_11 : List Step
  behind_11 = counted 12 0 (ray_tests m u b) ++ counted 13 0 (fall_tests m u b)

  abbrev pub behind_10 : List Step
  behind_10 = counted 11 0 (threshold_tests m u b) ++ behind_11

  abbrev pub behind_9 : List Step
  behind_9 = counted 10 0 (price_tests m u b) ++ behind_10

  abbrev pub behind_8 : List Step
  behind_8 = counted 9 0 (equation_tests m u b) ++ behind_9

-- ---- tests that agree
map_range : (f g : ℕ → Test) (s n : ℕ) → ((k : ℕ) → s ≤ k → k < s + n → f k ≡ g k) → map f (range_with_len s n) ≡ map g (range_with_len s n)
map_range f g s zero h = refl
map_range f g s (suc n) h = ap₂ (λ t ts. t ∷ ts) (h s (omega arith) (omega arith)) (map_range f g (s + 1) n (λ k a b. h k (omega arith) (omega arith)))

pub solved_same : (p : Problem) (u : ℕ) (unknown lambda : Sparse) (right : ℕ → ℤ) (sums : List (Option Frac)) → AreSums sums p.rows (left_fold (whole_problem p) u unknown lambda)
    → map (solved sums right) (range_with_len 0 (length sums)) ≡ map (equation_test (whole_problem p) u right unknown lambda) (range_with_len 0 p.rows)
solved_same p u unknown lambda right sums m =
    ap (λ n. map (solved sums right) (range_with_len 0 n)) m.one_each
    ∙ map_range (solved sums right) (equation_test (whole_problem p) u right unknown lambda) 0 p.rows (λ k a b. ap (λ s. is s (right k)) (m.each k (omega arith)))

dense_same : (n : ℕ) (a : ℕ → ℤ) (v : Sparse) (y : List Frac) → IsDense n v y → folded n a (numbers y) ≡ folded n a (at v)
dense_same zero a v y d = folded_same 0 a a (numbers y) (at v) (λ k l. refl) (λ k l. absurd (omega arith))
dense_same (suc n) a v [] d = absurd (let e = d.count in omega arith)
dense_same (suc n) a v (f ∷ y) d = folded_same (suc n) a a (numbers (f ∷ y)) (at v) (λ k l. refl) (λ k l. numbers-at (f ∷ y) k f (let e = d.count in omega arith) ∙ d.entries k f l)

pub priced_same : (p : Problem) (u : ℕ) (cost : ℕ → ℤ) (v : Sparse) (y : List Frac) → u * 2 ≤ length p.columns.items → IsDense p.rows v y
    → map (priced (whole_problem p) u cost (numbers y)) (range_with_len 0 (short_columns p u)) ≡ map (price_test (whole_problem p) u cost v) (range_with_len 0 (u + multipliers (whole_problem p) u))
priced_same p u cost v y l d =
    ap (λ n. map (priced (whole_problem p) u cost (numbers y)) (range_with_len 0 n)) (let e : length p.columns.items - u ≡ u + (length p.columns.items - u * 2) = omega arith in e)
    ∙ map_range (priced (whole_problem p) u cost (numbers y)) (price_test (whole_problem p) u cost v) 0 (u + multipliers (whole_problem p) u) each
  where
    each : (k : ℕ) → 0 ≤ k → k < 0 + (u + multipliers (whole_problem p) u) → priced (whole_problem p) u cost (numbers y) k ≡ price_test (whole_problem p) u cost v k
    each k a b =
        ap (λ s. if ltb k u then is s (cost (short_column (whole_problem p) u k)) else is_at_most s (pos 0)) (dense_same p.rows (λ i. short_coefficient (whole_problem p) u i k) v y d)

-- ---- the parts of a threshold's test
pub differs : (b n : Bool) (o : Test) → n ≡ not b → IsTrue n → Some false ≡ all_of (Some b ∷ o ∷ [])
differs true n o e h = absurd (let y : false ≡ true = sym e ∙ h in cc)
differs false n o e h = refl

pub agrees : (b n : Bool) (t o : Test) → n ≡ not b → IsFalse n → t ≡ o → t ≡ all_of (Some b ∷ o ∷ [])
agrees true n t o e h q = q ∙ sym (all_of-one o)
agrees false n t o e h q = absurd (let y : true ≡ false = sym e ∙ h in cc)
