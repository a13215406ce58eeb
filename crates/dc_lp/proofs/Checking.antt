-- What true tests say of the vectors.
use Rattle.std.specs.Prelude.{◌≡◌, ℕ, ◌+◌, ◌-◌, ◌<◌, ℤ, pos, Bool, true, false, not, ◌&&◌, ◌⊎◌, List, length, Option, Some, None, slice_index_or}
use Rattle.std.specs.Option.{option_map, option_and_then}
use Rattle.std.specs.Ordering.{int_eq, MatchOrdering}
use Rattle.std.specs.declared.cmp.Ordering.{Ordering}
use Rattle.std.specs.declared.cmp.Ordering.TheVariants.{Less, Equal, Greater}
use Rattle.std.proofs.Common.{refl, sym, ◌∙◌, ap, subst, arith, below_more, inl, inr}
use Rattle.std.proofs.lemmas.Bool.{lt-ltb, le-ltb, not-true}
use Rattle.std.proofs.lemmas.Option.{same_Some}
use Rattle.dc_math.specs.Rational.{ℚ, ◌*ℚ◌, of_ℤ, le_ℚ, ◌≤ℚ◌, ◌<ℚ◌, <ℚ-≤ℚ, *ℚ_comm}
use Rattle.dc_math.specs.Order.{≤ℚ_same}
use Rattle.dc_math.specs.Sums.{sum_ℚ_same}
use Rattle.dc_math.specs.Tests.{is_negative, is_positive, eq_ℚ, le_ℚ-true, le_ℚ_true, lt_ℚ_true, eq_ℚ_true}
use Rattle.dc_frac.specs.declared.Frac.{Frac}
use Rattle.dc_frac.specs.Value.{value}
use Rattle.dc_frac.proofs.ValueLaws.{eq-value}
use Rattle.dc_lp.specs.declared.Problem.{Problem}
use Rattle.dc_lp.specs.declared.Verdict.{Verdict}
use Rattle.dc_lp.specs.declared.Verdict.TheVariants.{Holds, Fails, Past128}
use Rattle.dc_lp.specs.Problems.{coefficient, whole_at, linear_of, columns}
use Rattle.dc_lp.specs.Linear.{left_side, combined, combined_right, cost_of, IsSolution, IsDual, IsRefutation, IsRay}
use Rattle.dc_lp.specs.Folds.{folded, numbers}
use Rattle.dc_lp.proofs.FoldSums.{folded-sum}
use Rattle.dc_lp.specs.Verdicts.{AllHold, IsVerdict, judged, left_fold, price_fold, cost_fold, right_fold, sign_test, equation_test, price_test, value_test, primal_test, dual_test, refutation_test, ray_test}
use Rattle.dc_lp.proofs.Folding.{numbers-at}

-- ---- verdicts
pub holds_all : (n : ℕ) (test : ℕ → Option Bool) (v : Verdict) → IsVerdict n test v → v ≡ Holds → AllHold test n
holds_all n test Holds h e = h
holds_all n test (Fails i) h e = absurd (cc)
holds_all n test (Past128 i) h e = absurd (cc)

-- the last test decides where those before it are true
pub verdict_last : (n j i : ℕ) (test : ℕ → Option Bool) (t : Option Bool) (v : Verdict) → AllHold test j → j ≡ n → i ≡ n → test n ≡ t → v ≡ judged i t → IsVerdict (n + 1) test v
verdict_last n j i test t v h e f g k = by t g k
  where
    all : AllHold test n
    all = subst (AllHold test) e h

    by : (t : Option Bool) → test n ≡ t → v ≡ judged i t → IsVerdict (n + 1) test v
    by None g k = rw (k, f) (omega arith, all, g)
    by (Some true) g k = rw k (below_more _ _ all g)
    by (Some false) g k = rw (k, f) (omega arith, all, g)

-- ---- tests of signs
module _ (xs : List Frac) (j : ℕ) (x : Frac) (l : j < length xs) (e : x ≡ slice_index_or xs j x) where
  read : numbers xs j ≡ value x
  read = numbers-at xs j x l ∙ ap value (sym e)

  to_true : (b : Bool) → not b ≡ false → b ≡ true
  to_true true h = refl
  to_true false h = absurd (cc)

  pub sign_passes : is_negative (value x) ≡ false → sign_test (numbers xs) j ≡ Some true
  sign_passes h = ap Some (ap (le_ℚ (of_ℤ (pos 0))) read ∙ to_true (le_ℚ (of_ℤ (pos 0)) (value x)) h)

  pub sign_fails : is_negative (value x) ≡ true → sign_test (numbers xs) j ≡ Some false
  sign_fails h = ap Some (ap (le_ℚ (of_ℤ (pos 0))) read ∙ not-true (le_ℚ (of_ℤ (pos 0)) (value x)) h)

-- ---- the tests by number
pub primal-sign : (p : Problem) (x : ℕ → ℚ) (k : ℕ) → k < columns p → primal_test p x k ≡ sign_test x k
primal-sign p x k l = rw (lt-ltb k (columns p) l) refl

pub primal-equation : (p : Problem) (x : ℕ → ℚ) (i : ℕ) → primal_test p x (columns p + i) ≡ equation_test p x (whole_at p.b.items i) i
primal-equation p x i = rw (le-ltb (columns p + i) (columns p) (omega arith)) (ap (λ k. equation_test p x (whole_at p.b.items k) k) (let e : (columns p + i) - columns p ≡ i = omega arith in e))

pub dual-price : (p : Problem) (x y : ℕ → ℚ) (k : ℕ) → k < columns p → dual_test p x y k ≡ price_test p y (whole_at p.cost.items k) k
dual-price p x y k l = rw (lt-ltb k (columns p) l) refl

pub dual-value : (p : Problem) (x y : ℕ → ℚ) → dual_test p x y (columns p) ≡ value_test p x y
dual-value p x y = rw (le-ltb (columns p) (columns p) (omega arith)) refl

pub refutation-price : (p : Problem) (y : ℕ → ℚ) (k : ℕ) → k < columns p → refutation_test p y k ≡ price_test p y (pos 0) k
refutation-price p y k l = rw (lt-ltb k (columns p) l) refl

pub refutation-right : (p : Problem) (y : ℕ → ℚ) → refutation_test p y (columns p) ≡ option_map is_positive (right_fold p y)
refutation-right p y = rw (le-ltb (columns p) (columns p) (omega arith)) refl

pub ray-sign : (p : Problem) (x : ℕ → ℚ) (k : ℕ) → k < columns p → ray_test p x k ≡ sign_test x k
ray-sign p x k l = rw (lt-ltb k (columns p) l) refl

pub ray-equation : (p : Problem) (x : ℕ → ℚ) (i : ℕ) → i < p.rows → ray_test p x (columns p + i) ≡ equation_test p x (pos 0) i
ray-equation p x i l =
    rw (le-ltb (columns p + i) (columns p) (omega arith), lt-ltb (columns p + i) (columns p + p.rows) (omega arith))
    (ap (λ k. equation_test p x (pos 0) k) (let e : (columns p + i) - columns p ≡ i = omega arith in e))

pub ray-cost : (p : Problem) (x : ℕ → ℚ) → ray_test p x (columns p + p.rows) ≡ option_map is_negative (cost_fold p x)
ray-cost p x = rw (le-ltb (columns p + p.rows) (columns p) (omega arith), le-ltb (columns p + p.rows) (columns p + p.rows) (omega arith)) refl

-- ---- what a true test says
passed : (f : ℚ → Bool) (o : Option ℚ) → option_map f o ≡ Some true → (s : ℚ) × (o ≡ Some s) × (f s ≡ true)
passed f None e = absurd (cc)
passed f (Some s) e = (s, refl, cc)

price-sum : (p : Problem) (y : ℕ → ℚ) (j : ℕ) (s : ℚ) → price_fold p y j ≡ Some s → s ≡ combined (linear_of p) y j
price-sum p y j s e =
    folded-sum p.rows (λ i. coefficient p i j) y s e
    ∙ sum_ℚ_same p.rows (λ i. of_ℤ (coefficient p i j) *ℚ y i) (λ i. y i *ℚ of_ℤ (coefficient p i j)) (λ i l. *ℚ_comm (of_ℤ (coefficient p i j)) (y i))

right-sum : (p : Problem) (y : ℕ → ℚ) (s : ℚ) → right_fold p y ≡ Some s → s ≡ combined_right (linear_of p) y
right-sum p y s e =
    folded-sum p.rows (whole_at p.b.items) y s e
    ∙ sum_ℚ_same p.rows (λ i. of_ℤ (whole_at p.b.items i) *ℚ y i) (λ i. y i *ℚ of_ℤ (whole_at p.b.items i)) (λ i l. *ℚ_comm (of_ℤ (whole_at p.b.items i)) (y i))

cost-sum : (p : Problem) (x : ℕ → ℚ) (s : ℚ) → cost_fold p x ≡ Some s → s ≡ cost_of (linear_of p) x
cost-sum p x s e = folded-sum (columns p) (whole_at p.cost.items) x s e

solved : (p : Problem) (x : ℕ → ℚ) (b : ℤ) (i : ℕ) → equation_test p x b i ≡ Some true → left_side (linear_of p) x i ≡ of_ℤ b
solved p x b i h =
    let t = passed (λ s. eq_ℚ s (of_ℤ b)) (left_fold p x i) h in
    sym (folded-sum (columns p) (coefficient p i) x t.0 t.1) ∙ eq_ℚ_true t.0 (of_ℤ b) t.2

priced : (p : Problem) (y : ℕ → ℚ) (c : ℤ) (j : ℕ) → price_test p y c j ≡ Some true → combined (linear_of p) y j ≤ℚ of_ℤ c
priced p y c j h =
    let t = passed (λ s. le_ℚ s (of_ℤ c)) (price_fold p y j) h in
    subst (λ z. z ≤ℚ of_ℤ c) (price-sum p y j t.0 t.1) (le_ℚ_true t.0 (of_ℤ c) t.2)

valued : (p : Problem) (x y : ℕ → ℚ) → value_test p x y ≡ Some true → cost_of (linear_of p) x ≡ combined_right (linear_of p) y
valued p x y h = by (cost_fold p x) (cost-sum p x) h
  where
    by : (o : Option ℚ) → ((s : ℚ) → o ≡ Some s → s ≡ cost_of (linear_of p) x) → option_and_then (λ s. option_map (λ t. eq_ℚ s t) (right_fold p y)) o ≡ Some true → cost_of (linear_of p) x ≡ combined_right (linear_of p) y
    by None f h = absurd (cc)
    by (Some s) f h =
        let t = passed (λ t. eq_ℚ s t) (right_fold p y) h in
        sym (f s refl) ∙ eq_ℚ_true s t.0 t.2 ∙ right-sum p y t.0 t.1

-- ---- what it says that all are true
pub primal-solution : (p : Problem) (x : ℕ → ℚ) → AllHold (primal_test p x) (columns p + p.rows) → IsSolution (linear_of p) x
primal-solution p x h = record {
  signs = λ j l. record { le = (le_ℚ_true _ _ (same_Some (le_ℚ (of_ℤ (pos 0)) (x j)) true (sym (primal-sign p x j l) ∙ h j (omega arith)))).le };
  equations = λ i l. solved p x (whole_at p.b.items i) i (sym (primal-equation p x i) ∙ h (columns p + i) (omega arith));
}

pub dual-is : (p : Problem) (x y : ℕ → ℚ) → AllHold (dual_test p x y) (columns p + 1) → IsDual (linear_of p) y
dual-is p x y h = record { prices = λ j l. priced p y (whole_at p.cost.items j) j (sym (dual-price p x y j l) ∙ h j (omega arith)) }

pub dual-valued : (p : Problem) (x y : ℕ → ℚ) → AllHold (dual_test p x y) (columns p + 1) → cost_of (linear_of p) x ≡ combined_right (linear_of p) y
dual-valued p x y h = valued p x y (sym (dual-value p x y) ∙ h (columns p) (omega arith))

pub refutation-is : (p : Problem) (y : ℕ → ℚ) → AllHold (refutation_test p y) (columns p + 1) → IsRefutation (linear_of p) y
refutation-is p y h =
    let t = passed is_positive (right_fold p y) (sym (refutation-right p y) ∙ h (columns p) (omega arith)) in
    record {
      prices = λ j l. priced p y (pos 0) j (sym (refutation-price p y j l) ∙ h j (omega arith));
      right_side = subst (λ z. of_ℤ (pos 0) <ℚ z) (right-sum p y t.0 t.1) (lt_ℚ_true _ _ t.2);
    }

pub ray-is : (p : Problem) (r : ℕ → ℚ) → AllHold (ray_test p r) (columns p + p.rows + 1) → IsRay (linear_of p) r
ray-is p r h =
    let t = passed is_negative (cost_fold p r) (sym (ray-cost p r) ∙ h (columns p + p.rows) (omega arith)) in
    record {
      signs = λ j l. record { le = (le_ℚ_true _ _ (same_Some (le_ℚ (of_ℤ (pos 0)) (r j)) true (sym (ray-sign p r j l) ∙ h j (omega arith)))).le };
      equations = λ i l. solved p r (pos 0) i (sym (ray-equation p r i l) ∙ h (columns p + i) (omega arith));
      falls = subst (λ z. z <ℚ of_ℤ (pos 0)) (cost-sum p r t.0 t.1) (lt_ℚ_true _ _ t.2);
    }

-- ---- what a helper answers is the test
pub tested : (f : ℚ → Bool) (o : Option ℚ) (s : ℚ) (b : Bool) → Some s ≡ o → b ≡ f s → Some b ≡ option_map f o
tested f o s b e h = ap Some h ∙ ap (option_map f) e

pub tested_both : (o q : Option ℚ) (s t : ℚ) (b : Bool) → Some s ≡ o → Some t ≡ q → b ≡ eq_ℚ s t → Some b ≡ option_and_then (λ u. option_map (λ v. eq_ℚ u v) q) o
tested_both o q s t b e f h = tested (λ v. eq_ℚ s v) q t b f h ∙ ap (option_and_then (λ u. option_map (λ v. eq_ℚ u v) q)) e

pub same_fold : (cs ds : List ℤ) (n : ℕ) (x : ℕ → ℚ) (s : ℚ) → Some s ≡ folded (length cs) (whole_at cs) x → cs ≡ ds → length ds ≡ n → Some s ≡ folded n (whole_at ds) x
same_fold cs ds n x s e k l = e ∙ ap (λ c. folded (length c) (whole_at c) x) k ∙ ap (λ m. folded m (whole_at ds) x) l

pub equals : (f g : Frac) (b : Bool) (z : ℚ) → b ≡ (int_eq f.num g.num && int_eq f.den g.den) → value g ≡ z → b ≡ eq_ℚ (value f) z
equals f g b z e h = e ∙ eq-value f g ∙ ap (eq_ℚ (value f)) h

pub at_most : (x y : ℚ) (o : Ordering) → MatchOrdering o (x <ℚ y) (x ≡ y) (y <ℚ x) → (o ≡ Less) ⊎ (o ≡ Equal) → true ≡ le_ℚ x y
at_most x y Less m h = sym (le_ℚ-true x y (<ℚ-≤ℚ x y m))
at_most x y Equal m h = sym (le_ℚ-true x y (≤ℚ_same x y m))
at_most x y Greater m (inl e) = absurd (cc)
at_most x y Greater m (inr e) = absurd (cc)
