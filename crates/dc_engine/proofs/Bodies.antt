-- The body of the certificate, by the vectors of the outcome.
use Rattle.std.specs.Prelude.{◌≡◌, ◌⊎◌, ℕ, zero, suc, ◌+◌, ◌*◌, ◌-◌, ◌<◌, ◌≤◌, List, [], ◌∷◌, ◌++◌, take, drop, length, slice_index_or, ℤ, pos, false}
use Rattle.std.proofs.Common.{refl, sym, ◌∙◌, ap, ap₂, subst, inl, inr, arith, length-append}
use Rattle.std.proofs.lemmas.Bool.{cases_lt}
use Rattle.std.proofs.lemmas.List.{length-drop, take_all}
use Rattle.dc_math.specs.Rational.{ℚ, of_ℤ, neg_ℚ, ◌-ℚ◌, zero-+ℚ}
use Rattle.dc_math.specs.RationalRing.{ring, reads, read_nat, same_form}
use Rattle.dc_math.specs.RationalField.{rationals}
use Rattle.dc_math.specs.Order.{of_ℤ-neg_ℤ}
use Rattle.dc_math.specs.Tests.{is_zero, eq_ℚ-true}
use Rattle.dc_frac.specs.declared.Frac.{Frac}
use Rattle.dc_frac.specs.Value.{value}
use Rattle.dc_lp.specs.Folds.{numbers}
use Rattle.dc_lp.specs.Linear.{Linear}
use Rattle.dc_lp.specs.Tables.{Table}
use Rattle.dc_pivots.specs.FieldLaws.{AreOpposite}
use Rattle.dc_pivots.specs.declared.Ending.{Ending}
use Rattle.dc_pivots.specs.declared.Ending.TheVariants as endings
use Rattle.dc_simplex.specs.declared.Outcome.{Outcome}
use Rattle.dc_simplex.specs.declared.Outcome.TheVariants.{Optimal, Infeasible, Unbounded}
use Rattle.dc_simplex.specs.Outcomes.{IsVector, HasZero, UsesOneOfOpposites, TellsEnd, solution_at, direction_at}
use Rattle.dc_cert.specs.declared.sparse.Sparse.{Sparse}
use Rattle.dc_cert.specs.declared.certificate.Body.{Body}
use Rattle.dc_cert.specs.declared.certificate.Body.TheVariants.{Threshold, Nothing, Vacuous}
use Rattle.dc_cert.specs.Vectors.{nonzero_from}
use Rattle.dc_points.specs.Stated.{rational}
use Rattle.dc_families.proofs.Lists.{differ}
use Rattle.dc_mainlines.specs.Paired.{IsPaired}
use Rattle.dc_session.specs.Made.{AreItemsOf, unknown_in, multiplier_in, IsBodyOf}
use Rattle.dc_engine.specs.Bodies.{CanSplit, CanTell, IsSplit, TellsBody}

-- ---- a vector of other numbers that are the same
vector_moved : (n : ℕ) (f g : ℕ → ℚ) (xs : List Frac) → ((k : ℕ) → k < n → f k ≡ g k) → IsVector n f xs → IsVector n g xs
vector_moved n f g xs e h = record { long = h.long; each = λ k l. h.each k l ∙ e k l }

items_moved : (n m : ℕ) (f g : ℕ → ℚ) (v : Sparse) → n ≡ m → ((k : ℕ) → k < m → f k ≡ g k) → AreItemsOf n f v → AreItemsOf m g v
items_moved n m f g v l e h =
    record { whole = h.whole; vector = vector_moved m f g h.whole e (subst (λ j. IsVector j f h.whole) l h.vector); items = h.items }

module _ (main : Linear ℤ) (u : ℕ) (paired : IsPaired main u) where
  abbrev p : Linear ℚ
  p = rational main

  -- ---- an unknown has two columns that are each other's negatives
  opposite : (k : ℕ) → k < u → AreOpposite ℚ rationals p (suc (k * 2)) (k * 2)
  opposite k l = record {
    first = (let r = paired.room in omega arith);
    second = (let r = paired.room in omega arith);
    apart = λ e. absurd (omega (arith, e));
    entries = λ i. ap of_ℤ (paired.minus i k l) ∙ of_ℤ-neg_ℤ (main.coefficient i (k * 2));
    costs = ap of_ℤ (paired.minus_cost k l) ∙ of_ℤ-neg_ℤ (main.cost (k * 2));
  }

  swapped : (xs : List Frac) (i k : ℕ) → HasZero xs i k → HasZero xs k i
  swapped xs i k (inl e) = inr e
  swapped xs i k (inr e) = inl e

  -- ---- what can be told of an outcome
  module _ (t : Table ℚ) where
    pub can_tell : (e : Ending) (o : Outcome) → TellsEnd p t e o → UsesOneOfOpposites p o → CanTell u o
    can_tell endings.Optimal (Optimal x y v n) h w = record {
      room = (let e = h.solution.long in let r = paired.room in omega arith);
      zeros = λ k l. swapped x.items (suc (k * 2)) (k * 2) (w (suc (k * 2)) (k * 2) (opposite k l));
    }
    can_tell endings.Optimal (Infeasible y n) h w = absurd h
    can_tell endings.Optimal (Unbounded x r n) h w = absurd h
    can_tell endings.Infeasible (Optimal x y v n) h w = absurd h
    can_tell endings.Infeasible (Infeasible y n) h w = tt
    can_tell endings.Infeasible (Unbounded x r n) h w = absurd h
    can_tell (endings.Unbounded j) (Optimal x y v n) h w = absurd h
    can_tell (endings.Unbounded j) (Infeasible y n) h w = absurd h
    can_tell (endings.Unbounded j) (Unbounded x r n) h w = (
      record {
        room = (let e = h.solution.long in let g = paired.room in omega arith);
        zeros = λ k l. swapped x.items (suc (k * 2)) (k * 2) (w (suc (k * 2)) (k * 2) (opposite k l)).solution;
      },
      record {
        room = (let e = h.ray.long in let g = paired.room in omega arith);
        zeros = λ k l. swapped r.items (suc (k * 2)) (k * 2) (w (suc (k * 2)) (k * 2) (opposite k l)).ray;
      },
    )

    -- ---- a vector over the columns, by its parts
    module _ (f : ℕ → ℚ) (xs : List Frac) (h : IsVector p.columns f xs) where
      unknowns_are : (s : Sparse) → AreItemsOf u (unknown_in (numbers xs)) s → AreItemsOf u (unknown_in f) s
      unknowns_are s k =
          items_moved u u (unknown_in (numbers xs)) (unknown_in f) s refl
          (λ j l. let r = paired.room in ap₂ ◌-ℚ◌ (h.each (j * 2) (omega arith)) (h.each (suc (j * 2)) (omega arith))) k

      multipliers_are : (s : Sparse) → AreItemsOf (length xs - u * 2) (multiplier_in u (numbers xs)) s → AreItemsOf (main.columns - u * 2) (multiplier_in u f) s
      multipliers_are s k =
          items_moved (length xs - u * 2) (main.columns - u * 2) (multiplier_in u (numbers xs)) (multiplier_in u f) s (ap (λ n. n - u * 2) h.long)
          (λ j l. let r = paired.room in h.each (u * 2 + j) (omega arith)) k

    -- ---- the body
    pub body_is : (e : Ending) (o : Outcome) (b : Body) → TellsEnd p t e o → TellsBody u o b → IsBodyOf main u t e b
    body_is endings.Optimal (Optimal x y v n) (Threshold w unknown lambda dual) h k = record {
      least = ap value k.0 ∙ h.value;
      unknown_is = unknowns_are (solution_at t) x.items h.solution unknown k.1;
      lambda_is = multipliers_are (solution_at t) x.items h.solution lambda k.2;
      dual_is = record { whole = y.items; vector = h.dual; items = k.3 };
    }
    body_is endings.Optimal (Optimal x y v n) (Nothing dual) h k = absurd k
    body_is endings.Optimal (Optimal x y v n) (Vacuous a l r s) h k = absurd k
    body_is endings.Optimal (Infeasible y n) b h k = absurd h
    body_is endings.Optimal (Unbounded x r n) b h k = absurd h
    body_is endings.Infeasible (Optimal x y v n) b h k = absurd h
    body_is endings.Infeasible (Infeasible y n) (Threshold w a l d) h k = absurd k
    body_is endings.Infeasible (Infeasible y n) (Nothing dual) h k = record { whole = y.items; vector = h; items = k }
    body_is endings.Infeasible (Infeasible y n) (Vacuous a l r s) h k = absurd k
    body_is endings.Infeasible (Unbounded x r n) b h k = absurd h
    body_is (endings.Unbounded j) (Optimal x y v n) b h k = absurd h
    body_is (endings.Unbounded j) (Infeasible y n) b h k = absurd h
    body_is (endings.Unbounded j) (Unbounded x r n) (Threshold w a l d) h k = absurd k
    body_is (endings.Unbounded j) (Unbounded x r n) (Nothing d) h k = absurd k
    body_is (endings.Unbounded j) (Unbounded x r n) (Vacuous unknown lambda ray_unknown ray_lambda) h k = record {
      unknown_is = unknowns_are (solution_at t) x.items h.solution unknown k.0;
      lambda_is = multipliers_are (solution_at t) x.items h.solution lambda k.1;
      ray_unknown_is = unknowns_are (direction_at t j) r.items h.ray ray_unknown k.2;
      ray_lambda_is = multipliers_are (direction_at t j) r.items h.ray ray_lambda k.3;
    }

-- ---- a number and its parts
-- the numbers behind an index
pub numbers_behind : (n : ℕ) (xs : List Frac) (k : ℕ) → numbers (drop n xs) k ≡ numbers xs (n + k)
numbers_behind zero xs k = ap (numbers xs) (let e : k ≡ 0 + k = omega arith in e)
numbers_behind (suc n) [] k = refl
numbers_behind (suc n) (x ∷ xs) k = numbers_behind n xs k ∙ ap (numbers (x ∷ xs)) (let e : suc (n + k) ≡ suc n + k = omega arith in e)

without_zero : (a : ℚ) → a ≡ a -ℚ of_ℤ (pos 0)
without_zero a = ring (a ∷ []) (λ ρ p. simp (p, read_nat ρ, reads) (same_form _ _ _ refl))

pub difference_left : (a b : ℚ) → b ≡ of_ℤ (pos 0) → a ≡ a -ℚ b
difference_left a b e = subst (λ z. a ≡ a -ℚ z) (sym e) (without_zero a)

-- numbers that are added at the end
number_front : (xs ys : List Frac) (j : ℕ) → j < length xs → numbers (xs ++ ys) j ≡ numbers xs j
number_front [] ys j l = absurd (omega arith)
number_front (x ∷ xs) ys zero l = refl
number_front (x ∷ xs) ys (suc j) l = number_front xs ys j (omega arith)

number_last : (xs : List Frac) (y : Frac) (j : ℕ) → j ≡ length xs → numbers (xs ++ y ∷ []) j ≡ value y
number_last [] y zero e = refl
number_last [] y (suc j) e = absurd (omega arith)
number_last (x ∷ xs) y zero e = absurd (omega arith)
number_last (x ∷ xs) y (suc j) e = number_last xs y j (omega arith)

pub vector_push : (f : ℕ → ℚ) (xs new : List Frac) (k : ℕ) (y : Frac) → IsVector k f xs → value y ≡ f k → new ≡ xs ++ y ∷ [] → IsVector (k + 1) f new
vector_push f xs new k y h e g = record { long = (let a = ap length g in let b = length-append xs (y ∷ []) in let c = h.long in omega arith); each = each }
  where
    each : (j : ℕ) → j < k + 1 → numbers new j ≡ f j
    each j l = ap (λ zs. numbers zs j) g ∙ elim (cases_lt j k) [
      | inl i ↦ number_front xs (y ∷ []) j (let c = h.long in omega arith) ∙ h.each j i
      | inr i ↦ number_last xs y j (let c = h.long in omega arith) ∙ e ∙ ap f (let q : k ≡ j = omega arith in q)
    ]

pub difference_right : (a b c : ℚ) → a ≡ of_ℤ (pos 0) → c ≡ neg_ℚ b → c ≡ a -ℚ b
difference_right a b c e h = h ∙ sym (zero-+ℚ (neg_ℚ b)) ∙ ap (λ z. z -ℚ b) (sym e)

-- ---- the numbers that are read

pub left_zero : (a b : ℚ) → (a ≡ of_ℤ (pos 0)) ⊎ (b ≡ of_ℤ (pos 0)) → is_zero b ≡ false → a ≡ of_ℤ (pos 0)
left_zero a b (inl e) f = e
left_zero a b (inr e) f = differ (sym (eq_ℚ-true b (of_ℤ (pos 0)) e) ∙ f)

number_read : (xs : List Frac) (k : ℕ) (y : Frac) → k < length xs → y ≡ slice_index_or xs k y → numbers xs k ≡ value y
number_read [] k y l e = absurd (omega arith)
number_read (x ∷ xs) zero y l e = ap value (sym e)
number_read (x ∷ xs) (suc k) y l e = number_read xs k y (omega arith) e

module _ (u : ℕ) (xs : List Frac) (can : CanSplit u xs) (k : ℕ) (a b : Frac) (l : k < u) (ra : a ≡ slice_index_or xs (k * 2) a) (rb : b ≡ slice_index_or xs (k * 2 + 1) b) where
  plus_read : numbers xs (k * 2) ≡ value a
  plus_read = number_read xs (k * 2) a (let r = can.room in omega arith) ra

  minus_read : numbers xs (suc (k * 2)) ≡ value b
  minus_read = ap (numbers xs) (let e : suc (k * 2) ≡ k * 2 + 1 = omega arith in e) ∙ number_read xs (k * 2 + 1) b (let r = can.room in omega arith) rb

  pub one_zero : (value a ≡ of_ℤ (pos 0)) ⊎ (value b ≡ of_ℤ (pos 0))
  one_zero = by (can.zeros k l)
    where
      by : HasZero xs (k * 2) (suc (k * 2)) → (value a ≡ of_ℤ (pos 0)) ⊎ (value b ≡ of_ℤ (pos 0))
      by (inl e) = inl (sym plus_read ∙ e)
      by (inr e) = inr (sym minus_read ∙ e)

  pub unknown_read : value a -ℚ value b ≡ unknown_in (numbers xs) k
  unknown_read = ap₂ ◌-ℚ◌ (sym plus_read) (sym minus_read)

-- ---- a vector in two parts
pub whole_rest : (n : ℕ) (xs : List Frac) → take (length xs - n) (drop n xs) ≡ drop n xs
whole_rest n xs = take_all (length xs - n) (drop n xs) (let e = length-drop n xs in omega arith)

pub split_is : (u : ℕ) (xs ys zs : List Frac) (a b : Sparse) → u * 2 ≤ length xs → IsVector u (unknown_in (numbers xs)) ys → a.items ≡ nonzero_from 0 ys
    → zs ≡ drop (u * 2) xs → b.items ≡ nonzero_from 0 zs → IsSplit u xs (record { unknown = a; lambda = b })
split_is u xs ys zs a b l h e q f = record {
  unknown = record { whole = ys; vector = h; items = e };
  lambda = record {
    whole = zs;
    vector = record {
      long = ap length q ∙ length-drop (u * 2) xs;
      each = λ k i. ap (λ vs. numbers vs k) q ∙ numbers_behind (u * 2) xs k;
    };
    items = f;
  };
}
