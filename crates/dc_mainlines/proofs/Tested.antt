-- What steps that all hold say.
use Rattle.std.specs.Prelude.{◌≡◌, ℕ, zero, suc, ◌+◌, ◌≤◌, ◌<◌, Bool, true, false, cond, eqb, List, [], ◌∷◌, ◌++◌, map, ℤ, pos, Option, Some, None}
use Rattle.std.specs.List.{range_with_len}
use Rattle.std.specs.Option.{option_map}
use Rattle.std.proofs.Common.{refl, sym, ◌∙◌, ap, arith}
use Rattle.std.proofs.lemmas.Bool.{eqb-true, eqb-false}
use Rattle.std.proofs.lemmas.Option.{same_Some}
use Rattle.dc_math.specs.Rational.{ℚ, of_ℤ, le_ℚ, ◌≤ℚ◌, ◌<ℚ◌, ≤ℚ_refl, <ℚ-≤ℚ, NonNegative}
use Rattle.dc_math.specs.Tests.{eq_ℚ, eq_ℚ_true, is_positive, is_negative, le_ℚ_true, lt_ℚ_true}
use Rattle.dc_frac.specs.Value.{value}
use Rattle.dc_lp.specs.Linear.{Linear}
use Rattle.dc_cert.specs.declared.sparse.Item.{Item}
use Rattle.dc_cert.specs.Vectors.{entry_after, entry_of}
use Rattle.dc_clauses.specs.declared.step.Step.{Step}
use Rattle.dc_clauses.specs.Steps.{Test, all_of, counted, AllHold}
use Rattle.dc_clauses.specs.Lines.{is, is_at_most}
use Rattle.dc_clauses.specs.Mains.{sign_step}

-- ---- steps after steps
pub holds_first : (a b : List Step) → AllHold (a ++ b) → AllHold a
holds_first [] b h = tt
holds_first (s ∷ a) b h = (h.0, holds_first a b h.1)

pub holds_second : (a b : List Step) → AllHold (a ++ b) → AllHold b
holds_second [] b h = h
holds_second (s ∷ a) b h = holds_second a b h.1

-- ---- numbered tests
numbered_from : (c j s n : ℕ) (f : ℕ → Test) → AllHold (counted c j (map f (range_with_len s n))) → (i : ℕ) → s ≤ i → i < s + n → f i ≡ Some true
numbered_from c j s zero f h i l g = absurd (omega arith)
numbered_from c j s (suc n) f h i l g = by (eqb s i) refl (λ d. numbered_from c (suc j) (s + 1) n f h.1 i d (omega arith))
  where
    by : (b : Bool) → eqb s i ≡ b → (s + 1 ≤ i → f i ≡ Some true) → f i ≡ Some true
    by true e r = ap f (sym (eqb-true s i e)) ∙ h.0
    by false e r = let d = eqb-false s i e in r (omega (arith, d))

pub numbered : (c n : ℕ) (f : ℕ → Test) → AllHold (counted c 0 (map f (range_with_len 0 n))) → (i : ℕ) → i < n → f i ≡ Some true
numbered c n f h i l = numbered_from c 0 0 n f h i (omega arith) (omega arith)

-- ---- parts
pub both_parts : (s t : Test) → all_of (s ∷ t ∷ []) ≡ Some true → (s ≡ Some true) × (t ≡ Some true)
both_parts (Some true) (Some true) e = (refl, refl)
both_parts (Some true) (Some false) e = absurd cc
both_parts (Some true) None e = absurd cc
both_parts (Some false) t e = absurd cc
both_parts None t e = absurd cc

-- ---- tests of sums

pub is_sum : (o : Option ℚ) (c : ℤ) → is o c ≡ Some true → o ≡ Some (of_ℤ c)
is_sum None c e = absurd cc
is_sum (Some s) c e = ap Some (eq_ℚ_true s (of_ℤ c) (same_Some (eq_ℚ s (of_ℤ c)) true e))

pub at_most_sum : (o : Option ℚ) (c : ℤ) → is_at_most o c ≡ Some true → (s : ℚ) × (o ≡ Some s) × (s ≤ℚ of_ℤ c)
at_most_sum None c e = absurd cc
at_most_sum (Some s) c e = (s, refl, le_ℚ_true s (of_ℤ c) (same_Some (le_ℚ s (of_ℤ c)) true e))

pub equal_sum : (o : Option ℚ) (t : ℚ) → option_map (λ s. eq_ℚ t s) o ≡ Some true → o ≡ Some t
equal_sum None t e = absurd cc
equal_sum (Some s) t e = ap Some (sym (eq_ℚ_true t s (same_Some (eq_ℚ t s) true e)))

pub positive_sum : (o : Option ℚ) → option_map is_positive o ≡ Some true → (s : ℚ) × (o ≡ Some s) × (of_ℤ (pos 0) <ℚ s)
positive_sum None e = absurd cc
positive_sum (Some s) e = (s, refl, lt_ℚ_true (of_ℤ (pos 0)) s (same_Some (is_positive s) true e))

pub same_number : (x y : ℚ) → Some (eq_ℚ x y) ≡ Some true → x ≡ y
same_number x y e = eq_ℚ_true x y (same_Some (eq_ℚ x y) true e)

pub negative_number : (x : ℚ) → Some (is_negative x) ≡ Some true → x <ℚ of_ℤ (pos 0)
negative_number x e = lt_ℚ_true x (of_ℤ (pos 0)) (same_Some (is_negative x) true e)

-- ---- signs
-- a vector of positive items has no negative value
positive_after : (m : Linear ℤ) (u : ℕ) (x : ℚ) (items : List Item) (k : ℕ) → NonNegative x → AllHold (map (sign_step m u) items) → NonNegative (entry_after x items k)
positive_after m u x [] k n h = n
positive_after m u x (i ∷ items) k n h = positive_after m u (cond (eqb i.index k) (value i.value) x) items k (by (eqb i.index k)) h.1
  where
    by : (b : Bool) → NonNegative (cond b (value i.value) x)
    by true = <ℚ-≤ℚ (of_ℤ (pos 0)) (value i.value) (lt_ℚ_true (of_ℤ (pos 0)) (value i.value) (same_Some (is_positive (value i.value)) true h.0))
    by false = n

pub positive_items : (m : Linear ℤ) (u : ℕ) (items : List Item) → AllHold (map (sign_step m u) items) → (k : ℕ) → NonNegative (entry_of items k)
positive_items m u items h k = positive_after m u (of_ℤ (pos 0)) items k (≤ℚ_refl (of_ℤ (pos 0))) h
