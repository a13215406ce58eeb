-- Tests below a bound.
use Rattle.std.proofs.Common.{◌≡◌, ℕ, zero, suc, ◌<◌, ◌≤◌, Bool, true, false, ◌||◌, refl, arith, inl, inr, nat_lt}
use Rattle.std.proofs.lemmas.Bool.{cases_Bool, ltb-false, ltb-true, and_right}
use Rattle.dc_lp.specs.Meanings.{all_below}

pub or_true : (b : Bool) → b || true ≡ true
or_true true = refl
or_true false = refl

pub or_true_or : (a b : Bool) → a || true || b ≡ true
or_true_or true b = refl
or_true_or false b = refl

pub all_below-fails : (test : ℕ → Bool) (i n : ℕ) → test i ≡ false → i < n → all_below n test ≡ false
all_below-fails test i zero e lt = absurd (omega arith)
all_below-fails test i (suc n) e lt =
    elim (cases_Bool (nat_lt i n)) [
      | inl b ↦ rw (all_below-fails test i n e (ltb-true i n b)) refl
      | inr b ↦ (let up : n ≤ i = ltb-false i n b in let same : i ≡ n = omega arith in and_right (all_below n test) (test n) (rw (← same) e))
    ]

pub all_below-same : (n : ℕ) (f g : ℕ → Bool) → ((k : ℕ) → k < n → f k ≡ g k) → all_below n f ≡ all_below n g
all_below-same zero f g h = refl
all_below-same (suc n) f g h = rw (all_below-same n f g (λ k l. h k (omega arith)), h n (omega arith)) refl

pub all_below-false_first : (n : ℕ) (test : ℕ → Bool) → all_below (suc n) test ≡ false → test n ≡ true → all_below n test ≡ false
all_below-false_first n test e h =
    elim (cases_Bool (all_below n test)) [
      | inl b ↦ (let f : true ≡ false = rw (b, h) at e in absurd (cc))
      | inr b ↦ b
    ]
