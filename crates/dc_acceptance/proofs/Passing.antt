-- Tests that are not false, and lists of steps of which none is.
use Rattle.std.specs.Prelude.{◌≡◌, ℕ, zero, suc, ◌+◌, ◌<◌, ◌≤◌, Bool, true, false, cond, List, [], ◌∷◌, ◌++◌, map, Some, None}
use Rattle.std.specs.List.{AllByRecursion, range_with_len}
use Rattle.std.proofs.Common.{refl, subst, arith}
use Rattle.dc_clauses.specs.declared.step.Step.{Step}
use Rattle.dc_clauses.specs.Steps.{Test, is_true, all_of, counted, first_failure}
use Rattle.dc_clauses.specs.Sides.{paired}

pub not_true : {A : Type 0} → false ≡ true → A
not_true e = absurd cc

-- true, or a sum that doesn't fit
abbrev pub Passes : Test → Type 0
Passes (Some b) = b ≡ true
Passes None = Unit {0}

abbrev pub AllPass : List Test → Type 0
AllPass ts = AllByRecursion Passes ts

abbrev pub StepPasses : Step → Type 0
StepPasses s = Passes s.test

abbrev pub StepsPass : List Step → Type 0
StepsPass ss = AllByRecursion StepPasses ss

-- ---- tests after tests
pub pass_both : (a b : List Test) → AllPass a → AllPass b → AllPass (a ++ b)
pass_both [] b h k = k
pass_both (t ∷ a) b h k = (h.0, pass_both a b h.1 k)

pub steps_both : (a b : List Step) → StepsPass a → StepsPass b → StepsPass (a ++ b)
steps_both [] b h k = k
steps_both (s ∷ a) b h k = (h.0, steps_both a b h.1 k)

pub all_pass : (ts : List Test) → AllPass ts → Passes (all_of ts)
all_pass [] h = refl
all_pass (Some true ∷ ts) h = all_pass ts h.1
all_pass (Some false ∷ ts) h = not_true h.0
all_pass (None ∷ ts) h = tt

pub counted_pass : (c k : ℕ) (ts : List Test) → AllPass ts → StepsPass (counted c k ts)
counted_pass c k [] h = tt
counted_pass c k (t ∷ ts) h = (h.0, counted_pass c (suc k) ts h.1)

-- ---- numbered ones
mapped_pass : (f : ℕ → Test) (k n : ℕ) → ((i : ℕ) → k ≤ i → i < k + n → Passes (f i)) → AllPass (map f (range_with_len k n))
mapped_pass f k zero h = tt
mapped_pass f k (suc n) h = (h k (omega arith) (omega arith), mapped_pass f (k + 1) n (λ i l g. h i (omega arith) (omega arith)))

pub numbered_pass : (f : ℕ → Test) (n : ℕ) → ((i : ℕ) → i < n → Passes (f i)) → AllPass (map f (range_with_len 0 n))
numbered_pass f n h = mapped_pass f 0 n (λ i l g. h i (omega arith))

-- ---- pairs
pub none_pass : {A B : Type 0} (f : A → B → Test) (xs : List A) → AllPass (paired f xs [])
none_pass f [] = tt
none_pass f (x ∷ xs) = tt

-- ---- the first that isn't true
pub failure_passes : (ss : List Step) (x : Step) → StepsPass ss → first_failure ss ≡ Some x → Passes x.test
failure_passes [] x h e = absurd cc
failure_passes (s ∷ ss) x h e = by (is_true s.test) e (λ q. failure_passes ss x h.1 q)
  where
    same : Some s ≡ Some x → s ≡ x
    same q = cc

    by : (b : Bool) → cond b (first_failure ss) (Some s) ≡ Some x → (first_failure ss ≡ Some x → Passes x.test) → Passes x.test
    by true q r = r q
    by false q r = subst StepPasses (same q) h.0
