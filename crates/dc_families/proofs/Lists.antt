-- What stands in lists.
use Rattle.std.specs.Prelude.{◌≡◌, ℕ, zero, suc, ◌<◌, ◌≤◌, Bool, true, false, cond, List, [], ◌∷◌, find, length, slice_index_or, Some}
use Rattle.std.proofs.Common.{refl, ap₂, subst, arith}
use Rattle.dc_math.specs.Members.{Among, head, tail}

pub differ : {A : Type 0} → true ≡ false → A
differ e = absurd (cc)

pub past_none : {A : Type 0} (xs : List A) (i : ℕ) (d : A) → length xs ≤ i → slice_index_or xs i d ≡ d
past_none [] i d h = refl
past_none (x ∷ xs) zero d h = absurd (omega arith)
past_none (x ∷ xs) (suc i) d h = past_none xs i d (omega arith)

-- lists of one length that agree at each place
pub same_lists : {A : Type 0} (d : A) (xs ys : List A) → length xs ≡ length ys → ((i : ℕ) → i < length xs → slice_index_or xs i d ≡ slice_index_or ys i d) → xs ≡ ys
same_lists d [] [] l h = refl
same_lists d [] (y ∷ ys) l h = absurd (omega arith)
same_lists d (x ∷ xs) [] l h = absurd (omega arith)
same_lists d (x ∷ xs) (y ∷ ys) l h = ap₂ ◌∷◌ (h 0 (omega arith)) (same_lists d xs ys (omega arith) (λ i k. h (suc i) (omega arith)))

-- ---- the first that passes a test
pub find_is : {A : Type 0} (p : A → Bool) (x : A) (xs : List A) → find p xs ≡ Some x → Among x xs × (p x ≡ true)
find_is p x [] e = absurd (cc)
find_is p x (y ∷ xs) e = by (find_is p x xs) (p y) refl e
  where
    by : (find p xs ≡ Some x → Among x xs × (p x ≡ true)) → (b : Bool) → p y ≡ b → cond b (Some y) (find p xs) ≡ Some x → Among x (y ∷ xs) × (p x ≡ true)
    by g true t f = let s : y ≡ x = cc in subst (λ z. Among z (y ∷ xs) × (p z ≡ true)) s (head, t)
    by g false t f = let r = g f in (tail r.0, r.1)

-- ---- equal tests
