-- A rising list of numbers of edges.
use Rattle.std.specs.Prelude.{◌≡◌, ℕ, ◌<◌, Bool, eqb, ltb, if◌then◌else◌, List, [], ◌∷◌, Option, Some, None}
use Rattle.std.specs.List.{AllByRecursion, list_any}

-- the numbers, and how many edges there are
pub record Listed : Type 0 where
  pub edges : ℕ
  pub numbers : List ℕ

abbrev pub is_listed : ℕ → List ℕ → Bool
is_listed k ks = list_any (eqb k) ks

-- each number is less than those behind it
abbrev pub Rising : List ℕ → Type 0
Rising [] = Unit {0}
Rising (k ∷ ks) = AllByRecursion (λ i. k < i) ks × Rising ks

-- numbers of edges, rising
pub record IsList (w : Listed) : Type 0 where
  pub below : AllByRecursion (λ k. k < w.edges) w.numbers
  pub rising : Rising w.numbers

-- one number more, unless it is there, before the first that is greater
abbrev pub with_number : ℕ → List ℕ → List ℕ
with_number k [] = k ∷ []
with_number k (x ∷ xs) =
    if ltb k x then k ∷ x ∷ xs else (if eqb k x then x ∷ xs else x ∷ with_number k xs)

-- the least is taken out, if there is one
pub record IsTaken (old new : Listed) (k : ℕ) : Type 0 where
  pub first : old.numbers ≡ k ∷ new.numbers
  pub edges : new.edges ≡ old.edges
  pub below : k < old.edges
  pub least : AllByRecursion (λ i. k < i) new.numbers

abbrev pub IsPopped : Listed → Listed → Option ℕ → Type 0
IsPopped old new None = (old.numbers ≡ []) × (new ≡ old)
IsPopped old new (Some k) = IsTaken old new k
