-- Choices of factors: which numbers may be multiplied, in which order the choices stand, and the
-- list of them.
use Rattle.std.specs.Prelude.{◌≡◌, ◌⊎◌, ℕ, zero, suc, ◌≤◌, ◌<◌, List, [], ◌∷◌, ◌++◌, map, length, AllPairs}
use Rattle.std.specs.List.{AllByRecursion}
use Rattle.dc_math.specs.Members.{Among}

-- the numbers of the factors of a product, a multiset: they rise, and one may be repeated
abbrev pub Choice : Type 0
Choice = List ℕ

-- below n, and none is below the one before it or below a first bound
abbrev pub Rises : ℕ → ℕ → Choice → Type 0
Rises n low [] = Unit {0}
Rises n low (i ∷ c) = (low ≤ i) × (i < n) × Rises n i c

-- at most k numbers below n
pub record IsChoice (n k : ℕ) (c : Choice) : Type 0 where
  pub few : length c ≤ k
  pub rises : Rises n 0 c

-- ---- the order: fewer factors first, then the one with the smaller number at the first difference
abbrev pub Smaller : Choice → Choice → Type 0
Smaller [] d = ⊥
Smaller (i ∷ c) [] = ⊥
Smaller (i ∷ c) (j ∷ d) = (i < j) ⊎ ((i ≡ j) × Smaller c d)

pub data Before (c d : Choice) : Type 0 where
  fewer : length c < length d → Before c d
  level : length c ≡ length d → Smaller c d → Before c d

-- the choices of at most k numbers below n: these alone, each of them, and in order. The order is
-- strict, so each stands there once, the empty one first.
pub record AreChoices (n k : ℕ) (cs : List Choice) : Type 0 where
  pub only : AllByRecursion (IsChoice n k) cs
  pub each : (c : Choice) → IsChoice n k c → Among c cs
  pub in_order : AllPairs Before cs

-- there is one such list
abbrev pub AreFixed : Type 0
AreFixed = (n k : ℕ) (cs ds : List Choice) → AreChoices n k cs → AreChoices n k ds → cs ≡ ds

-- ---- the list itself
-- with one more number at hand, the least: those with it before those without it
abbrev pub widened : ℕ → (ℕ → List Choice) → ℕ → List Choice
widened low f zero = [] ∷ []
widened low f (suc k) = map (λ c. low ∷ c) (widened low f k) ++ f (suc k)

abbrev pub without_numbers : ℕ → List Choice
without_numbers zero = [] ∷ []
without_numbers (suc k) = []

-- of k numbers, out of the so many numbers from low on
abbrev pub of_size : ℕ → ℕ → ℕ → List Choice
of_size zero low = without_numbers
of_size (suc more) low = widened low (of_size more (suc low))

-- of less than k numbers
abbrev pub below : ℕ → ℕ → List Choice
below n zero = []
below n (suc k) = below n k ++ of_size n 0 k

-- of at most k numbers
abbrev pub choices_of : ℕ → ℕ → List Choice
choices_of n k = below n (suc k)

-- that list is the one that the facts above fix
abbrev pub IsTheList : Type 0
IsTheList = (n k : ℕ) → AreChoices n k (choices_of n k)
