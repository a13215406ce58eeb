-- Lists that are linked by index.
use Rattle.std.specs.Prelude.{◌≡◌, ℕ, ◌<◌, suc, List, [], ◌∷◌, Contains, Option, Some, None}
use Rattle.dc_sparse.specs.declared.web.Node.{Node}
use Rattle.dc_sparse.specs.Lines.{Lines, IsFrom}
use Rattle.dc_sparse.specs.Nodes.{row_at, right_at}
use Rattle.dc_sparse.specs.Webs.{IsFree}

-- from `from` on the links lead along these indices, and end
abbrev pub IsChain : (ℕ → Option ℕ) → Option ℕ → List ℕ → Type 0
IsChain next None [] = Unit {0}
IsChain next None (x ∷ xs) = ⊥
IsChain next (Some a) [] = ⊥
IsChain next (Some a) (x ∷ xs) = (a ≡ x) × IsChain next (next a) xs

-- nodes of line i at rising indices, from index k on
abbrev pub RiseFrom : Lines → ℕ → ℕ → List ℕ → Type 0
RiseFrom s i k [] = Unit {0}
RiseFrom s i k (x ∷ xs) = IsFrom s i k x × RiseFrom s i (suc (s.index x)) xs

-- the list of line i: linked from its head, all nodes of the line and no others, by rising index
-- (so each stands there once)
pub record IsListOf (s : Lines) (head : Option ℕ) (i : ℕ) (xs : List ℕ) : Type 0 where
  pub chain : IsChain s.next head xs
  pub rise : RiseFrom s i 0 xs
  pub all : (a : ℕ) → IsFrom s i 0 a → Contains xs a

-- free nodes at falling ranks below n
abbrev pub RanksFall : List Node → ℕ → List ℕ → Type 0
RanksFall xs n [] = Unit {0}
RanksFall xs n (a ∷ ys) = IsFree xs a × (row_at xs a < n) × RanksFall xs (row_at xs a) ys

-- the free list: linked from `free`, all free nodes and no others, at falling ranks (so each
-- stands there once)
pub record IsFreeListOf (xs : List Node) (free : Option ℕ) (spare : ℕ) (ys : List ℕ) : Type 0 where
  pub chain : IsChain (right_at xs) free ys
  pub fall : RanksFall xs spare ys
  pub all : (a : ℕ) → IsFree xs a → Contains ys a
