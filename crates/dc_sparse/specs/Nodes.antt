-- What stands in an arena of nodes. At an index behind its end there is no node.
use Rattle.std.specs.Prelude.{◌≡◌, ℕ, ◌<◌, ◌-◌, ◌==◌, cond, Bool, not, pos, List, map, length, slice_index_or, Option, Some, None}
use Rattle.dc_math.specs.Rational.{ℚ, of_ℤ}
use Rattle.dc_math.specs.Tests.{is_zero}
use Rattle.dc_frac.specs.Value.{value}
use Rattle.dc_sparse.specs.declared.web.Node.{Node}
use Rattle.dc_sparse.specs.Lines.{Lines, link_after, head_after}

-- ---- how a node keeps the one that follows it

-- there are at most so many nodes, rows and columns
abbrev pub most : ℕ
most = 4294967295

-- an index is kept as the next number, and none as 0
abbrev pub link : ℕ → Option ℕ
link n = cond (n == 0) None (Some (n - 1))

-- what can be kept so
abbrev pub IsLink : Option ℕ → Type 0
IsLink None = Unit {0}
IsLink (Some a) = a < most

-- ---- the parts of the node at an index

abbrev pub part : {X : Type 0} → (Node → X) → X → List Node → ℕ → X
part f d xs a = slice_index_or (map f xs) a d

unfoldable pub row_at : List Node → ℕ → ℕ
row_at xs a = part (λ n. n.row) 0 xs a

unfoldable pub col_at : List Node → ℕ → ℕ
col_at xs a = part (λ n. n.col) 0 xs a

unfoldable pub item : List Node → ℕ → ℚ
item xs a = part (λ n. value n.value) (of_ℤ (pos 0)) xs a

unfoldable pub right_at : List Node → ℕ → Option ℕ
right_at xs a = part (λ n. link n.right) None xs a

unfoldable pub down_at : List Node → ℕ → Option ℕ
down_at xs a = part (λ n. link n.down) None xs a

unfoldable pub head_at : List (Option ℕ) → ℕ → Option ℕ
head_at hs l = slice_index_or hs l None

-- an index of the arena, or none
abbrev pub IsIn : List Node → Option ℕ → Type 0
IsIn xs None = Unit {0}
IsIn xs (Some a) = a < length xs

-- ---- rows and columns as lines

-- a node is linked where its value isn't 0
abbrev pub is_live : List Node → ℕ → Bool
is_live xs a = not (is_zero (item xs a))

abbrev pub by_rows : List Node → Lines
by_rows xs = record { live = is_live xs; line = row_at xs; index = col_at xs; next = right_at xs }

abbrev pub by_columns : List Node → Lines
by_columns xs = record { live = is_live xs; line = col_at xs; index = row_at xs; next = down_at xs }

-- ---- single writes

-- `to` follows `before` in its row, and all else is as it was
pub record IsRelinkedRight (old new : List Node) (before to : Option ℕ) : Type 0 where
  pub long : length new ≡ length old
  pub row : (a : ℕ) → row_at new a ≡ row_at old a
  pub col : (a : ℕ) → col_at new a ≡ col_at old a
  pub item : (a : ℕ) → item new a ≡ item old a
  pub right : (a : ℕ) → right_at new a ≡ link_after before to a (right_at old a)
  pub down : (a : ℕ) → down_at new a ≡ down_at old a

pub record IsRelinkedDown (old new : List Node) (before to : Option ℕ) : Type 0 where
  pub long : length new ≡ length old
  pub row : (a : ℕ) → row_at new a ≡ row_at old a
  pub col : (a : ℕ) → col_at new a ≡ col_at old a
  pub item : (a : ℕ) → item new a ≡ item old a
  pub right : (a : ℕ) → right_at new a ≡ right_at old a
  pub down : (a : ℕ) → down_at new a ≡ link_after before to a (down_at old a)

-- line i begins with `to` where nothing stands before
pub record AreReheaded (old new : List (Option ℕ)) (before : Option ℕ) (i : ℕ) (to : Option ℕ)
    : Type 0 where
  pub long : length new ≡ length old
  pub heads : (l : ℕ) → head_at new l ≡ head_after before i to l (head_at old l)
