-- The laws of a tableau of linked nodes.
use Rattle.std.specs.Prelude.{◌≡◌, ℕ, ◌<◌, ◌≤◌, true, false, pos, List, Contains, Option, Some}
use Rattle.dc_math.specs.Rational.{of_ℤ}
use Rattle.dc_math.specs.Inverse.{◌/ℚ◌}
use Rattle.dc_math.specs.Order.{Positive}
use Rattle.dc_lp.specs.Meanings.{IsPivotCell}
use Rattle.dc_lp.specs.Fill.{fill}
use Rattle.dc_sparse.specs.declared.cross.Cross.{Cross}
use Rattle.dc_sparse.specs.declared.web.Web.{Web}
use Rattle.dc_sparse.specs.declared.scaled.Scaled.{Scaled}
use Rattle.dc_sparse.specs.Nodes.{row_at, col_at, item, head_at, is_live}
use Rattle.dc_sparse.specs.Webs.{IsVacant}
use Rattle.dc_sparse.specs.Entries.{StandsAt}
use Rattle.dc_sparse.specs.Scales.{scale_at, den_of}
use Rattle.dc_sparse.specs.Held.{nodes_of, node_count, height_of, width_of, rows_of, columns_of, held_at}
use Rattle.dc_sparse.specs.Chains.{IsListOf, IsFreeListOf}
use Rattle.dc_sparse.specs.Meanings.{cross_meaning, spare_of}

-- the nodes of row i begin with this one, and those of column k with that one
abbrev pub row_head : Web → ℕ → Option ℕ
row_head w i = head_at w.row_heads.items i

abbrev pub column_head : Web → ℕ → Option ℕ
column_head w k = head_at w.col_heads.items k

-- each row and each column has its list, and so have the free nodes. An index of the arena that
-- holds an entry stands in the list of its row and in that of its column and not in that of the free
-- nodes; any other stands in that one. What a node holds, over the denominator of its row, is the
-- entry at its cell, and where none stands the entry is 0. A denominator is above 0.
pub record IsHeld (s : Scaled) (rows columns : ℕ → List ℕ) (free : List ℕ) : Type 0 where
  pub row_lists : (i : ℕ) → i < height_of s.web
      → IsListOf (rows_of s.web) (row_head s.web i) i (rows i)
  pub column_lists : (k : ℕ) → k < width_of s.web
      → IsListOf (columns_of s.web) (column_head s.web k) k (columns k)
  pub free_list : IsFreeListOf (nodes_of s.web) s.web.free s.web.spare free
  pub linked : (a : ℕ) → a < node_count s.web → is_live (nodes_of s.web) a ≡ true
      → Contains (rows (row_at (nodes_of s.web) a)) a
      × Contains (columns (col_at (nodes_of s.web) a)) a × ¬ Contains free a
  pub unused : (a : ℕ) → a < node_count s.web → is_live (nodes_of s.web) a ≡ false → Contains free a
  pub values : (a i k : ℕ) → StandsAt (nodes_of s.web) a i k
      → held_at s i k ≡ item (nodes_of s.web) a /ℚ den_of (scale_at s.dens.items i)
  pub zeros : (i k : ℕ) → IsVacant (nodes_of s.web) i k → held_at s i k ≡ of_ℤ (pos 0)
  pub dens : (i : ℕ) → Positive (den_of (scale_at s.dens.items i))

abbrev pub HasLists : Type 0
HasLists = (c : Cross)
    → (rows : ℕ → List ℕ) × (columns : ℕ → List ℕ) × (free : List ℕ) × IsHeld c.held rows columns free

-- a tableau that is ready for a pivot has as many free nodes as the pivot fills cells
abbrev pub HasRoom : Type 0
HasRoom = (c : Cross) (r j : ℕ) → c.ready ≡ Some (r, j) → IsPivotCell (cross_meaning c).table r j
    → fill (cross_meaning c).table r j ≤ spare_of c
