-- The sizes of a web of nodes, its rows and columns, and the table that it holds.
use Rattle.std.specs.Prelude.{◌≡◌, ◌≢◌, ℕ, List, length}
use Rattle.dc_math.specs.Rational.{ℚ}
use Rattle.dc_lp.specs.Tables.{Table}
use Rattle.dc_sparse.specs.Lines.{Lines}
use Rattle.dc_sparse.specs.Nodes.{by_rows, by_columns}
use Rattle.dc_sparse.specs.Pivots.{grid}
use Rattle.dc_sparse.specs.declared.web.Node.{Node}
use Rattle.dc_sparse.specs.declared.web.Web.{Web}
use Rattle.dc_sparse.specs.declared.scaled.Scaled.{Scaled}
use Rattle.dc_sparse.specs.Entries.{entry_at, StandsAt, KeepsCells}
use Rattle.dc_sparse.specs.Scales.{scale_at, scaled_at}
use Rattle.dc_math.specs.Inverse.{◌/ℚ◌}

abbrev pub nodes_of : Web → List Node
nodes_of w = w.nodes.items

abbrev pub node_count : Web → ℕ
node_count w = length w.nodes.items

abbrev pub height_of : Web → ℕ
height_of w = length w.row_heads.items

abbrev pub width_of : Web → ℕ
width_of w = length w.col_heads.items

abbrev pub rows_of : Web → Lines
rows_of w = by_rows w.nodes.items

abbrev pub columns_of : Web → Lines
columns_of w = by_columns w.nodes.items

-- ---- the table

unfoldable pub held_at : Scaled → ℕ → ℕ → ℚ
held_at s = scaled_at s.web.nodes.items s.dens.items

-- with so many real columns, and these basic columns
abbrev pub table_of : ℕ → List ℕ → Scaled → Table ℚ
table_of real basis s = record {
  real = real;
  rows = grid (height_of s.web) (width_of s.web) (held_at s);
  basis = basis;
}

-- ---- what changes

pub record KeepsSizes (old new : Web) : Type 0 where
  pub spare : new.spare ≡ old.spare
  pub arena : node_count new ≡ node_count old
  pub height : height_of new ≡ height_of old
  pub width : width_of new ≡ width_of old

-- at most what row i holds and its denominator change
pub record KeepsOthers (old new : Scaled) (i : ℕ) : Type 0 where
  pub entries : (a b : ℕ) → a ≢ i → held_at new a b ≡ held_at old a b
  pub scales : (a : ℕ) → a ≢ i → scale_at new.dens.items a ≡ scale_at old.dens.items a
  pub cells : KeepsCells (nodes_of old.web) (nodes_of new.web)
  pub sizes : KeepsSizes old.web new.web

-- the entries of row i become what the arena had there over `by`
pub record TakesOver (old new : Scaled) (i : ℕ) (by : ℚ) : Type 0 where
  pub here : (k : ℕ) → held_at new i k ≡ entry_at (nodes_of old.web) i k /ℚ by
  pub others : KeepsOthers old new i

-- all entries stay; row i may be held in another way
pub record KeepsEntries (old new : Scaled) (i : ℕ) : Type 0 where
  pub here : (k : ℕ) → held_at new i k ≡ held_at old i k
  pub others : KeepsOthers old new i

-- in all rows but i the entries stay, and nodes stay where they are
pub record KeepsHeld (old new : Scaled) (i : ℕ) : Type 0 where
  pub entries : (a b : ℕ) → a ≢ i → held_at new a b ≡ held_at old a b
  pub stays : (n a b : ℕ) → a ≢ i → StandsAt (nodes_of old.web) n a b
      → StandsAt (nodes_of new.web) n a b
  pub stood : (n a b : ℕ) → a ≢ i → StandsAt (nodes_of new.web) n a b
      → StandsAt (nodes_of old.web) n a b
