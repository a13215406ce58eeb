-- How many entries an arena of nodes holds, and how it grows.
use Rattle.std.specs.Prelude.{◌≡◌, ℕ, ◌-◌, ◌≤◌, not, max, List, length}
use Rattle.dc_math.specs.Tests.{is_zero}
use Rattle.dc_lp.specs.Fill.{count_cells}
use Rattle.dc_sparse.specs.declared.web.Node.{Node}
use Rattle.dc_sparse.specs.Entries.{entry_at}
use Rattle.dc_sparse.specs.Webs.{free_count}

-- how many entries that aren't 0 an arena holds in the first h rows and w columns
unfoldable pub held_count : List Node → ℕ → ℕ → ℕ
held_count xs h w = count_cells h w (λ i k. not (is_zero (entry_at xs i k)))

-- how many nodes are linked
abbrev pub live_count : List Node → ℕ
live_count xs = length xs - free_count xs

-- an arena that had n nodes has grown only as far as its linked ones need: `long` nodes, of which
-- `spare` are free
abbrev pub HasGrown : ℕ → ℕ → ℕ → Type 0
HasGrown n long spare = long ≡ max n (long - spare)

-- an arena that had `old` nodes has `new` ones: it keeps those that it had, and has at most `need`
-- where it grew
pub record GrowsFor (old new need : ℕ) : Type 0 where
  pub kept : old ≤ new
  pub most : new ≤ max old need
