-- What a tableau of linked nodes means, and how many nodes it has.
use Rattle.std.specs.Prelude.{ℕ, ◌-◌, length}
use Rattle.dc_lp.specs.Meanings.{Meaning}
use Rattle.dc_sparse.specs.Webs.{free_count}
use Rattle.dc_sparse.specs.Held.{table_of}
use Rattle.dc_sparse.specs.declared.cross.Cross.{Cross}

abbrev pub cross_meaning : Cross → Meaning
cross_meaning c = record {
  loaded = c.loaded;
  broken = c.broken;
  ready = c.ready;
  table = table_of c.columns c.basis.items c.held;
}

-- all nodes, those that are free, and those that are linked
abbrev pub arena_of : Cross → ℕ
arena_of c = length c.held.web.nodes.items

abbrev pub spare_of : Cross → ℕ
spare_of c = free_count c.held.web.nodes.items

abbrev pub live_of : Cross → ℕ
live_of c = arena_of c - spare_of c
