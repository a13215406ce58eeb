-- What a dense tableau means.
use Rattle.std.specs.Prelude.{◌+◌}
use Rattle.dc_lp.specs.Meanings.{Meaning}
use Rattle.dc_dense.specs.Flat.{flat}
use Rattle.dc_dense.specs.declared.dense.Dense.{Dense}

abbrev pub dense_meaning : Dense → Meaning
dense_meaning d = record {
  loaded = d.loaded;
  broken = d.broken;
  ready = d.ready;
  table = record {
    real = d.columns;
    rows = flat (d.rows + 2) d.width d.items.items;
    basis = d.basis.items;
  };
}
