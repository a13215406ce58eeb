use Rattle.std.proofs.Common.{◌≡◌, ◌++◌, map, take}
use Rattle.dc_table.specs.Tables.{lists, opposite_entries}
use Rattle.dc_table.proofs.table.push_products.Given as goal

abbrev pub invariant-loop-product : goal.invariant-loop-product
invariant-loop-product l = lists l.columns.items ≡ lists l.initial.columns.items ++ map (opposite_entries l.row l.monos) (take l.product-index l.products)
