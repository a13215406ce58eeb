use Rattle.std.proofs.Common.{◌∙◌, ap, ◌++◌, ◌∷◌, [], map, take}
use Rattle.dc_lp.specs.declared.Entry.{Entry}
use Rattle.std.proofs.Common.{List}
use Rattle.dc_coefficients.proofs.Lists.{behind, map_there}
use Rattle.dc_table.specs.Tables.{lists, opposite_entries}
use Rattle.dc_table.proofs.Extending.{lists_++}
use Rattle.dc_table.proofs.table.push_products.Goals as goal

pub loop-product-preserved : goal.loop-product-preserved
loop-product-preserved c =
    ap lists c.in_ok-push.ensures.items ∙ lists_++ c.loop-product.columns.items (c.in_ok-product_column.field-0 ∷ [])
    ∙ ap (λ (e : List Entry). lists c.loop-product.columns.items ++ e ∷ []) c.in_ok-product_column.ensures
    ∙ behind (lists c.loop-product.columns.items) (lists c.args.columns.now.items) (map (opposite_entries c.args.row c.args.monos.now) (take c.loop-product.product-index c.args.products.now)) _ (opposite_entries c.args.row c.args.monos.now c.product-item.result ∷ []) c.loop-product.invariant
    (map_there (opposite_entries c.args.row c.args.monos.now) c.args.products.now c.loop-product.product-index c.product-item.result c.loop-product-test.true c.product-item.is)
