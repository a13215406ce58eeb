use Rattle.std.proofs.Common.{◌∙◌, ap, ap₂, ◌+◌, ◌++◌, map, flat_map, length}
use Rattle.dc_poly.specs.Terms.{coef, Polynomial}
use Rattle.dc_poly.specs.Sums.{negated}
use Rattle.dc_table.specs.Tables.{lists, extended, both_entries, opposite_entries}
use Rattle.dc_table.proofs.table.Table.add.Goals as goal

pub returns : goal.returns
returns c = record {
  rows = ap (λ ms. c.args.self.now.rows + length ms) c.as_slice-monos.ensures.value;
  unknowns = c.in_ok-extend.ensures ∙ ap₂ (λ ms qs. extended (lists c.args.self.now.unknowns.items) (flat_map (both_entries c.args.self.now.rows ms) qs)) c.as_slice-monos.ensures.value c.as_slice.ensures.value;
  products = c.in_ok-push_products.ensures ∙ ap₂ (λ ms qs. lists c.args.self.now.products.items ++ map (opposite_entries c.args.self.now.rows ms) qs) c.as_slice-monos.ensures.value c.as_slice-2.ensures.value;
  b = c.in_ok-push_right_sides.ensures ∙ ap (λ ms. c.args.self.now.b.items ++ map (coef (negated c.args.block.now.rest.terms)) ms) c.as_slice-monos.ensures.value;
}
