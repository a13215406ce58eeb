use Rattle.std.proofs.Common.{◌≡◌, arith, sym, ◌∙◌, ap, subst₂}
use Rattle.dc_lp.specs.Problems.{IsColumn, entries}
use Rattle.dc_lp.proofs.Columns.{entries-at}
use Rattle.dc_mainlines.proofs.Sweeps.{items_start, items_more, items_end}
use Rattle.dc_mainlines.proofs.sums.add_items.Goals as goal

pub loop-item-init : goal.loop-item-init
loop-item-init c = items_start c.args.p.now c.args.unknowns c.args.start c.args.sums.now c.args.items.now c.requires.rows

pub add_column-requires : goal.add_column-requires
add_column-requires c =
    subst₂ IsColumn (sym c.loop-item.invariant.one_each) (entries-at {C = _} (λ v. v.items) c.args.p.now.columns.items c.short_column-column.result c.index.result.now c.short_column-column.ensures.below c.index.ensures ∙ sym c.deref.ensures.value)
    (c.requires.well_formed.columns c.short_column-column.result c.short_column-column.ensures.below)

pub loop-item-preserved : goal.loop-item-preserved
loop-item-preserved c =
    let e : entries c.args.p.now c.short_column-column.result ≡ c.deref.result.now = entries-at {C = _} (λ v. v.items) c.args.p.now.columns.items c.short_column-column.result c.index.result.now c.short_column-column.ensures.below c.index.ensures ∙ sym c.deref.ensures.value in
    items_more c.args.p.now c.args.unknowns c.args.start c.args.sums.now c.loop-item.sums _ c.args.items.now c.loop-item.item-index c.item-item.result c.deref.result.now c.loop-item-test.true c.item-item.is
    (sym e ∙ ap (entries c.args.p.now) c.short_column-column.ensures.column) c.add_column.ensures c.loop-item.invariant

pub returns : goal.returns
returns c = items_end c.args.p.now c.args.unknowns c.args.start c.args.sums.now c.loop-item.sums c.args.items.now c.loop-item.item-index (omega arith) c.loop-item.invariant
