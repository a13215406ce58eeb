use Rattle.std.proofs.Common.{◌≡◌, rules, sym, ◌∙◌, ap, subst₂, SFits}
use Rattle.std.proofs.lemmas.Int.{to_z-of_z}
use mir.Syntax.{w128}
use Rattle.dc_math.specs.Rational.{of_ℤ}
use Rattle.dc_math.specs.Tests.{eq_ℚ}
use Rattle.dc_frac.specs.Value.{value}
use Rattle.dc_lp.specs.Problems.{IsColumn, entries, whole_at}
use Rattle.dc_lp.specs.Folds.{folded, numbers}
use Rattle.dc_lp.proofs.Columns.{entries-at}
use Rattle.dc_lp.proofs.Checking.{tested, equals}
use Rattle.dc_clauses.specs.Mains.{short_coefficient, whole_problem}
use Rattle.dc_mainlines.proofs.Tests.{price_read, unknown_priced}
use Rattle.dc_mainlines.proofs.steps.is_priced.Goals as goal

pub price-requires : goal.price-requires
price-requires c =
    subst₂ IsColumn (sym c.requires.length) (entries-at {C = _} (λ v. v.items) c.args.p.now.columns.items c.short_column-column.result c.index.result.now c.short_column-column.ensures.below c.index.ensures ∙ sym c.deref.ensures.value)
    (c.requires.well_formed.columns c.short_column-column.result c.short_column-column.ensures.below)

pub returns-then-k-unknowns : goal.returns-then-k-unknowns
returns-then-k-unknowns c =
    let e : entries c.args.p.now c.short_column-column.result ≡ c.deref.result.now = entries-at {C = _} (λ v. v.items) c.args.p.now.columns.items c.short_column-column.result c.index.result.now c.short_column-column.ensures.below c.index.ensures ∙ sym c.deref.ensures.value in
    let q = price_read c.args.p.now c.args.unknowns c.args.k c.short_column-column.result _ c.deref.result.now (numbers c.args.y.now) _ c.in_ok-sum.ensures c.requires.length e c.short_column-column.ensures.column in
    let f : SFits w128 c.number_at.result = search rules in
    let w = simp to_z-of_z at c.whole.ensures in
    unknown_priced c.args.p.now c.args.unknowns c.args.k c.short_column-column.result (whole_at c.args.costs.now) (numbers c.args.y.now) c.short_column-column.ensures.column _ c.if-k-unknowns.true
    (tested (λ s. eq_ℚ s (of_ℤ (whole_at c.args.costs.now c.short_column-column.result))) (folded c.args.p.now.rows (λ i. short_coefficient (whole_problem c.args.p.now) c.args.unknowns i c.args.k) (numbers c.args.y.now))
    (value c.in_ok-sum.sum) c.eq.result q (equals c.in_ok-sum.sum c.whole.result c.eq.result (of_ℤ (whole_at c.args.costs.now c.short_column-column.result)) c.eq.ensures (w ∙ ap of_ℤ c.number_at.ensures)))
