use Rattle.std.proofs.Common.{◌∙◌, ap, map}
use Rattle.std.specs.List.{range_with_len}
use Rattle.dc_lp.specs.Problems.{whole_at}
use Rattle.dc_lp.specs.Folds.{numbers}
use Rattle.dc_clauses.specs.Steps.{counted, first_failure}
use Rattle.dc_clauses.specs.Mains.{whole_problem}
use Rattle.dc_mainlines.specs.Sums.{priced, short_columns}
use Rattle.dc_mainlines.proofs.Order.{priced_same}
use Rattle.dc_mainlines.proofs.body.dual_failure.Goals as goal

pub returns : goal.returns
returns c =
    let p = c.args.p.now in
    let u = c.args.unknowns in
    let a = whole_at c.args.costs.now in
    c.price_failure.ensures
    ∙ ap (λ y. first_failure (counted 10 0 (map (priced (whole_problem p) u a (numbers y)) (range_with_len 0 (short_columns p u))))) c.as_slice.ensures.value
    ∙ ap (λ ts. first_failure (counted 10 0 ts)) (priced_same p u a c.args.dual.now c.in_ok-y.y.items c.requires.room c.in_ok-y.ensures)
