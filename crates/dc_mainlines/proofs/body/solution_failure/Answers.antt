use Rattle.std.proofs.Common.{◌∙◌, ap, length, map}
use Rattle.std.specs.List.{range_with_len}
use Rattle.dc_lp.specs.Problems.{whole_at}
use Rattle.dc_clauses.specs.Steps.{counted, first_failure}
use Rattle.dc_mainlines.specs.Sums.{solved}
use Rattle.dc_mainlines.proofs.Order.{solved_same}
use Rattle.dc_mainlines.proofs.body.solution_failure.Goals as goal

pub returns : goal.returns
returns c =
    let a = whole_at c.args.right.now in
    c.equation_failure.ensures
    ∙ ap (λ sums. first_failure (counted c.args.clause 0 (map (solved sums a) (range_with_len 0 (length sums))))) c.as_slice.ensures.value
    ∙ ap (λ ts. first_failure (counted c.args.clause 0 ts)) (solved_same c.args.p.now c.args.unknowns c.args.unknown.now c.args.lambda.now a c.in_ok-sums.sums.items c.in_ok-sums.ensures)
