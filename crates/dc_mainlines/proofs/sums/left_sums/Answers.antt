use Rattle.std.proofs.Common.{◌≡◌, rules, sym, subst, ◌∙◌, length, replicate, Some}
use Rattle.dc_clauses.specs.Mains.{left_fold, whole_problem}
use Rattle.dc_mainlines.specs.Sums.{AreSums}
use Rattle.dc_mainlines.proofs.Sweeps.{sums_left, written_back}
use Rattle.dc_mainlines.proofs.sums.left_sums.Goals as goal

pub returns : goal.returns
returns c =
    let f : c.in_ok-sums.sums.items ≡ replicate c.args.p.now.rows (Some c.whole.result) = search rules in
    let g : length c.in_ok-sums.sums.items ≡ c.in_ok-sums.sums.len = search rules in
    let h : length c.in_ok-sums.sums.items ≡ c.args.p.now.rows = search rules in
    subst (λ sums. AreSums sums c.args.p.now.rows (left_fold (whole_problem c.args.p.now) c.args.unknowns c.args.unknown.now c.args.lambda.now))
    (sym (written_back c.add_values.new.sums c.in_ok-sums.sums.items c.in_ok-sums.sums.len (c.add_values.ensures.one_each ∙ sym h ∙ g) g))
    (sums_left c.args.p.now c.args.unknowns c.args.unknown.now c.args.lambda.now _ c.add_values.new.sums c.whole.result c.requires.unknown c.requires.lambda c.requires.unknown_range c.requires.lambda_range
    (c.deref_mut.ensures.value ∙ f) c.whole.ensures c.add_values.ensures)
