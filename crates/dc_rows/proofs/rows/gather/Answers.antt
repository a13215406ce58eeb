use Rattle.std.proofs.Common.{◌∙◌, ap}
use Rattle.dc_rows.specs.Rows.{with_rows, pair_rows, guard_atoms}
use Rattle.dc_rows.proofs.Steps.{unchosen_parts}
use Rattle.dc_rows.proofs.Gathered.{paired, unpaired, gathered}
use Rattle.dc_rows.proofs.rows.gather.Goals as goal
use Rattle.dc_rows.proofs.rows.gather.Goals.{then-pairs+in_ok-add_pairs, else-pairs}

pub returns : goal.returns
returns c =
    gathered c.args.s.now c.args.when.now c.args.pairs c.new-rows.result c.add_singles.new.rows c.if-pairs.rows c.add_condition.new.rows c.add_guards.new.rows c.new-rows.ensures c.in_ok-add_singles.ensures
    (elim c.if-pairs.branch [
      | then-pairs+in_ok-add_pairs w ↦ paired c.args.pairs c.add_singles.new.rows c.if-pairs.rows (pair_rows c.args.s.now.vars) w.if-pairs.true (w.rows-is ∙ w.in_ok-add_pairs.ensures)
      | else-pairs w ↦ unpaired c.args.pairs c.add_singles.new.rows c.if-pairs.rows (pair_rows c.args.s.now.vars) w.if-pairs.false w.rows-is
    ])
    c.in_ok-add_condition.ensures
    (c.in_ok-add_guards.ensures ∙ ap (λ es. with_rows c.add_condition.new.rows (unchosen_parts c.args.s.now.vars (guard_atoms es))) c.as_slice.ensures)
