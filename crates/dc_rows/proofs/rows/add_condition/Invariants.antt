use Rattle.std.proofs.Common.{◌≡◌, drop}
use Rattle.dc_rows.specs.Rows.{linear_parts, with_rows}
use Rattle.dc_rows.proofs.rows.add_condition.Given as goal

abbrev pub invariant-loop-atom : goal.invariant-loop-atom
invariant-loop-atom l = with_rows l.rows (linear_parts l.vars (drop l.atom-index l.when)) ≡ with_rows l.initial.rows (linear_parts l.vars l.when)
