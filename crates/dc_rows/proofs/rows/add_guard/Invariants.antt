use Rattle.std.proofs.Common.{◌≡◌, drop}
use Rattle.dc_rows.specs.Rows.{with_rows}
use Rattle.dc_rows.proofs.Steps.{unchosen_parts}
use Rattle.dc_rows.proofs.rows.add_guard.Given as goal

abbrev pub invariant-loop-atom : goal.invariant-loop-atom
invariant-loop-atom l = with_rows l.rows (unchosen_parts l.vars (drop l.atom-index l.guard)) ≡ with_rows l.initial.rows (unchosen_parts l.vars l.guard)
