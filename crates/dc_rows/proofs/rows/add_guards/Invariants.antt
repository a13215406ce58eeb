use Rattle.std.proofs.Common.{◌≡◌, drop}
use Rattle.dc_rows.specs.Rows.{guard_atoms, with_rows}
use Rattle.dc_rows.proofs.Steps.{unchosen_parts}
use Rattle.dc_rows.proofs.rows.add_guards.Given as goal

abbrev pub invariant-loop-edge : goal.invariant-loop-edge
invariant-loop-edge l = with_rows l.rows (unchosen_parts l.vars (guard_atoms (drop l.edge-index l.edges))) ≡ with_rows l.initial.rows (unchosen_parts l.vars (guard_atoms l.edges))
