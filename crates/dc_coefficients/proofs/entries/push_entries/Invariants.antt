use Rattle.dc_coefficients.proofs.Walks.{IsWalked}
use Rattle.dc_coefficients.proofs.entries.push_entries.Given as goal

abbrev pub invariant-loop-i : goal.invariant-loop-i
invariant-loop-i l = IsWalked l.form.terms l.monos l.row l.i l.next l.initial.column.items l.column.items
