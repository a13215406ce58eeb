use Rattle.std.proofs.Common.{◌≡◌, drop}
use Rattle.dc_system.specs.Literals.{with_numbers, numbers_of}
use Rattle.dc_system.proofs.literals.+literals.Given as goal

abbrev pub invariant-of_body-loop-statement : goal.invariant-of_body-loop-statement
invariant-of_body-loop-statement l = with_numbers l.literals.items (numbers_of (drop l.statement-index l.body)) ≡ with_numbers l.initial.literals.items (numbers_of l.body)
