use Rattle.std.proofs.Common.{◌≡◌, true, refl}
use Rattle.dc_syntax.proofs.Loops.{While-keeps, WhileAny-keeps}
use Rattle.dc_syntax.proofs.laws.loops_keep_invariants.Goals as goal

pub returns-clause-tested : goal.returns-clause-tested
returns-clause-tested c p b A step s x t r h = While-keeps (λ y m. p y m ≡ true) b A step r h

pub returns-clause-chosen : goal.returns-clause-chosen
returns-clause-chosen c p A step s x t r h = WhileAny-keeps (λ y m. p y m ≡ true) A (λ y m d n _ k q. step y m d n refl k q) r h
