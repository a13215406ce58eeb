use Rattle.dc_invariant.proofs.Keepings.{EntryKeepsFirst}
use Rattle.dc_invariant.proofs.keeping.case_keeps.Given as goal

abbrev pub invariant-loop-number : goal.invariant-loop-number
invariant-loop-number g l = EntryKeepsFirst l.t l.case_number l.case l.atoms l.number l.keeps
