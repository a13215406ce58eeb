use Rattle.dc_invariant.proofs.Keepings.{AreCasesFirst}
use Rattle.dc_invariant.proofs.keeping.entry_keeps.Given as goal

abbrev pub invariant-loop-number : goal.invariant-loop-number
invariant-loop-number g l = AreCasesFirst l.t l.number l.keeps
