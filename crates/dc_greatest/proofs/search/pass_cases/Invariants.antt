use Rattle.dc_greatest.specs.Lent.{family, AreCasesTaken}
use Rattle.dc_greatest.proofs.search.pass_cases.Given as goal

abbrev pub invariant-loop-k : goal.invariant-loop-k
invariant-loop-k g l = AreCasesTaken l.t (family l.t l.at) l.k l.next.items
