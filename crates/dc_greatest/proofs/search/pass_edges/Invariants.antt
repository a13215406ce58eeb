use Rattle.dc_greatest.specs.Lent.{family, AreFirstTaken}
use Rattle.dc_greatest.proofs.search.pass_edges.Given as goal

abbrev pub invariant-loop-k : goal.invariant-loop-k
invariant-loop-k g l = AreFirstTaken l.t (family l.t l.at) l.k l.next.items
