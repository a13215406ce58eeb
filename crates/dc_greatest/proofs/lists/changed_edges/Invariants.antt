use Rattle.std.specs.Prelude.{◌≡◌, length}
use Rattle.dc_greatest.proofs.Sames.{FirstChanged}
use Rattle.dc_greatest.proofs.lists.changed_edges.Given as goal

abbrev pub invariant-loop-k : goal.invariant-loop-k
invariant-loop-k l = (l.work.edges ≡ length l.s.edges) × FirstChanged l.s.edges l.old l.new l.k l.work.numbers
