use Rattle.std.specs.Prelude.{◌≡◌, length}
use Rattle.dc_families.specs.Graphs.{graph_of}
use Rattle.dc_greatest.proofs.Searching.{IsSearching, size}
use Rattle.dc_greatest.proofs.search.rounds.Given as goal

abbrev pub invariant-loop-next : goal.invariant-loop-next
invariant-loop-next g l =
    (l.work.edges ≡ length l.t.system.now.edges)
    × IsSearching l.t.side (graph_of l.t.system.now) l.t.cases.now l.t.live.now l.t.candidates.now l.t.budget l.at.items l.fresh l.work.numbers

abbrev pub decreases-loop-next : goal.decreases-loop-next
decreases-loop-next g l = size l.t.side (graph_of l.t.system.now) l.t.cases.now l.t.live.now l.t.candidates.now l.t.budget l.at.items
