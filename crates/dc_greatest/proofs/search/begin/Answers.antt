use Rattle.std.proofs.Common.{sym, subst}
use Rattle.dc_greatest.specs.Lent.{graph, family, AreEntriesTaken}
use Rattle.dc_greatest.proofs.RoundParts.{entries_skipped, entries_fault}
use Rattle.dc_greatest.proofs.search.begin.Goals as goal

pub returns-then-not-fresh-clause-answer : goal.returns-then-not-fresh-clause-answer
returns-then-not-fresh-clause-answer g c =
    let t = c.args.t.now in
    let e = sym c.in_ok-next.ensures in
    subst (λ fs. AreEntriesTaken t (family t c.args.at.now) fs) e
    (entries_skipped t.side (graph t) t.cases.now t.live.now t.candidates.now t.budget c.args.at.now c.requires.shape (c.requires.entry c.if-not-fresh.true))

pub returns-in-Err-clause-fault : goal.returns-in-Err-clause-fault
returns-in-Err-clause-fault g c =
    let t = c.args.t.now in
    entries_fault t.side (graph t) t.cases.now t.live.now t.candidates.now t.budget (family t c.args.at.now) c.in-Err.fault c.in-Err.ensures.fault
