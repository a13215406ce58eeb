use Rattle.dc_greatest.specs.Lent.{graph, family}
use Rattle.dc_greatest.proofs.RoundParts.{parts_are_round, edges_fault}
use Rattle.dc_greatest.proofs.search.round.Goals as goal

pub returns-in-Ok-pass_edges-clause-answer : goal.returns-in-Ok-pass_edges-clause-answer
returns-in-Ok-pass_edges-clause-answer g c =
    let t = c.args.t.now in
    parts_are_round t.side (graph t) t.cases.now t.live.now t.candidates.now t.budget (family t c.args.at.now)
    c.in-Ok.next.items c.pass_edges.new.next.items c.in-Ok.ensures.answer c.in-Ok-pass_edges.ensures.answer

pub returns-in-Err-pass_edges-clause-fault : goal.returns-in-Err-pass_edges-clause-fault
returns-in-Err-pass_edges-clause-fault g c =
    let t = c.args.t.now in
    edges_fault t.side (graph t) t.cases.now t.live.now t.candidates.now t.budget (family t c.args.at.now)
    c.in-Ok.next.items c.in-Ok.ensures.answer c.in-Err-pass_edges.fault c.in-Err-pass_edges.ensures.fault
