use Rattle.std.proofs.Common.{◌≡◌, sym, subst, ◌∙◌}
use Rattle.std.specs.Prelude.{slice_index_or}
use Rattle.dc_greatest.specs.Lent.{graph, family}
use Rattle.dc_greatest.proofs.EdgesSoFar.{so_far_skip, so_far_take, so_far_fault, edge_at, edge_among, edge_inside, slot}
use Rattle.dc_greatest.proofs.Fewer.{no_more}
use Rattle.dc_greatest.proofs.search.pass_one.Goals as goal

pub returns-then-not-holds-clause-answer : goal.returns-then-not-holds-clause-answer
returns-then-not-holds-clause-answer g c =
    let t = c.args.t.now in
    let x = edge_at t.system.now.edges c.args.k c.requires.number in
    so_far_skip t.side (graph t) t.cases.now t.live.now t.candidates.now (family t c.args.at.now) t.budget
    c.args.k x.0 c.args.next.now.items c.requires.before c.requires.number x.1 (c.requires.settled c.args.k x.0 c.requires.number x.1 (sym c.holds.ensures ∙ c.if-not-holds.true))

pub pass_edge-requires-clause-edge : goal.pass_edge-requires-clause-edge
pass_edge-requires-clause-edge g c =
    let t = c.args.t.now in
    let e = c.index-as_slice-k.result in
    let i : slice_index_or t.system.now.edges c.args.k e ≡ e = sym (subst (λ es. e ≡ slice_index_or es c.args.k e) c.as_slice.ensures c.index-as_slice-k.is) in
    edge_among t.system.now.edges c.args.k e c.requires.number i

pub pass_edge-requires-clause-before : goal.pass_edge-requires-clause-before
pass_edge-requires-clause-before g c =
    let t = c.args.t.now in
    let e = c.index-as_slice-k.result in
    let i : slice_index_or t.system.now.edges c.args.k e ≡ e = sym (subst (λ es. e ≡ slice_index_or es c.args.k e) c.as_slice.ensures c.index-as_slice-k.is) in
    let n = (edge_inside t.system.now c.args.k e c.requires.lent.system c.requires.number i).1 in
    no_more t.system.now.vars t.system.now.locs t.candidates.now c.requires.lent.kind c.args.at.now c.args.next.now.items c.requires.shape c.requires.before.shape
    (λ l a x. ((c.requires.before.round l a).0 x).0) e.to n c.index_mut.result.now c.index_mut.ensures.value

pub returns-in-Ok-clause-answer : goal.returns-in-Ok-clause-answer
returns-in-Ok-clause-answer g c =
    let t = c.args.t.now in
    let e = c.index-as_slice-k.result in
    let i : slice_index_or t.system.now.edges c.args.k e ≡ e = sym (subst (λ es. e ≡ slice_index_or es c.args.k e) c.as_slice.ensures c.index-as_slice-k.is) in
    let n = (edge_inside t.system.now c.args.k e c.requires.lent.system c.requires.number i).1 in
    so_far_take t.side (graph t) t.cases.now t.live.now t.candidates.now (family t c.args.at.now) t.budget
    c.args.k e c.args.next.now.items c.index_mut.result.now c.pass_edge.new.target c.requires.before c.requires.number i n
    (slot t.system.now.locs t.candidates.now c.args.next.now.items e.to c.index_mut.result.now c.requires.before.shape n c.index_mut.ensures.value) c.in-Ok.ensures.answer

pub returns-in-Err-clause-fault : goal.returns-in-Err-clause-fault
returns-in-Err-clause-fault g c =
    let t = c.args.t.now in
    let e = c.index-as_slice-k.result in
    let i : slice_index_or t.system.now.edges c.args.k e ≡ e = sym (subst (λ es. e ≡ slice_index_or es c.args.k e) c.as_slice.ensures c.index-as_slice-k.is) in
    so_far_fault t.side (graph t) t.cases.now t.live.now t.candidates.now (family t c.args.at.now) t.budget
    c.args.k e c.args.next.now.items c.requires.before c.requires.number i c.in-Err.fault c.in-Err.ensures.fault
