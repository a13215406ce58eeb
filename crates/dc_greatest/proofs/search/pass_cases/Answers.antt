-- Case after case.
use Rattle.std.specs.Prelude.{◌<◌, set}
use Rattle.std.proofs.Common.{sym, ap, subst, arith, add-one}
use Rattle.dc_greatest.specs.Kept.{IsShaped, stands_for}
use Rattle.dc_greatest.specs.Lent.{graph, family, AreCasesTaken}
use Rattle.dc_greatest.proofs.CasesSoFar.{cases_start, cases_more, cases_fault, cases_end}
use Rattle.dc_greatest.proofs.EdgesSoFar.{slot}
use Rattle.dc_greatest.proofs.Fewer.{no_more}
use Rattle.dc_greatest.proofs.search.pass_cases.Goals as goal

pub loop-k-init : goal.loop-k-init
loop-k-init g c =
    let t = c.args.t.now in
    let e = sym c.requires.copied in
    cases_start t.side (graph t) t.cases.now t.live.now t.candidates.now (family t c.args.at.now) t.budget c.requires.lent.flags c.args.next.now.items
    (subst (IsShaped t.system.now.locs t.candidates.now) e c.requires.shape) (ap (stands_for t.system.now.vars t.candidates.now) e)

pub pass_case-requires-clause-before : goal.pass_case-requires-clause-before
pass_case-requires-clause-before g c =
    let t = c.args.t.now in
    let i = c.loop-k.invariant in
    no_more t.system.now.vars t.system.now.locs t.candidates.now c.requires.lent.kind c.args.at.now c.loop-k.next.items c.requires.shape i.shape
    (λ l a x. ((i.round l a).0 x).0) 0 (let q = c.requires.lent.system.some_location in omega arith) c.index_mut.result.now c.index_mut.ensures.value

pub loop-k-preserved : goal.loop-k-preserved
loop-k-preserved g c =
    let t = c.args.t.now in
    let i = c.loop-k.invariant in
    let k = c.loop-k.k in
    let fs = c.loop-k.next.items in
    let new = c.pass_case.new.target in
    let inside : 0 < t.system.now.locs = (let q = c.requires.lent.system.some_location in omega arith) in
    subst (λ m. AreCasesTaken t (family t c.args.at.now) m (set fs 0 new)) (sym (add-one k))
    (cases_more t.side (graph t) t.cases.now t.live.now t.candidates.now (family t c.args.at.now) t.budget c.requires.lent.flags k c.loop-k-test.true fs c.index_mut.result.now new i inside
    (slot t.system.now.locs t.candidates.now fs 0 c.index_mut.result.now i.shape inside c.index_mut.ensures.value) c.in-Ok.ensures.taken c.in-Ok.ensures.done)

pub returns-in-Err-clause-fault : goal.returns-in-Err-clause-fault
returns-in-Err-clause-fault g c =
    let t = c.args.t.now in
    cases_fault t.side (graph t) t.cases.now t.live.now t.candidates.now (family t c.args.at.now) t.budget c.requires.lent.flags c.loop-k.k c.loop-k-test.true c.loop-k.next.items c.loop-k.invariant c.in-Err.fault c.in-Err.ensures.fault

pub returns-clause-answer : goal.returns-clause-answer
returns-clause-answer g c =
    let t = c.args.t.now in
    cases_end t.side (graph t) t.cases.now t.live.now t.candidates.now (family t c.args.at.now) t.budget c.requires.lent.flags c.loop-k.k c.loop-k.next.items c.loop-k-test.false c.loop-k.invariant
