-- Round after round.
use Rattle.std.specs.Prelude.{◌≡◌, length}
use Rattle.std.proofs.Common.{sym, subst, ◌∙◌, ap}
use Rattle.std.proofs.lemmas.Bool.{false≢true}
use Rattle.dc_families.specs.Families.{everything}
use Rattle.dc_greatest.specs.Lent.{graph}
use Rattle.dc_greatest.specs.Kept.{IsShaped, stands_for}
use Rattle.dc_greatest.proofs.Wholes.{whole_shape, whole_is_everything}
use Rattle.dc_greatest.proofs.Searching.{searching_start, searching_next, searching_end, searching_fault, search_lighter}
use Rattle.dc_greatest.proofs.search.rounds.Goals as goal

pub loop-next-init : goal.loop-next-init
loop-next-init g c =
    let t = c.args.t.now in
    let k = t.candidates.now in
    let e = sym c.in_ok-at.ensures in (
      c.in_ok-work.ensures.edges ∙ c.len.ensures,
      searching_start t.side (graph t) t.cases.now t.live.now t.candidates.now t.budget c.in_ok-at.at.items c.in_ok-work.work.numbers
          (subst (IsShaped t.system.now.locs k) e (whole_shape (graph t) k))
          (subst (λ fs. stands_for t.system.now.vars k fs ≡ everything (graph t) k) e (whole_is_everything (graph t) k c.requires.lent.kind))
          (rw c.len.ensures at c.in_ok-work.ensures.all),
    )

pub round-requires-clause-shape : goal.round-requires-clause-shape
round-requires-clause-shape g c = let d = c.deref.ensures.value in rw d c.loop-next.invariant.1.shape

pub round-requires-clause-entry : goal.round-requires-clause-entry
round-requires-clause-entry g c = let d = c.deref.ensures.value in rw d c.loop-next.invariant.1.entry

pub round-requires-clause-settled : goal.round-requires-clause-settled
round-requires-clause-settled g c = let d = c.deref.ensures.value in rw d c.loop-next.invariant.1.settled

pub returns-in-Err-clause-fault : goal.returns-in-Err-clause-fault
returns-in-Err-clause-fault g c =
    let t = c.args.t.now in
    let d = c.deref.ensures.value in
    let f = rw d at c.in-Err.ensures.fault in
    searching_fault t.side (graph t) t.cases.now t.live.now t.candidates.now t.budget c.loop-next.at.items c.loop-next.fresh c.loop-next.work.numbers c.loop-next.invariant.1 c.in-Err.fault f

pub are_same-requires : goal.are_same-requires
are_same-requires g c =
    let d = c.deref.ensures.value in
    let x = c.deref-in-loop-next.ensures.value in
    let y = c.deref-in-loop-next-2.ensures.value in
    ap length x ∙ c.in-Ok.ensures.answer.shape.one_each ∙ sym c.loop-next.invariant.1.shape.one_each ∙ sym (ap length y)

pub returns-then-are_same-clause-answer : goal.returns-then-are_same-clause-answer
returns-then-are_same-clause-answer g c =
    let t = c.args.t.now in
    let d = c.deref.ensures.value in
    let x = c.deref-in-loop-next.ensures.value in
    let y = c.deref-in-loop-next-2.ensures.value in
    let r = rw d at c.in-Ok.ensures.answer in
    let e : c.in-Ok.next.items ≡ c.loop-next.at.items = sym x ∙ c.are_same.ensures.0 c.if-are_same.true ∙ y in
    let q = searching_end t.side (graph t) t.cases.now t.live.now t.candidates.now t.budget c.requires.lent.kind c.loop-next.at.items c.in-Ok.next.items c.loop-next.fresh c.loop-next.work.numbers c.loop-next.invariant.1 r e in
    record { shape = c.loop-next.invariant.1.shape; greatest = q.0; through = q.1 }

pub changed_edges-requires : goal.changed_edges-requires
changed_edges-requires g c =
    let u = c.deref-in-loop-next-3.ensures.value in
    let v = c.deref-in-loop-next-4.ensures.value in
    record {
      system = c.requires.lent.system;
      old = ap length u ∙ c.loop-next.invariant.1.shape.one_each;
      new = ap length v ∙ c.in-Ok.ensures.answer.shape.one_each;
    }

pub loop-next-smaller : goal.loop-next-smaller
loop-next-smaller g c =
    let t = c.args.t.now in
    let d = c.deref.ensures.value in
    let x = c.deref-in-loop-next.ensures.value in
    let y = c.deref-in-loop-next-2.ensures.value in
    let r = rw d at c.in-Ok.ensures.answer in
    search_lighter t.side (graph t) t.cases.now t.live.now t.candidates.now t.budget c.requires.lent.kind
    c.loop-next.at.items c.in-Ok.next.items c.loop-next.fresh c.loop-next.work.numbers c.loop-next.invariant.1 r
    (λ e. false≢true (sym c.if-are_same.false ∙ c.are_same.ensures.1 (x ∙ e ∙ sym y)))

pub loop-next-preserved : goal.loop-next-preserved
loop-next-preserved g c =
    let t = c.args.t.now in
    let d = c.deref.ensures.value in
    let x = c.deref-in-loop-next.ensures.value in
    let y = c.deref-in-loop-next-2.ensures.value in
    let u = c.deref-in-loop-next-3.ensures.value in
    let v = c.deref-in-loop-next-4.ensures.value in
    let r = rw d at c.in-Ok.ensures.answer in
    let w = rw (u, v) at c.in_ok-work-2.ensures.changed in (
      c.in_ok-work-2.ensures.edges,
      searching_next t.side (graph t) t.cases.now t.live.now t.candidates.now t.budget c.requires.lent.kind
          c.loop-next.at.items c.in-Ok.next.items c.loop-next.fresh c.loop-next.work.numbers c.loop-next.invariant.1 r
          (λ e. false≢true (sym c.if-are_same.false ∙ c.are_same.ensures.1 (x ∙ e ∙ sym y))) c.in_ok-work-2.work.numbers w,
    )
