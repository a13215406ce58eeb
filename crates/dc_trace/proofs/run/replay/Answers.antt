use Rattle.std.proofs.Common.{◌∙◌, rules, SFits, sym, ap, length, arith}
use Rattle.std.specs.Int.{w128}
use Rattle.std.proofs.lemmas.Int.{to_z-of_z}
use Rattle.dc_trace.specs.Replay.{is_small, start}
use Rattle.dc_trace.specs.Tails.{seen}
use Rattle.dc_trace.proofs.Turns.{leads_fewer}
use Rattle.dc_trace.proofs.Paid.{paid_is_cost}
use Rattle.dc_trace.proofs.States.{no_length}
use Rattle.dc_trace.proofs.run.replay.Goals as goal

pub overflow_sub-used : goal.overflow_sub-used
overflow_sub-used c =
    let h = leads_fewer is_small c.turns.turn (start c.args.p.now c.args.t.now.input c.args.t.now.choices) (seen c.turns.walk) c.turns.invariant.leads in
    let e = ap length c.in_default.ensures.choices in
    omega (arith, c.len.ensures)

pub returns-then-left-gt0-clause-fault : goal.returns-then-left-gt0-clause-fault
returns-then-left-gt0-clause-fault c =
    let h = leads_fewer is_small c.turns.turn (start c.args.p.now c.args.t.now.input c.args.t.now.choices) (seen c.turns.walk) c.turns.invariant.leads in
    let e = ap length c.in_default.ensures.choices in (
      seen c.turns.walk,
      record { count = c.turns.turn; within = c.turns.invariant.within; leads = c.turns.invariant.leads; done = c.in_default.ensures.tail },
      (λ q. let k = ap length q in let g = c.if-left-gt0.true in omega arith),
      omega (arith, c.len.ensures),
    )

pub returns-clause-paid : goal.returns-clause-paid
returns-clause-paid c =
    let a : SFits w128 c.cost.result = search rules in (
      seen c.turns.walk,
      record { count = c.turns.turn; within = c.turns.invariant.within; leads = c.turns.invariant.leads; done = c.in_default.ensures.tail },
      sym c.in_default.ensures.choices ∙ no_length c.next.new.self.choices.now c.if-left-gt0.false,
      sym c.in_default.ensures.cost ∙ sym c.cost.ensures ∙ sym (to_z-of_z w128 c.cost.result a),
    )

pub returns-clause-cost : goal.returns-clause-cost
returns-clause-cost c = paid_is_cost is_small c.args.turns c.args.p.now c.args.t.now.input c.args.t.now.choices _ c.requires.input (returns-clause-paid c)
