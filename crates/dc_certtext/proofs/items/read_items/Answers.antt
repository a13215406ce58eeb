use Rattle.dc_certtext.proofs.Taken.{taken_refuse, taken_low, taken_step, taken_end}
use Rattle.dc_lines.proofs.Cutting.{empty_is, some_is}
use Rattle.dc_certtext.proofs.items.read_items.Goals as goal

pub returns-in_default : goal.returns-in_default
returns-in_default c = taken_refuse c.args.text.now c.items.items c.items.rest.now c.items.low (some_is c.items.rest.now c.items-test.ensures) c.in_default.ensures c.items.invariant

pub returns-then-next-low : goal.returns-then-next-low
returns-then-next-low c =
    taken_low c.args.text.now c.items.items c.items.rest.now c.items.low c.in-Some.next c.in-Some.more.now c.in-Some.ensures.0 c.in-Some.ensures.1 c.in-Some.ensures.2 c.if-next-low.true c.items.invariant

pub items-preserved : goal.items-preserved
items-preserved c =
    taken_step c.args.text.now c.items.rest.now c.items.items c.push.new.self c.items.low c.in-Some.next c.in-Some.more.now c.in-Some.ensures.0 c.in-Some.ensures.1 c.in-Some.ensures.2 c.if-next-low.false c.in_ok-push.ensures.ok c.items.invariant

pub returns : goal.returns
returns c = taken_end c.args.text.now c.items.items c.items.rest.now c.items.low (empty_is c.items.rest.now c.items-test.ensures) c.items.invariant
