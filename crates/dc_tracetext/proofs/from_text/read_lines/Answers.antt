use Rattle.std.proofs.Common.{subst, arith}
use Rattle.dc_tracetext.specs.Stages.{Step, Steps}
use Rattle.dc_lines.proofs.Readers.{reached_few, reached_wrong, reached_end}
use Rattle.dc_tracetext.specs.declared.stage.Stage.TheVariants.{Start}
use Rattle.dc_tracetext.proofs.Machine.{traces}
use Rattle.dc_tracetext.proofs.from_text.read_lines.Goals as goal

pub returns-in_default-2 : goal.returns-in_default-2
returns-in_default-2 c =
    reached_wrong traces c.args.text.now c.lines.rest.now c.in-Some.front.now c.in-Some.behind.now c.lines.stage c.lines.line c.in-Some.ensures.0 c.in-Some.ensures.1
    (subst (Steps c.lines.stage c.in-Some.front.now) c.in_default-2.is c.in_ok-next.ensures) c.lines.invariant

pub overflow_add-line : goal.overflow_add-line
overflow_add-line c = (let x = reached_few Start Step c.args.text.now c.lines.rest.now c.lines.stage c.lines.line c.lines.invariant in let y = c.requires in omega arith)

pub returns : goal.returns
returns c = reached_end traces c.args.text.now c.lines.rest.now c.lines.stage c.lines.line c.finish.result c.in_default.ensures c.finish.ensures c.lines.invariant
