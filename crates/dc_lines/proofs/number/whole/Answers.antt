use Rattle.dc_lines.proofs.Numerals.{refuse_minus_zero}
use Rattle.dc_lines.proofs.number.whole.Goals as goal

pub returns-then-size-eq0 : goal.returns-then-size-eq0
returns-then-size-eq0 c =
    refuse_minus_zero c.args.word.now c.in-Some.rest.now c.in_ok-size-in-Some.size c.in-Some.ensures c.if-size-eq0.true c.in_ok-size-in-Some.ensures.1
