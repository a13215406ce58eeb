use Rattle.std.proofs.Common.{arith}
use Rattle.dc_tokens.proofs.Numbers.{passes}
use Rattle.dc_tokens.proofs.scan.number_value.Goals as goal

pub returns-then-value-gt-LARGEST : goal.returns-then-value-gt-LARGEST
returns-then-value-gt-LARGEST c = let h = c.loop-digit.invariant.same in
    let p = passes 2147483647 c.loop-digit.value c.args.digits.now c.loop-digit.digit-index (omega arith) (omega (arith, c.saturating_sub.ensures)) in
    omega (arith, h, p)
