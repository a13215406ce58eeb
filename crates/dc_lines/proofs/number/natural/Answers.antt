use Rattle.std.proofs.Common.{refl, arith}
use Rattle.dc_lines.proofs.Numerals.{read_digit}
use Rattle.dc_lines.proofs.number.natural.Goals as goal
use Rattle.dc_lines.proofs.number.natural.Goals.{else-k-gt0-via-then-k-gt0+else-n-eq0, else-k-gt0-via-else-k-gt0}

pub loop-k-preserved : goal.loop-k-preserved
loop-k-preserved c =
    read_digit c.args.word.now c.loop-k.k c.loop-k.n _ c.loop-k-test.true refl c.if-byte-lt48.false c.if-byte-gt57.false
    (λ h. elim c.else-k-gt0.branch [ else-k-gt0-via-then-k-gt0+else-n-eq0 w ↦ w.if-n-eq0.false h.1 | else-k-gt0-via-else-k-gt0 w ↦ (let k = w.if-k-gt0.false in let p = h.0 in omega arith) ])
    c.if-n-digit.false c.loop-k.invariant
