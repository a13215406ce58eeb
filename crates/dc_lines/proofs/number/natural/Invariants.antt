use Rattle.dc_lines.proofs.Numerals.{IsRead}
use Rattle.dc_lines.proofs.number.natural.Given as goal

abbrev pub invariant-loop-k : goal.invariant-loop-k
invariant-loop-k l = IsRead l.word l.k l.n
