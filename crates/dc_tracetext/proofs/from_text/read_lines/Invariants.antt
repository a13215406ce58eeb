use Rattle.std.proofs.Common.{length}
use Rattle.dc_tracetext.proofs.Machine.{Reached}
use Rattle.dc_tracetext.proofs.from_text.read_lines.Given as goal

abbrev pub invariant-lines : goal.invariant-lines
invariant-lines l = Reached l.text l.rest l.stage l.line

abbrev pub decreases-lines : goal.decreases-lines
decreases-lines l = length l.rest
