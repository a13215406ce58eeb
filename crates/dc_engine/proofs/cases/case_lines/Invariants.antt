use Rattle.dc_engine.proofs.Lines.{AreFirstLines}
use Rattle.dc_engine.proofs.cases.case_lines.Given as goal

abbrev pub invariant-loop-number : goal.invariant-loop-number
invariant-loop-number g l = AreFirstLines l.t.new.now.params l.t.settings.now.pivots l.t.cases.now l.number l.lines
