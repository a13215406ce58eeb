use Rattle.std.proofs.Common.{◌≡◌, ◌++◌, drop, map}
use Rattle.std.specs.Prelude.{codes}
use Rattle.dc_lines.specs.Bytes.{ended}
use Rattle.dc_certtext.specs.Text.{shown_line}
use Rattle.dc_certtext.proofs.write.whens.Given as goal

-- what is written, with what is still to come, is the whole
abbrev pub invariant-loop-l : goal.invariant-loop-l
invariant-loop-l l = l.out.items ++ ended (map (shown_line (codes "when")) (drop l.l-index l.l-items)) ≡ l.initial.out.items ++ ended (map (shown_line (codes "when")) l.l-items)
