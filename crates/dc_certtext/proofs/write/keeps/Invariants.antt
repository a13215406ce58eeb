use Rattle.std.proofs.Common.{◌≡◌, ◌++◌, drop}
use Rattle.dc_lines.specs.Bytes.{ended}
use Rattle.dc_certtext.specs.Text.{keep_lines}
use Rattle.dc_certtext.proofs.write.keeps.Given as goal

-- what is written, with what is still to come, is the whole
abbrev pub invariant-loop-s : goal.invariant-loop-s
invariant-loop-s l = l.out.items ++ ended (keep_lines (drop l.s-index l.list)) ≡ l.initial.out.items ++ ended (keep_lines l.list)
