use Rattle.std.proofs.Common.{◌≡◌, ◌++◌, drop}
use Rattle.dc_lines.specs.Bytes.{ended}
use Rattle.dc_certtext.specs.Text.{groups, entry_lines}
use Rattle.dc_certtext.proofs.write.entries.Given as goal

-- what is written, with what is still to come, is the whole
abbrev pub invariant-loop-n : goal.invariant-loop-n
invariant-loop-n l = l.out.items ++ ended (groups (entry_lines l.version) l.n (drop l.n l.list)) ≡ l.initial.out.items ++ ended (groups (entry_lines l.version) 0 l.list)
