use Rattle.std.proofs.Common.{◌≡◌, ◌++◌, drop, map}
use Rattle.dc_lines.specs.Bytes.{ended}
use Rattle.dc_certtext.specs.Text.{atom_line}
use Rattle.dc_certtext.proofs.write.location.Given as goal

-- what is written, with what is still to come, is the whole
abbrev pub invariant-loop-a : goal.invariant-loop-a
invariant-loop-a l = l.out.items ++ ended (map atom_line (drop l.a-index l.a-items)) ≡ l.initial.out.items ++ ended (map atom_line l.a-items)
