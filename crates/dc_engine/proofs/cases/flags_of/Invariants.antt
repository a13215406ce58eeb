use Rattle.std.proofs.Common.{◌≡◌, map, take}
use Rattle.dc_cert.specs.Ranges.{is_live}
use Rattle.dc_engine.proofs.cases.flags_of.Given as goal

abbrev pub invariant-loop-line : goal.invariant-loop-line
invariant-loop-line l = l.live.items ≡ map is_live (take l.line-index l.lines)
