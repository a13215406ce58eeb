use Rattle.std.proofs.Common.{◌≡◌, ◌++◌, drop, take}
use Rattle.dc_lines.specs.Cuts.{onward, until}
use Rattle.dc_lines.proofs.pieces.cut.Given as goal

abbrev pub invariant-loop-k : goal.invariant-loop-k
invariant-loop-k l = record { front : take l.k l.text ++ until l.at (drop l.k l.text) ≡ until l.at l.text; rest : onward l.at (drop l.k l.text) ≡ onward l.at l.text }
