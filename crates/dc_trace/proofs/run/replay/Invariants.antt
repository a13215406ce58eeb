use Rattle.std.proofs.Common.{◌≤◌, ◌-◌}
use Rattle.dc_trace.specs.Replay.{start, is_small, Leads}
use Rattle.dc_trace.specs.Tails.{seen}
use Rattle.dc_trace.proofs.run.replay.Given as goal

abbrev pub invariant-turns : goal.invariant-turns
invariant-turns l = record { leads : Leads is_small l.turn (start l.p l.t.input l.t.choices) (seen l.walk); within : l.turn ≤ l.turns }

abbrev pub decreases-turns : goal.decreases-turns
decreases-turns l = l.turns - l.turn
