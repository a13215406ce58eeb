use Rattle.dc_points.proofs.Farkas.{dead_are_shown, live_are_named, met_are_shown, lists_dead_or_met}
use Rattle.dc_points.proofs.laws.lists_are_dead_or_met.Goals as goal

pub returns : goal.returns
returns c = record { dead = dead_are_shown; named = live_are_named; met = met_are_shown; either = lists_dead_or_met }
