use Rattle.dc_families.proofs.Reached.{reached_meet, candidates_over}
use Rattle.dc_families.proofs.laws.reached_states_meet.Goals as goal

pub returns : goal.returns
returns c = record { reached = reached_meet; over = candidates_over }
