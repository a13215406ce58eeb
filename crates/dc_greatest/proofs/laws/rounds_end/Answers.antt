use Rattle.dc_greatest.proofs.Ends.{one_session, rounds_reach_greatest}
use Rattle.dc_greatest.proofs.Ends as lemmas
use Rattle.dc_greatest.proofs.laws.rounds_end.Goals as goal

pub returns : goal.returns
returns c = record { one = one_session; greatest = rounds_reach_greatest; end = lemmas.rounds_end }
