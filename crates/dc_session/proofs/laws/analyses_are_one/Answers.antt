use Rattle.dc_session.proofs.Analyses.{has_analysis, one_analysis, asks_one, are_of_greatest}
use Rattle.dc_session.proofs.laws.analyses_are_one.Goals as goal

pub returns : goal.returns
returns c = record { some = has_analysis; one = one_analysis; asked = asks_one; greatest = are_of_greatest }
