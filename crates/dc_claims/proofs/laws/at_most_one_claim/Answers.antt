use Rattle.dc_claims.proofs.Claims as lemmas
use Rattle.dc_claims.proofs.laws.at_most_one_claim.Goals as goal

pub returns : goal.returns
returns c = lemmas.at_most_one
