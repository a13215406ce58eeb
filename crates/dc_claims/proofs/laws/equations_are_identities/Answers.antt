use Rattle.dc_claims.proofs.Identities as lemmas
use Rattle.dc_claims.proofs.laws.equations_are_identities.Goals as goal

pub returns : goal.returns
returns c = lemmas.equations_are_identities
