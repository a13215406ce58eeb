use Rattle.dc_claims.proofs.Costs as lemmas
use Rattle.dc_claims.proofs.Raised.{higher_are_certified}
use Rattle.dc_claims.proofs.laws.outcomes_are_claims.Goals as goal

pub returns-clause-costs : goal.returns-clause-costs
returns-clause-costs c = lemmas.certified_are_costs

pub returns-clause-higher : goal.returns-clause-higher
returns-clause-higher c = higher_are_certified

pub returns-clause-claims : goal.returns-clause-claims
returns-clause-claims c = lemmas.outcomes_are_claims
