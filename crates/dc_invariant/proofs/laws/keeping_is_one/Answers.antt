use Rattle.dc_invariant.proofs.Sessions.{has_keeping, one_keeping, one_side}
use Rattle.dc_invariant.proofs.laws.keeping_is_one.Goals as goal

pub returns-clause-some : goal.returns-clause-some
returns-clause-some c = has_keeping

pub returns-clause-one : goal.returns-clause-one
returns-clause-one c = one_keeping

pub returns-clause-side : goal.returns-clause-side
returns-clause-side c = one_side
