use Rattle.dc_poly.proofs.MonomialSums.{by_monomials}
use Rattle.dc_poly.proofs.laws.values_by_monomials.Goals as goal

pub returns : goal.returns
returns c p ms xs o h = by_monomials p ms xs o h
