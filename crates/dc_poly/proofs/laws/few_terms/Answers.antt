use Rattle.dc_poly.proofs.FewTerms.{few_terms}
use Rattle.dc_poly.proofs.laws.few_terms.Goals as goal

pub returns : goal.returns
returns c p h d = few_terms p.places p.terms h.few h.in_order h.padded d
