use Rattle.dc_poly.proofs.Combinations.{vanishing, value_by_coefficients}
use Rattle.dc_poly.proofs.laws.vanishing_combinations.Goals as goal

pub returns-clause-values : goal.returns-clause-values
returns-clause-values c n cs h v m = vanishing n cs h v m

pub returns-clause-coefficients : goal.returns-clause-coefficients
returns-clause-coefficients c cs h xs = value_by_coefficients cs h xs
