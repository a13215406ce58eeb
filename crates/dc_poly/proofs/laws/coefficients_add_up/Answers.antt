use Rattle.dc_poly.proofs.Values.{coef-plus}
use Rattle.dc_poly.proofs.laws.coefficients_add_up.Goals as goal

pub returns : goal.returns
returns c p q m = coef-plus p q m
