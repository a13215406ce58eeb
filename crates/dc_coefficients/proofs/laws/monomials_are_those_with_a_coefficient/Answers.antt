use Rattle.dc_coefficients.proofs.MonoLaws.{monos_are_those}
use Rattle.dc_coefficients.proofs.laws.monomials_are_those_with_a_coefficient.Goals as goal

pub returns : goal.returns
returns c = monos_are_those
