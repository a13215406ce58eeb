use Rattle.dc_template.proofs.Listed.{are_fixed, are_monomials}
use Rattle.dc_template.proofs.laws.the_monomials_are_fixed.Goals as goal

pub returns : goal.returns
returns c = record { fixed = are_fixed; list = are_monomials }
