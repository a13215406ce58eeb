use Rattle.dc_plain.proofs.Least.{plain_have_difference}
use Rattle.dc_plain.proofs.laws.plain_programs_have_a_difference.Goals as goal

pub returns : goal.returns
returns c = plain_have_difference
