use Rattle.dc_coefficients.proofs.Rows.{entries_have_numbers}
use Rattle.dc_coefficients.proofs.laws.entries_have_their_numbers.Goals as goal

pub returns : goal.returns
returns c = entries_have_numbers
