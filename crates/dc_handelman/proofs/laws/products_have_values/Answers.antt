use Rattle.dc_handelman.proofs.Values.{have_values, stay_above_zero}
use Rattle.dc_handelman.proofs.Reordered.{hold_together}
use Rattle.dc_handelman.proofs.laws.products_have_values.Goals as goal

pub returns : goal.returns
returns c = record { values = have_values; nonnegative = stay_above_zero; together = hold_together }
