use Rattle.dc_families.proofs.Greatest.{one_greatest}
use Rattle.dc_families.proofs.False.{dead_have_false, greatest_is_honest}
use Rattle.dc_families.proofs.Fixed.{has_greatest}
use Rattle.dc_families.proofs.laws.greatest_is_one.Goals as goal

pub returns : goal.returns
returns c = record { some = has_greatest; one = one_greatest; dead = dead_have_false; honest = greatest_is_honest }
