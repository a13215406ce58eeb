use Rattle.dc_handelman.proofs.Listed.{are_fixed, are_choices}
use Rattle.dc_handelman.proofs.laws.the_choices_are_fixed.Goals as goal

pub returns : goal.returns
returns c = record { fixed = are_fixed; list = are_choices }
