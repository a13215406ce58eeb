use Rattle.dc_system.proofs.Literal.{literals_are}
use Rattle.dc_system.proofs.laws.literals_are_the_numbers.Goals as goal

pub returns : goal.returns
returns c = literals_are
