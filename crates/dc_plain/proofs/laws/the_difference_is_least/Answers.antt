use Rattle.dc_plain.proofs.Least.{plain_are_least, printed_plain_are_least, systems_have_pair}
use Rattle.dc_plain.proofs.laws.the_difference_is_least.Goals as goal

pub returns : goal.returns
returns c = record { least = plain_are_least; printed = printed_plain_are_least; pair = systems_have_pair }
