use Rattle.dc_families.proofs.Prunes.{has_printed, one_printed_each, printed_say_lists, printed_are_inductive}
use Rattle.dc_families.proofs.laws.printed_atoms.Goals as goal

pub returns : goal.returns
returns c = record { some = has_printed; one = one_printed_each; meaning = printed_say_lists; inductive = printed_are_inductive }
