use Rattle.dc_answers.proofs.Meanings.{printed_is_accepted}
use Rattle.dc_answers.proofs.laws.what_is_printed_is_accepted.Goals as goal

pub returns : goal.returns
returns c = printed_is_accepted
