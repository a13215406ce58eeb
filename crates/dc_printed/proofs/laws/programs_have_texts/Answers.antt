use Rattle.dc_printed.proofs.RoundTrip.{has_text}
use Rattle.dc_printed.proofs.laws.programs_have_texts.Goals as goal

pub returns : goal.returns
returns c = has_text
