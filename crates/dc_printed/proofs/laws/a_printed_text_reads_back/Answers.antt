use Rattle.dc_printed.proofs.RoundTrip.{reads_back}
use Rattle.dc_printed.proofs.laws.a_printed_text_reads_back.Goals as goal

pub returns : goal.returns
returns c = reads_back
