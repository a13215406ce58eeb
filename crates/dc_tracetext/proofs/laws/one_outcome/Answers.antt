use Rattle.dc_lines.proofs.Outcome.{has_one_outcome}
use Rattle.dc_tracetext.specs.Text.{limit}
use Rattle.dc_tracetext.proofs.Machine.{traces}
use Rattle.dc_tracetext.proofs.Decisions.{trace_judge}
use Rattle.dc_tracetext.proofs.laws.one_outcome.Goals as goal

pub returns : goal.returns
returns c = has_one_outcome traces trace_judge limit c.args.text.now
