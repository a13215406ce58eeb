use Rattle.dc_lines.proofs.Outcome.{has_one_outcome}
use Rattle.dc_certtext.specs.Limits.{limit}
use Rattle.dc_certtext.proofs.Machine.{certificates}
use Rattle.dc_certtext.proofs.Decisions.{certificate_judge}
use Rattle.dc_certtext.proofs.laws.one_outcome.Goals as goal

pub returns : goal.returns
returns c = has_one_outcome certificates certificate_judge limit c.args.text.now
