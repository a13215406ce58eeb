use Rattle.std.proofs.Common.{◌∙◌, ap}
use Rattle.std.specs.Prelude.{Err}
use Rattle.dc_cli.proofs.Commands.{bad_text}
use Rattle.dc_cli.proofs.check.certificate_in.Goals as goal

pub returns-in-Ok-clause-text : goal.returns-in-Ok-clause-text
returns-in-Ok-clause-text c = record { ranges = c.in-Ok.ensures.ranges; whole = c.in-Ok.ensures.text }

pub returns-in-Err-BadText-clause-refused : goal.returns-in-Err-BadText-clause-refused
returns-in-Err-BadText-clause-refused c = bad_text c.args.text.now c.read_cert.result c.in-Err-BadText.line (c.in-Err-BadText.is ∙ ap Err c.in-Err-BadText.field-0-is) c.read_cert.ensures.fault
