use Rattle.std.proofs.Common.{◌∙◌, ap}
use Rattle.std.specs.Prelude.{Err}
use Rattle.dc_cli.proofs.Commands.{is_short, too_large, is_long}
use Rattle.dc_cli.proofs.analyse.output_of.Goals as goal

pub returns-in-Ok-clause-ok : goal.returns-in-Ok-clause-ok
returns-in-Ok-clause-ok c =
    is_short c.args.c.now c.status-status.result c.claim.result c.in-Ok.bytes.items c.requires c.status-status.ensures c.claim.ensures c.in-Ok.ensures.text c.in-Ok.ensures.short

pub returns-in-Err-TooLarge-clause-refused : goal.returns-in-Err-TooLarge-clause-refused
returns-in-Err-TooLarge-clause-refused c = is_long c.args.c.now c.in-Err-TooLarge.count c.requires
    (too_large c.args.c.now c.write_cert.result c.in-Err-TooLarge.count (c.in-Err-TooLarge.is ∙ ap Err c.in-Err-TooLarge.field-0-is) c.write_cert.ensures.fault)
