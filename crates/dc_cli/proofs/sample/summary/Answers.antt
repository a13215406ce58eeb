use Rattle.std.proofs.Common.{◌∙◌, ap, length}
use Rattle.dc_cli.proofs.Commands.{is_summary}
use Rattle.dc_cli.proofs.sample.summary.Goals as goal

pub returns : goal.returns
returns c =
    is_summary c.args.seed c.args.count (length c.args.new.now) (length c.args.old.now) c.args.claim.now c.as_bytes.result.now c.line_behind.result
    (c.as_bytes.ensures.value ∙ c.as_str.ensures.value ∙ c.in_ok-before.ensures.ok) (ap length c.requires.new) (ap length c.requires.old)
    c.line_behind.ensures
