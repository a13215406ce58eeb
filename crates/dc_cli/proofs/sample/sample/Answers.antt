use Rattle.std.proofs.Common.{refl, ◌∙◌}
use Rattle.dc_sparse.specs.Meanings.{cross_meaning}
use Rattle.dc_answers.specs.Ends.{SampleEnds}
use Rattle.dc_cli.specs.Steps.{IsRefusedBy}
use Rattle.dc_cli.proofs.Results.{handed_on}
use Rattle.dc_cli.proofs.Commands.{is_settings, sample_end, sample_refused}
use Rattle.dc_cli.proofs.sample.sample.Goals as goal

pub certificate_of-requires : goal.certificate_of-requires
certificate_of-requires c = is_settings c.settings.result c.settings.ensures

pub returns-in_err-c-clause-refused : goal.returns-in_err-c-clause-refused
returns-in_err-c-clause-refused c =
    handed_on c.from_residual.result c.in_err-c.field-0.0 (IsRefusedBy (SampleEnds c.args.seed c.args.count)) c.from_residual.ensures.1
    (sample_refused c.args.seed c.args.count c.as_slice-new.result.now c.as_slice-old.result.now _ c.settings.result c.in_err-c.field-0.0
    (c.as_slice-new.ensures.value ∙ c.in-Ok.ensures.new) (c.as_slice-old.ensures.value ∙ c.in-Ok.ensures.old) refl c.settings.ensures c.in_err-c.ensures.refused)

pub returns-in-Ok-summary-clause-ok : goal.returns-in-Ok-summary-clause-ok
returns-in-Ok-summary-clause-ok c =
    sample_end c.args.seed c.args.count c.as_slice-new.result.now c.as_slice-old.result.now _ c.settings.result (cross_meaning c.certificate_of.new.tableau)
    c.in_ok-c.c c.status.result c.claim-claim.result c.in-Ok-summary.bytes.items
    (c.as_slice-new.ensures.value ∙ c.in-Ok.ensures.new) (c.as_slice-old.ensures.value ∙ c.in-Ok.ensures.old) refl c.settings.ensures c.in_ok-c.ensures.ok
    c.status.ensures c.claim-claim.ensures c.in-Ok-summary.ensures
