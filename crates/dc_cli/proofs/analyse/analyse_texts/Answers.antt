use Rattle.std.specs.Option.{option_map}
use Rattle.dc_sparse.specs.Meanings.{cross_meaning}
use Rattle.dc_answers.specs.Ends.{AnalyseEnds, IsWritten}
use Rattle.dc_cli.specs.Steps.{IsRefusedBy}
use Rattle.dc_cli.proofs.Results.{handed_on}
use Rattle.dc_cli.proofs.Refused.{unanalysed_end}
use Rattle.dc_cli.proofs.Commands.{analyse_ends, analyse_refused}
use Rattle.dc_cli.proofs.analyse.analyse_texts.Goals as goal

pub returns-in_err-c-clause-refused : goal.returns-in_err-c-clause-refused
returns-in_err-c-clause-refused c =
    let when = option_map (λ z. z.now) c.args.when in
    handed_on c.from_residual.result c.in_err-c.field-0.0 (IsRefusedBy (AnalyseEnds c.args.new.now c.args.old.now when c.args.settings.now)) c.from_residual.ensures.1
    (unanalysed_end c.args.new.now c.args.old.now when c.args.settings.now IsWritten c.in_err-c.field-0.0 c.in_err-c.ensures.refused)

pub returns-clause-ok : goal.returns-clause-ok
returns-clause-ok c =
    let when = option_map (λ z. z.now) c.args.when in
    analyse_ends c.args.new.now c.args.old.now when c.args.settings.now (cross_meaning c.certificate_of.new.tableau) c.in_ok-c.c c.in_ok-c.ensures.ok
    c.output_of.result c.output_of.ensures.ok

pub returns-clause-refused : goal.returns-clause-refused
returns-clause-refused c =
    let when = option_map (λ z. z.now) c.args.when in
    analyse_refused c.args.new.now c.args.old.now when c.args.settings.now (cross_meaning c.certificate_of.new.tableau) c.in_ok-c.c c.in_ok-c.ensures.ok
    c.output_of.result c.output_of.ensures.refused
