use Rattle.std.specs.Option.{option_map}
use Rattle.dc_answers.specs.Ends.{CheckEnds}
use Rattle.dc_cli.specs.Steps.{IsRefusedBy}
use Rattle.dc_cli.proofs.Results.{handed_on}
use Rattle.dc_cli.proofs.Refused.{no_certificate_end}
use Rattle.dc_cli.proofs.Commands.{check_misread, check_ends, check_refused}
use Rattle.dc_cli.proofs.check.check_texts.Goals as goal

pub returns-in_err-c-clause-refused : goal.returns-in_err-c-clause-refused
returns-in_err-c-clause-refused c =
    let when = option_map (λ z. z.now) c.args.when in
    handed_on c.from_residual.result c.in_err-c.field-0.0 (IsRefusedBy (CheckEnds c.args.new.now c.args.old.now c.args.cert.now when)) c.from_residual.ensures.1
    (no_certificate_end c.args.new.now c.args.old.now c.args.cert.now when c.in_err-c.field-0.0 c.in_err-c.ensures.refused)

pub returns-in_err-versions-clause-refused : goal.returns-in_err-versions-clause-refused
returns-in_err-versions-clause-refused c =
    let when = option_map (λ z. z.now) c.args.when in
    handed_on c.from_residual-in_err-versions.result c.in_err-versions.field-0.0 (IsRefusedBy (CheckEnds c.args.new.now c.args.old.now c.args.cert.now when))
    c.from_residual-in_err-versions.ensures.1
    (check_misread c.args.new.now c.args.old.now c.args.cert.now when c.in_ok-c.c c.in_ok-c.ensures.text c.in_ok-c.ensures.short c.in_err-versions.field-0.0
    c.in_err-versions.ensures.refused)

pub returns-clause-ok : goal.returns-clause-ok
returns-clause-ok c =
    let v = c.in_ok-versions.versions in
    check_ends c.args.new.now c.args.old.now c.args.cert.now (option_map (λ z. z.now) c.args.when) c.in_ok-c.c c.in_ok-c.ensures.text c.in_ok-c.ensures.short
    v.new v.old v.cases c.in_ok-versions.ensures.said c.judge.result c.judge.ensures.ok

pub returns-clause-refused : goal.returns-clause-refused
returns-clause-refused c =
    let v = c.in_ok-versions.versions in
    check_refused c.args.new.now c.args.old.now c.args.cert.now (option_map (λ z. z.now) c.args.when) c.in_ok-c.c c.in_ok-c.ensures.text c.in_ok-c.ensures.short
    v.new v.old v.cases c.in_ok-versions.ensures.said c.judge.result c.judge.ensures.refused
