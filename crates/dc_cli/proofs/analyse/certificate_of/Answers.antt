use Rattle.std.specs.Option.{option_map}
use Rattle.dc_sparse.specs.Meanings.{cross_meaning}
use Rattle.dc_cli.specs.Analysed.{IsUnanalysed}
use Rattle.dc_cli.proofs.Results.{handed_on}
use Rattle.dc_cli.proofs.Refused.{unanalysed_misread}
use Rattle.dc_cli.proofs.Commands.{analysed, unanalysed}
use Rattle.dc_cli.proofs.analyse.certificate_of.Goals as goal

pub returns-in_err-versions-clause-refused : goal.returns-in_err-versions-clause-refused
returns-in_err-versions-clause-refused c =
    let when = option_map (λ z. z.now) c.args.when in
    handed_on c.from_residual.result c.in_err-versions.field-0.0 (IsUnanalysed c.args.new.now c.args.old.now when c.args.settings.now) c.from_residual.ensures.1
    (unanalysed_misread c.args.new.now c.args.old.now when c.args.settings.now c.in_err-versions.field-0.0 c.in_err-versions.ensures.refused)

pub returns-clause-ok : goal.returns-clause-ok
returns-clause-ok c =
    let when = option_map (λ z. z.now) c.args.when in
    let v = c.in_ok-versions.versions in
    analysed c.args.new.now c.args.old.now when c.args.settings.now v.new v.old v.cases (cross_meaning c.certify.new.tableau) c.certify.result
    c.in_ok-versions.ensures.said c.certify.ensures.ok c.certify.ensures.ranges

pub returns-clause-refused : goal.returns-clause-refused
returns-clause-refused c =
    let when = option_map (λ z. z.now) c.args.when in
    let v = c.in_ok-versions.versions in
    unanalysed c.args.new.now c.args.old.now when c.args.settings.now v.new v.old v.cases c.certify.result c.in_ok-versions.ensures.said c.certify.ensures.refused
