use Rattle.std.proofs.Common.{◌≡◌, refl, Bool, true, false}
use Rattle.std.specs.Option.{option_map}
use Rattle.dc_answers.specs.Sources.{differ, all_say}
use Rattle.dc_cli.specs.Texts.{IsMisread}
use Rattle.dc_cli.proofs.Results.{handed_on}
use Rattle.dc_cli.proofs.Misreads.{new_misread, old_misread, cases_misread}
use Rattle.dc_cli.proofs.sources.read_sources.Goals as goal

pub returns-in_err-new-clause-refused : goal.returns-in_err-new-clause-refused
returns-in_err-new-clause-refused c =
    let when = option_map (λ z. z.now) c.args.when in
    handed_on c.from_residual.result c.in_err-new.field-0.0 (IsMisread c.args.new.now c.args.old.now when) c.from_residual.ensures.1
    (new_misread c.args.new.now c.args.old.now when c.in_err-new.field-0.0 c.in_err-new.ensures.refused)

pub returns-in_err-old-clause-refused : goal.returns-in_err-old-clause-refused
returns-in_err-old-clause-refused c =
    let when = option_map (λ z. z.now) c.args.when in
    handed_on c.from_residual-in_err-old.result c.in_err-old.field-0.0 (IsMisread c.args.new.now c.args.old.now when) c.from_residual-in_err-old.ensures.1
    (old_misread c.args.new.now c.args.old.now when c.in_ok-new.new c.in_err-old.field-0.0 c.in_ok-new.ensures.says c.in_err-old.ensures.refused)

pub returns-then-not-same_params-clause-refused : goal.returns-then-not-same_params-clause-refused
returns-then-not-same_params-clause-refused c =
    differ c.in_ok-new.new c.in_ok-old.old c.in_ok-new.ensures.says c.in_ok-old.ensures.says (λ s. let e : ◌≡◌ {A = Bool} false true = c.if-not-same_params.ensures.1 s in cc) refl

pub returns-in_err-cases-clause-refused : goal.returns-in_err-cases-clause-refused
returns-in_err-cases-clause-refused c =
    let when = option_map (λ z. z.now) c.args.when in
    handed_on c.from_residual-in_err-cases.result c.in_err-cases.field-0.0 (IsMisread c.args.new.now c.args.old.now when) c.from_residual-in_err-cases.ensures.1
    (cases_misread c.args.new.now c.args.old.now when c.in_ok-new.new c.in_ok-old.old c.in_err-cases.field-0.0 c.in_ok-new.ensures.says c.in_ok-old.ensures.says (c.if-not-same_params.ensures.0 refl) c.in_err-cases.ensures.refused)

pub returns-clause-said : goal.returns-clause-said
returns-clause-said c =
    all_say c.in_ok-new.new c.in_ok-old.old c.in_ok-cases.cases
    (record { new_said = c.in_ok-new.ensures.says; old_said = c.in_ok-old.ensures.says; agree = c.if-not-same_params.ensures.0 refl }) c.in_ok-cases.ensures.says refl
