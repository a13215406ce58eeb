use Rattle.std.proofs.Common.{◌∙◌, ap, ap₂}
use Rattle.std.proofs.lemmas.Result.{IfOk-weaker}
use Rattle.clap.specs.Simple.{app_of, with_rule}
use Rattle.dc_words.proofs.Chains.{three_added}
use Rattle.dc_words.proofs.commands.with_sources.Goals as goal

pub returns : goal.returns
returns c =
    let two = c.in_ok-arg-2.ensures.shape c.positional-2.ensures.local
    ∙ ap₂ with_rule (c.in_ok-arg.ensures.shape c.positional.ensures.local ∙ ap (with_rule (app_of c.args.command)) c.positional.ensures.rule) c.positional-2.ensures.rule in
    IfOk-weaker c.arg-3.result _ _
    (λ d h. h.shape c.option.ensures.local ∙ (ap₂ with_rule two c.option.ensures.rule ∙ three_added (app_of c.args.command) _ _ _)) c.arg-3.ensures
