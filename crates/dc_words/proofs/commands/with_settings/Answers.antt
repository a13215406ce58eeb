use Rattle.std.proofs.Common.{rules, ◌≡◌, ◌∙◌, ap, ap₂, codes}
use Rattle.std.specs.Prelude.{pos}
use Rattle.std.proofs.lemmas.Result.{IfOk-weaker}
use Rattle.clap.specs.Walk.{rule_of}
use Rattle.clap.specs.Simple.{app_of, with_rule}
use Rattle.clap.specs.declared.builder.value_parser.ValueParser.TheVariants as vp
use Rattle.dc_words.specs.Rules.{option, read_by, with_default}
use Rattle.dc_words.proofs.Chains.{four_added}
use Rattle.dc_words.proofs.commands.with_settings.Goals as goal

pub returns : goal.returns
returns c =
    let degree : rule_of c.number.result ≡ with_default (codes "2") (read_by (vp.Signed (pos 0) (pos 3)) (option (codes "degree"))) = search rules in
    let products : rule_of c.number-2.result ≡ with_default (codes "2") (read_by (vp.Signed (pos 1) (pos 3)) (option (codes "products"))) = search rules in
    let pivots : rule_of c.number-3.result ≡ with_default (codes "100000") (read_by (vp.Unsigned 1 1000000) (option (codes "pivots"))) = search rules in
    let kinds = c.rows.ensures.rule in
    let three = c.in_ok-arg-3.ensures.shape c.rows.ensures.local ∙ ap₂ with_rule (c.in_ok-arg-2.ensures.shape c.number-2.ensures.local
    ∙ ap₂ with_rule (c.in_ok-arg.ensures.shape c.number.ensures.local ∙ ap (with_rule (app_of c.args.command)) degree) products) kinds.2 in
    IfOk-weaker c.arg-4.result _ _ (λ d h. (kinds.0, kinds.1, h.shape c.number-3.ensures.local ∙ (ap₂ with_rule three pivots ∙ four_added (app_of c.args.command) _ _ _ _))) c.arg-4.ensures
