use Rattle.std.proofs.Common.{◌≡◌, sym, ◌∙◌, subst, arith, refl}
use Rattle.dc_tokens.specs.Texts.{Tokens}
use Rattle.dc_grammar.specs.Language.{source}
use Rattle.dc_parse.specs.Judges.{judge_source}
use Rattle.dc_parse.specs.Answers.{SourceOutcome}
use Rattle.dc_parse.proofs.Naming.{GoodNames}
use Rattle.dc_parse.proofs.Assembled.{Faulty, handed_on, bad_bytes, bad_grammar, Seen, Named, bad_names, good_names, source_below, bad_forms, source_says}
use Rattle.dc_parse.proofs.Said.{source_is_program}
use Rattle.dc_parse.proofs.parse.read_proc.Goals as goal

pub returns-in_err-tokens-clause-fault : goal.returns-in_err-tokens-clause-fault
returns-in_err-tokens-clause-fault c = handed_on (Faulty (SourceOutcome c.args.text.now)) c.from_residual.result _ c.from_residual.ensures.1 (bad_bytes source (judge_source c.args.text.now) c.args.text.now _ c.requires.short c.in_err-tokens.ensures.fault)

pub returns-in_err-source-clause-fault : goal.returns-in_err-source-clause-fault
returns-in_err-source-clause-fault c = handed_on (Faulty (SourceOutcome c.args.text.now)) c.from_residual-in_err-source.result _ c.from_residual-in_err-source.ensures.1 (bad_grammar source (judge_source c.args.text.now) c.args.text.now c.in_ok-tokens.tokens.items c.as_slice.result.now _ c.requires.short c.in_ok-tokens.ensures.tokens c.as_slice.ensures.value c.in_err-source.ensures)

pub returns-in-Some-clause-fault : goal.returns-in-Some-clause-fault
returns-in-Some-clause-fault c =
    let s : Seen c.args.text.now c.as_slice.result.now c.in_ok-source.ensures.0 c.in_ok-source.source = record { short = c.requires.short; spelled = subst (Tokens 0 c.args.text.now) (sym c.as_slice.ensures.value) c.in_ok-tokens.ensures.tokens; found = c.in_ok-source.ensures.1; source = c.in_ok-source.ensures.2 } in
    subst (Faulty (SourceOutcome c.args.text.now)) (sym c.raise.ensures) (bad_names c.args.text.now c.as_slice.result.now c.in_ok-source.ensures.0 c.in_ok-source.source s c.in-Some.fault c.in-Some.is)

pub judge_all-requires-clause-few : goal.judge_all-requires-clause-few
judge_all-requires-clause-few c =
    let s : Seen c.args.text.now c.as_slice.result.now c.in_ok-source.ensures.0 c.in_ok-source.source = record { short = c.requires.short; spelled = subst (Tokens 0 c.args.text.now) (sym c.as_slice.ensures.value) c.in_ok-tokens.ensures.tokens; found = c.in_ok-source.ensures.1; source = c.in_ok-source.ensures.2 } in
    let n : Named c.args.text.now c.as_slice.result.now c.in_ok-source.ensures.0 c.in_ok-source.source = record { seen = s; good = c.in_default.is } in
    let d : GoodNames c.in_ok-source.source.body.names = good_names c.args.text.now c.as_slice.result.now c.in_ok-source.ensures.0 c.in_ok-source.source n in omega (arith, c.len.ensures, d.few)

pub judge_all-requires-clause-below : goal.judge_all-requires-clause-below
judge_all-requires-clause-below c =
    let s : Seen c.args.text.now c.as_slice.result.now c.in_ok-source.ensures.0 c.in_ok-source.source = record { short = c.requires.short; spelled = subst (Tokens 0 c.args.text.now) (sym c.as_slice.ensures.value) c.in_ok-tokens.ensures.tokens; found = c.in_ok-source.ensures.1; source = c.in_ok-source.ensures.2 } in
    let n : Named c.args.text.now c.as_slice.result.now c.in_ok-source.ensures.0 c.in_ok-source.source = record { seen = s; good = c.in_default.is } in
    source_below c.args.text.now c.as_slice.result.now c.in_ok-source.ensures.0 c.in_ok-source.source n c.len.result c.as_slice-3.result.now c.len.ensures c.as_slice-3.ensures

pub returns-in_err-judge_all-clause-fault : goal.returns-in_err-judge_all-clause-fault
returns-in_err-judge_all-clause-fault c =
    let s : Seen c.args.text.now c.as_slice.result.now c.in_ok-source.ensures.0 c.in_ok-source.source = record { short = c.requires.short; spelled = subst (Tokens 0 c.args.text.now) (sym c.as_slice.ensures.value) c.in_ok-tokens.ensures.tokens; found = c.in_ok-source.ensures.1; source = c.in_ok-source.ensures.2 } in
    let n : Named c.args.text.now c.as_slice.result.now c.in_ok-source.ensures.0 c.in_ok-source.source = record { seen = s; good = c.in_default.is } in
    handed_on (Faulty (SourceOutcome c.args.text.now)) c.from_residual-in_err-judge_all.result _ c.from_residual-in_err-judge_all.ensures.1 (bad_forms c.args.text.now c.as_slice.result.now c.in_ok-source.ensures.0 c.in_ok-source.source n c.len.result c.as_slice-3.result.now c.as_slice-2.result.now c.len.ensures c.as_slice-3.ensures c.as_slice-2.ensures.value _ c.in_err-judge_all.ensures)

pub returns-clause-says : goal.returns-clause-says
returns-clause-says c =
    let s : Seen c.args.text.now c.as_slice.result.now c.in_ok-source.ensures.0 c.in_ok-source.source = record { short = c.requires.short; spelled = subst (Tokens 0 c.args.text.now) (sym c.as_slice.ensures.value) c.in_ok-tokens.ensures.tokens; found = c.in_ok-source.ensures.1; source = c.in_ok-source.ensures.2 } in
    let n : Named c.args.text.now c.as_slice.result.now c.in_ok-source.ensures.0 c.in_ok-source.source = record { seen = s; good = c.in_default.is } in
    source_says c.args.text.now c.as_slice.result.now c.in_ok-source.ensures.0 c.in_ok-source.source n c.len.result c.as_slice-3.result.now c.as_slice-2.result.now c.len.ensures c.as_slice-3.ensures c.as_slice-2.ensures.value c.in_ok-judge_all.ensures.0 _ (c.new.ensures ∙ (c.in_ok-name.ensures ∙ c.spelling.ensures)) refl refl refl

pub returns-clause-program : goal.returns-clause-program
returns-clause-program c = source_is_program c.args.text.now _ (returns-clause-says c)
