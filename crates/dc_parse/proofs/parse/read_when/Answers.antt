use Rattle.std.proofs.Common.{◌≡◌, sym, ◌∙◌, ap, subst, arith, map, length-take}
use Rattle.std.specs.String.{string_bytes}
use Rattle.dc_tokens.specs.Texts.{Tokens}
use Rattle.dc_grammar.specs.Language.{cond}
use Rattle.dc_syntax.specs.Params.{params_of}
use Rattle.dc_affine.specs.Atoms.{cases_of}
use Rattle.dc_descent.specs.Faults.{used_fault}
use Rattle.dc_descent.specs.Scopes.{place_in}
use Rattle.dc_descent.specs.Trees.{cond_of}
use Rattle.dc_descent.specs.Statements.{head_at}
use Rattle.dc_parse.specs.Forms.{form_kind}
use Rattle.dc_parse.specs.Judges.{judge_condition}
use Rattle.dc_parse.specs.Answers.{ConditionOutcome}
use Rattle.dc_parse.proofs.Cases.{condition_meets}
use Rattle.dc_parse.proofs.Assembled.{Faulty, handed_on, bad_bytes, bad_grammar, Told, ToldKnown, bad_use, told_below, bad_condition, condition_says, few_operators}
use Rattle.dc_parse.proofs.parse.read_when.Goals as goal

pub returns-in_err-tokens-clause-fault : goal.returns-in_err-tokens-clause-fault
returns-in_err-tokens-clause-fault c = handed_on (Faulty (ConditionOutcome (params_of c.args.p.now) c.args.text.now)) c.from_residual.result _ c.from_residual.ensures.1 (bad_bytes cond (judge_condition (params_of c.args.p.now) c.args.text.now) c.args.text.now _ c.requires.short c.in_err-tokens.ensures.fault)

pub returns-in_err-condition-clause-fault : goal.returns-in_err-condition-clause-fault
returns-in_err-condition-clause-fault c = handed_on (Faulty (ConditionOutcome (params_of c.args.p.now) c.args.text.now)) c.from_residual-in_err-condition.result _ c.from_residual-in_err-condition.ensures.1 (bad_grammar cond (judge_condition (params_of c.args.p.now) c.args.text.now) c.args.text.now c.in_ok-tokens.tokens.items c.as_slice.result.now _ c.requires.short c.in_ok-tokens.ensures.tokens c.as_slice.ensures.value c.in_err-condition.ensures)

pub returns-in-Some-clause-fault : goal.returns-in-Some-clause-fault
returns-in-Some-clause-fault c =
    let s : Told (params_of c.args.p.now) c.args.text.now c.as_slice.result.now c.in_ok-condition.ensures.0 c.in_ok-condition.condition = record { short = c.requires.short; spelled = subst (Tokens 0 c.args.text.now) (sym c.as_slice.ensures.value) c.in_ok-tokens.ensures.tokens; found = c.in_ok-condition.ensures.1; said = ap (λ z. cond_of (place_in c.args.text.now z) c.in_ok-condition.ensures.0) (sym c.params.ensures) ∙ c.in_ok-condition.ensures.2 } in
    subst (Faulty (ConditionOutcome (params_of c.args.p.now) c.args.text.now)) (sym c.raise.ensures)
    (bad_use (params_of c.args.p.now) c.args.text.now c.as_slice.result.now c.in_ok-condition.ensures.0 c.in_ok-condition.condition s c.in-Some.fault (ap (λ z. used_fault c.args.text.now z c.as_slice.result.now) (sym c.params.ensures) ∙ (ap (used_fault c.args.text.now (map string_bytes c.params.result.now)) (c.as_slice.ensures.value ∙ sym c.as_slice-2.ensures.value) ∙ (sym c.first_unknown.ensures ∙ c.in-Some.is))))

pub dnf-requires-clause-below : goal.dnf-requires-clause-below
dnf-requires-clause-below c =
    let s : Told (params_of c.args.p.now) c.args.text.now c.as_slice.result.now c.in_ok-condition.ensures.0 c.in_ok-condition.condition = record { short = c.requires.short; spelled = subst (Tokens 0 c.args.text.now) (sym c.as_slice.ensures.value) c.in_ok-tokens.ensures.tokens; found = c.in_ok-condition.ensures.1; said = ap (λ z. cond_of (place_in c.args.text.now z) c.in_ok-condition.ensures.0) (sym c.params.ensures) ∙ c.in_ok-condition.ensures.2 } in
    let n : ToldKnown (params_of c.args.p.now) c.args.text.now c.as_slice.result.now c.in_ok-condition.ensures.0 c.in_ok-condition.condition = record { told = s; good = ap (λ z. used_fault c.args.text.now z c.as_slice.result.now) (sym c.params.ensures) ∙ (ap (used_fault c.args.text.now (map string_bytes c.params.result.now)) (c.as_slice.ensures.value ∙ sym c.as_slice-2.ensures.value) ∙ (sym c.first_unknown.ensures ∙ c.in_default.is)) } in
    told_below (params_of c.args.p.now) c.args.text.now c.as_slice.result.now c.in_ok-condition.ensures.0 c.in_ok-condition.condition n c.args.p.now.params (omega (arith, c.requires.program.params, length-take c.args.p.now.params c.args.p.now.names))

pub returns-in-Ok-clause-says : goal.returns-in-Ok-clause-says
returns-in-Ok-clause-says c =
    let s : Told (params_of c.args.p.now) c.args.text.now c.as_slice.result.now c.in_ok-condition.ensures.0 c.in_ok-condition.condition = record { short = c.requires.short; spelled = subst (Tokens 0 c.args.text.now) (sym c.as_slice.ensures.value) c.in_ok-tokens.ensures.tokens; found = c.in_ok-condition.ensures.1; said = ap (λ z. cond_of (place_in c.args.text.now z) c.in_ok-condition.ensures.0) (sym c.params.ensures) ∙ c.in_ok-condition.ensures.2 } in
    let n : ToldKnown (params_of c.args.p.now) c.args.text.now c.as_slice.result.now c.in_ok-condition.ensures.0 c.in_ok-condition.condition = record { told = s; good = ap (λ z. used_fault c.args.text.now z c.as_slice.result.now) (sym c.params.ensures) ∙ (ap (used_fault c.args.text.now (map string_bytes c.params.result.now)) (c.as_slice.ensures.value ∙ sym c.as_slice-2.ensures.value) ∙ (sym c.first_unknown.ensures ∙ c.in_default.is)) } in
    condition_says (params_of c.args.p.now) c.args.text.now c.as_slice.result.now c.in_ok-condition.ensures.0 c.in_ok-condition.condition n c.args.p.now.params (omega (arith, c.requires.program.params, length-take c.args.p.now.params c.args.p.now.names)) c.in-Ok.ensures.passes (cases_of c.in-Ok.cases.items) c.in-Ok.ensures.cases

pub returns-in-Ok-clause-condition : goal.returns-in-Ok-clause-condition
returns-in-Ok-clause-condition c =
    let s : Told (params_of c.args.p.now) c.args.text.now c.as_slice.result.now c.in_ok-condition.ensures.0 c.in_ok-condition.condition = record { short = c.requires.short; spelled = subst (Tokens 0 c.args.text.now) (sym c.as_slice.ensures.value) c.in_ok-tokens.ensures.tokens; found = c.in_ok-condition.ensures.1; said = ap (λ z. cond_of (place_in c.args.text.now z) c.in_ok-condition.ensures.0) (sym c.params.ensures) ∙ c.in_ok-condition.ensures.2 } in
    let n : ToldKnown (params_of c.args.p.now) c.args.text.now c.as_slice.result.now c.in_ok-condition.ensures.0 c.in_ok-condition.condition = record { told = s; good = ap (λ z. used_fault c.args.text.now z c.as_slice.result.now) (sym c.params.ensures) ∙ (ap (used_fault c.args.text.now (map string_bytes c.params.result.now)) (c.as_slice.ensures.value ∙ sym c.as_slice-2.ensures.value) ∙ (sym c.first_unknown.ensures ∙ c.in_default.is)) } in
    condition_meets c.args.p.now.params c.in_ok-condition.condition (cases_of c.in-Ok.cases.items) (few_operators (params_of c.args.p.now) c.args.text.now c.as_slice.result.now c.in_ok-condition.ensures.0 c.in_ok-condition.condition n) c.in-Ok.ensures.passes c.in-Ok.ensures.cases c.in-Ok.ensures.atoms

pub returns-clause-fault : goal.returns-clause-fault
returns-clause-fault c =
    let s : Told (params_of c.args.p.now) c.args.text.now c.as_slice.result.now c.in_ok-condition.ensures.0 c.in_ok-condition.condition = record { short = c.requires.short; spelled = subst (Tokens 0 c.args.text.now) (sym c.as_slice.ensures.value) c.in_ok-tokens.ensures.tokens; found = c.in_ok-condition.ensures.1; said = ap (λ z. cond_of (place_in c.args.text.now z) c.in_ok-condition.ensures.0) (sym c.params.ensures) ∙ c.in_ok-condition.ensures.2 } in
    let n : ToldKnown (params_of c.args.p.now) c.args.text.now c.as_slice.result.now c.in_ok-condition.ensures.0 c.in_ok-condition.condition = record { told = s; good = ap (λ z. used_fault c.args.text.now z c.as_slice.result.now) (sym c.params.ensures) ∙ (ap (used_fault c.args.text.now (map string_bytes c.params.result.now)) (c.as_slice.ensures.value ∙ sym c.as_slice-2.ensures.value) ∙ (sym c.first_unknown.ensures ∙ c.in_default.is)) } in
    let r : Faulty (ConditionOutcome (params_of c.args.p.now) c.args.text.now) (record { kind = form_kind c.in-Err.fault; at = c.first_offset.result }) =
    bad_condition (params_of c.args.p.now) c.args.text.now c.as_slice.result.now c.in_ok-condition.ensures.0 c.in_ok-condition.condition n c.args.p.now.params c.first_offset.result (omega (arith, c.requires.program.params, length-take c.args.p.now.params c.args.p.now.names)) (c.first_offset.ensures ∙ ap head_at (c.as_slice-in-Err.ensures.value ∙ sym c.as_slice.ensures.value)) c.in-Err.fault c.in-Err.ensures.fault in
    subst (λ z. Faulty (ConditionOutcome (params_of c.args.p.now) c.args.text.now) (record { kind = z; at = c.first_offset.result })) (sym c.form_kind.ensures) r
