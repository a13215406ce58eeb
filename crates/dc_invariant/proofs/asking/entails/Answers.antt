use Rattle.std.proofs.Common.{take, ◌∙◌, ap, subst}
use Rattle.std.specs.Prelude.{◌↔◌, IsTrue}
use Rattle.dc_math.specs.Rational.{◌≤ℚ◌, of_ℤ}
use Rattle.dc_frac.specs.declared.Frac.{Frac}
use Rattle.dc_frac.specs.Value.{value}
use Rattle.dc_entail.specs.declared.answer.Sup.{Sup}
use Rattle.dc_entail.specs.Answers.{TellsSup}
use Rattle.dc_invariant.proofs.Tells.{full_form, full_light, entailed_least, entailed_none}
use Rattle.dc_invariant.proofs.asking.entails.Goals as goal

pub sup-requires-clause-light : goal.sup-requires-clause-light
sup-requires-clause-light g c =
    full_light c.args.vars c.args.atom.now c.deref.result.now c.requires.few c.requires.atom
    (c.deref.ensures.value ∙ c.in_ok-form.ensures ∙ ap (take c.args.vars) c.as_slice.ensures ∙ full_form c.args.vars c.args.atom.now c.requires.atom)

pub returns-in-Ok-At-clause-answer : goal.returns-in-Ok-At-clause-answer
returns-in-Ok-At-clause-answer g c =
    entailed_least c.args.site c.args.hyps.now c.args.atom.now c.deref.result.now c.args.budget
    (c.deref.ensures.value ∙ c.in_ok-form.ensures ∙ ap (take c.args.vars) c.as_slice.ensures ∙ full_form c.args.vars c.args.atom.now c.requires.atom)
    c.in-Ok-At.value c.in-Ok-At.field-0-1.items c.is_at_most.result
    (subst (λ (x : Sup). TellsSup c.args.hyps.now c.deref.result.now c.args.budget x) c.in-Ok-At.field-0-is (c.in-Ok-At.ensures {u = tt}).answer)
    (subst (λ (x : Frac). IsTrue c.is_at_most.result ↔ (value x ≤ℚ of_ℤ c.args.atom.now.c0)) c.in-Ok-At.value-is c.is_at_most.ensures)

pub returns-in-Ok-NoBound-clause-answer : goal.returns-in-Ok-NoBound-clause-answer
returns-in-Ok-NoBound-clause-answer g c =
    entailed_none c.args.site c.args.hyps.now c.args.atom.now c.deref.result.now c.args.budget
    (c.deref.ensures.value ∙ c.in_ok-form.ensures ∙ ap (take c.args.vars) c.as_slice.ensures ∙ full_form c.args.vars c.args.atom.now c.requires.atom)
    c.in-Ok-NoBound.field-0-0.items
    (subst (λ (x : Sup). TellsSup c.args.hyps.now c.deref.result.now c.args.budget x) c.in-Ok-NoBound.field-0-is (c.in-Ok-NoBound.ensures {u = tt}).answer)
