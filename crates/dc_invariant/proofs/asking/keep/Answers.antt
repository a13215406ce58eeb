use Rattle.std.proofs.Common.{subst, ap, ◌∙◌}
use Rattle.std.specs.declared.vec.Vec.{Vec}
use Rattle.std.specs.declared.alloc.Global.{Global}
use Rattle.dc_frac.specs.declared.Frac.{Frac}
use Rattle.dc_cert.specs.Vectors.{nonzero_from}
use Rattle.dc_entail.specs.declared.answer.Sup.{Sup}
use Rattle.dc_entail.specs.Answers.{TellsSup}
use Rattle.dc_invariant.proofs.Tells.{least_keep, never_none}
use Rattle.dc_invariant.proofs.asking.keep.Goals as goal

pub unreachable-requires : goal.unreachable-requires
unreachable-requires g c =
    never_none c.args.hyps.now c.args.form.now c.args.budget c.in-Ok-NoBound.field-0-0.items c.requires.bounded
    (subst (λ (x : Sup). TellsSup c.args.hyps.now c.args.form.now c.args.budget x) c.in-Ok-NoBound.field-0-is (c.in-Ok-NoBound.ensures {u = tt}).answer)

pub returns-in_ok-sparse_of-in-Ok-At-clause-answer : goal.returns-in_ok-sparse_of-in-Ok-At-clause-answer
returns-in_ok-sparse_of-in-Ok-At-clause-answer g c =
    least_keep c.args.hyps.now c.args.form.now c.args.budget c.in-Ok-At.field-0-0 c.in-Ok-At.mult.items c.in_ok-sparse_of-in-Ok-At.field-0
    (subst (λ (x : Sup). TellsSup c.args.hyps.now c.args.form.now c.args.budget x) c.in-Ok-At.field-0-is (c.in-Ok-At.ensures {u = tt}).answer)
    ((c.in_ok-sparse_of-in-Ok-At.ensures {u = tt}).items ∙ ap (nonzero_from 0) c.deref.ensures.value ∙ ap (λ (v : Vec Frac Global). nonzero_from 0 v.items) c.in-Ok-At.mult-is)
