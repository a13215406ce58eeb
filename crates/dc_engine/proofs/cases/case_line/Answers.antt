use Rattle.std.proofs.Common.{subst, ap, ◌∙◌}
use Rattle.std.specs.declared.vec.Vec.{Vec}
use Rattle.std.specs.declared.alloc.Global.{Global}
use Rattle.dc_frac.specs.declared.Frac.{Frac}
use Rattle.dc_cert.specs.Vectors.{nonzero_from}
use Rattle.dc_entail.specs.declared.answer.Emptiness.{Emptiness}
use Rattle.dc_entail.specs.Answers.{TellsEmptiness, TellsDead, TellsLive}
use Rattle.dc_invariant.proofs.Tells.{dead_line, live_line}
use Rattle.dc_engine.proofs.cases.case_line.Goals as goal
use Rattle.dc_points.proofs.Flags.{dead_flag, live_flag}

pub returns-in_ok-sparse_of-in-Ok-Dead-clause-answer : goal.returns-in_ok-sparse_of-in-Ok-Dead-clause-answer
returns-in_ok-sparse_of-in-Ok-Dead-clause-answer g c =
    dead_line c.args.case.now c.args.params c.args.budget c.in-Ok-Dead.mult.items c.in_ok-sparse_of-in-Ok-Dead.field-0
    (subst (λ (x : Emptiness). TellsEmptiness c.args.case.now c.args.params c.args.budget x) c.in-Ok-Dead.field-0-is (c.in-Ok-Dead.ensures {u = tt}).answer)
    ((c.in_ok-sparse_of-in-Ok-Dead.ensures {u = tt}).items ∙ ap (nonzero_from 0) c.deref.ensures.value ∙ ap (λ (v : Vec Frac Global). nonzero_from 0 v.items) c.in-Ok-Dead.mult-is)

pub returns-in_ok-sparse_of-in-Ok-Dead-clause-flag : goal.returns-in_ok-sparse_of-in-Ok-Dead-clause-flag
returns-in_ok-sparse_of-in-Ok-Dead-clause-flag g c =
    let t : TellsDead c.args.case.now c.args.params c.args.budget c.in-Ok-Dead.mult.items =
    subst (λ (x : Emptiness). TellsEmptiness c.args.case.now c.args.params c.args.budget x) c.in-Ok-Dead.field-0-is (c.in-Ok-Dead.ensures {u = tt}).answer in
    dead_flag c.args.case.now t.dead

pub returns-in_ok-sparse_of-in-Ok-Live-clause-answer : goal.returns-in_ok-sparse_of-in-Ok-Live-clause-answer
returns-in_ok-sparse_of-in-Ok-Live-clause-answer g c =
    live_line c.args.case.now c.args.params c.args.budget c.in-Ok-Live.y.items c.in_ok-sparse_of-in-Ok-Live.field-0
    (subst (λ (x : Emptiness). TellsEmptiness c.args.case.now c.args.params c.args.budget x) c.in-Ok-Live.field-0-is (c.in-Ok-Live.ensures {u = tt}).answer)
    ((c.in_ok-sparse_of-in-Ok-Live.ensures {u = tt}).items ∙ ap (nonzero_from 0) c.deref-in-Ok-Live.ensures.value ∙ ap (λ (v : Vec Frac Global). nonzero_from 0 v.items) c.in-Ok-Live.y-is)

pub returns-in_ok-sparse_of-in-Ok-Live-clause-flag : goal.returns-in_ok-sparse_of-in-Ok-Live-clause-flag
returns-in_ok-sparse_of-in-Ok-Live-clause-flag g c =
    let t : TellsLive c.args.case.now c.args.params c.args.budget c.in-Ok-Live.y.items =
    subst (λ (x : Emptiness). TellsEmptiness c.args.case.now c.args.params c.args.budget x) c.in-Ok-Live.field-0-is (c.in-Ok-Live.ensures {u = tt}).answer in
    live_flag c.args.case.now (λ d. d t.point t.meets)
