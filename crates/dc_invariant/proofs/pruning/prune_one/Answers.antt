use Rattle.std.proofs.Common.{List, sym, ◌∙◌, subst, Bool, true, false}
use Rattle.dc_affine.specs.declared.atom.Atom.{Atom}
use Rattle.dc_points.specs.Points.{IsDead}
use Rattle.dc_invariant.proofs.Steps.{live_without, step_out, back_step, step_fault}
use Rattle.dc_invariant.specs.Lent.{TellsEntailed}
use Rattle.dc_invariant.proofs.pruning.prune_one.Goals as goal

pub entails-requires-clause-live : goal.entails-requires-clause-live
entails-requires-clause-live g c =
    subst (λ (xs : List Atom). ¬ IsDead xs) (sym (c.deref.ensures.value ∙ c.remove-atom.ensures.items)) (live_without c.args.atoms.now.items c.args.number c.requires.live)

pub returns-in-Ok-true-clause-answer : goal.returns-in-Ok-true-clause-answer
returns-in-Ok-true-clause-answer g c =
    step_out c.args.site c.args.number c.args.budget c.args.atoms.now.items c.remove-atom.result c.requires.inside c.remove-atom.ensures.value c.remove-atom.new.self.items c.remove-atom.ensures.items
    (subst (λ (xs : List Atom). TellsEntailed c.args.site xs c.remove-atom.result c.args.budget true) c.deref.ensures.value
    (subst (λ (b : Bool). TellsEntailed c.args.site c.deref.result.now c.remove-atom.result c.args.budget b) c.in-Ok-true.field-0-test (c.in-Ok-true.ensures {u = tt}).answer))

pub returns-in-Ok-false-clause-answer : goal.returns-in-Ok-false-clause-answer
returns-in-Ok-false-clause-answer g c =
    back_step c.args.site c.args.number c.args.budget c.args.atoms.now.items c.remove-atom.result c.requires.inside c.remove-atom.ensures.value c.remove-atom.new.self.items c.remove-atom.ensures.items
    c.put_back.new.atoms.items c.put_back.result c.put_back.ensures.answer
    (subst (λ (xs : List Atom). TellsEntailed c.args.site xs c.remove-atom.result c.args.budget false) c.deref.ensures.value
    (subst (λ (b : Bool). TellsEntailed c.args.site c.deref.result.now c.remove-atom.result c.args.budget b) c.in-Ok-false.field-0-test (c.in-Ok-false.ensures {u = tt}).answer))

pub returns-in-Err-clause-fault : goal.returns-in-Err-clause-fault
returns-in-Err-clause-fault g c =
    step_fault c.args.site c.args.number c.args.budget c.args.atoms.now.items c.remove-atom.result c.requires.inside c.remove-atom.ensures.value c.deref.result.now (c.deref.ensures.value ∙ c.remove-atom.ensures.items)
    c.in-Err.fault (c.in-Err.ensures {u = tt}).fault
