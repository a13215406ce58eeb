use Rattle.std.proofs.Common.{List, map, sym, ◌∙◌, ap, subst}
use Rattle.dc_affine.specs.declared.atom.Atom.{Atom}
use Rattle.dc_invariant.specs.Lent.{TellsLocation, kept_atom}
use Rattle.dc_invariant.proofs.Prunings.{at_dead, at_least, at_listed, at_pruned, at_fault}
use Rattle.dc_invariant.proofs.pruning.printed_at.Goals as goal

pub returns-then-f-clause-answer : goal.returns-then-f-clause-answer
returns-then-f-clause-answer g c =
    at_dead c.args.t.now c.args.location c.requires.lent c.requires.inside c.index-t-location.result c.if-f.true c.in_ok-never.field-0 c.in_ok-never.ensures

pub least_atoms-requires : goal.least_atoms-requires
least_atoms-requires g c =
    at_least c.args.t.now c.args.location c.requires.lent c.requires.inside c.index-t-location.result
    c.as_slice-least.result.now c.deref.result.now c.as_slice-least.ensures (c.deref.ensures.value ∙ c.in_ok-rows.ensures)

pub prune_atoms-requires-clause-rows : goal.prune_atoms-requires-clause-rows
prune_atoms-requires-clause-rows g c =
    at_listed c.args.t.now c.args.location c.requires.lent c.requires.inside c.index-t-location.result
    c.as_slice-least.result.now c.deref-2.result.now c.as_slice-least.ensures (c.deref-2.ensures.value ∙ c.in_ok-rows.ensures) c.if-f.false c.in_ok-atoms.atoms.items
    (c.in_ok-atoms.ensures ∙ ap (map (kept_atom c.args.t.now.candidates.now c.as_slice-least.result.now)) (c.deref.ensures.value ∙ sym c.deref-2.ensures.value))

pub returns-in-Ok-clause-answer : goal.returns-in-Ok-clause-answer
returns-in-Ok-clause-answer g c =
    subst (λ (xs : List Atom). TellsLocation c.args.t.now c.args.location xs) (sym c.from_vec.ensures)
    (at_pruned c.args.t.now c.args.location c.requires.lent c.requires.inside c.index-t-location.result
    c.as_slice-least.result.now c.deref-2.result.now c.as_slice-least.ensures (c.deref-2.ensures.value ∙ c.in_ok-rows.ensures) c.if-f.false _ (c.in-Ok.ensures {u = tt}).answer)

pub returns-clause-fault : goal.returns-clause-fault
returns-clause-fault g c =
    at_fault c.args.t.now c.args.location c.requires.lent c.requires.inside c.index-t-location.result
    c.as_slice-least.result.now c.deref-2.result.now c.as_slice-least.ensures (c.deref-2.ensures.value ∙ c.in_ok-rows.ensures) c.if-f.false c.in-Err.fault (c.in-Err.ensures {u = tt}).fault
