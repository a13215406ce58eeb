use Rattle.std.proofs.Common.{◌∙◌, ap, take}
use Rattle.dc_entail.specs.declared.answer.Site.TheVariants as site
use Rattle.dc_invariant.proofs.Faults.{if_ok, if_err}
use Rattle.dc_invariant.proofs.Keepings.{entry_atoms, entry_light, entry_bounded, entry_kept, entry_fault}
use Rattle.dc_invariant.proofs.keeping.entry_keep.Goals as goal

pub keep-requires-clause-atoms : goal.keep-requires-clause-atoms
keep-requires-clause-atoms g c =
    entry_atoms c.args.t.now c.requires.lent c.args.case.now c.requires.case c.args.atom.now c.requires.atom c.deref.result.now
    (c.deref.ensures.value ∙ c.in_ok-form.ensures ∙ ap (take c.args.t.now.system.now.params) c.as_slice.ensures)

pub keep-requires-clause-light : goal.keep-requires-clause-light
keep-requires-clause-light g c =
    entry_light c.args.t.now c.requires.lent c.args.case.now c.requires.case c.args.atom.now c.requires.atom c.deref.result.now
    (c.deref.ensures.value ∙ c.in_ok-form.ensures ∙ ap (take c.args.t.now.system.now.params) c.as_slice.ensures)

pub keep-requires-clause-bounded : goal.keep-requires-clause-bounded
keep-requires-clause-bounded g c =
    entry_bounded c.args.t.now c.requires.lent c.args.case.now c.requires.case c.args.atom.now c.requires.atom c.deref.result.now
    (c.deref.ensures.value ∙ c.in_ok-form.ensures ∙ ap (take c.args.t.now.system.now.params) c.as_slice.ensures)

pub returns-clause-answer : goal.returns-clause-answer
returns-clause-answer g c =
    if_ok _ _ (λ k h. entry_kept c.args.t.now c.requires.lent c.args.case.now c.requires.case c.args.atom.now c.requires.atom c.deref.result.now
    (c.deref.ensures.value ∙ c.in_ok-form.ensures ∙ ap (take c.args.t.now.system.now.params) c.as_slice.ensures) k h) c.keep.result c.keep.ensures.answer

pub returns-clause-fault : goal.returns-clause-fault
returns-clause-fault g c =
    if_err _ _ (λ f h. entry_fault c.args.t.now c.requires.lent c.args.case.now c.requires.case c.args.atom.now c.requires.atom c.deref.result.now
    (c.deref.ensures.value ∙ c.in_ok-form.ensures ∙ ap (take c.args.t.now.system.now.params) c.as_slice.ensures) (site.KeptEntry c.args.t.now.side c.args.case_number c.args.number) f h) c.keep.result c.keep.ensures.fault
