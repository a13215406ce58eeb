use Rattle.std.specs.List.{AllByRecursion}
use Rattle.std.proofs.Common.{◌<◌, ◌≤◌, ◌^◌, ◌∙◌, List, sym, ap, subst, take, length}
use Rattle.std.specs.Prelude.{ℤ, sum_by, unsigned_abs}
use Rattle.dc_affine.specs.Atoms.{AllFit, IsAtom}
use Rattle.dc_system.specs.declared.rows.RowAfter.{RowAfter}
use Rattle.dc_entail.specs.declared.answer.Site.TheVariants as site
use Rattle.dc_invariant.specs.Lent.{HasBound}
use Rattle.dc_invariant.proofs.Faults.{if_ok, if_err}
use Rattle.dc_invariant.proofs.Keepings.{is_edge, cut_atoms, cut_live, short, fit, along_long, along_form, form_light, along_bounded, along_kept, along_fault}
use Rattle.dc_invariant.proofs.keeping.edge_keep.Goals as goal

pub row_after-requires-clause-edge : goal.row_after-requires-clause-edge
row_after-requires-clause-edge g c = is_edge c.args.t.now c.requires.lent c.args.edge.now c.requires.edge

pub row_after-requires-clause-short : goal.row_after-requires-clause-short
row_after-requires-clause-short g c = subst (λ (cs : List ℤ). length cs ≤ c.args.t.now.system.now.vars) (sym c.as_slice.ensures) (short c.args.t.now c.requires.lent c.args.edge.now c.requires.edge c.args.atom.now c.requires.atom)

pub row_after-requires-clause-row : goal.row_after-requires-clause-row
row_after-requires-clause-row g c = subst AllFit (sym c.as_slice.ensures) (fit c.args.t.now c.requires.lent c.args.edge.now c.requires.edge c.args.atom.now c.requires.atom)

pub slice_bounds-form-end : goal.slice_bounds-form-end
slice_bounds-form-end g c = sym (ap length (along_form c.args.t.now c.requires.lent c.args.edge.now c.requires.edge c.args.atom.now c.requires.atom c.edge_places-places.result c.as_slice-2.result.now c.as_slice.result.now c.edge_places-places.ensures (c.as_slice-2.ensures ∙ ap (λ (r : RowAfter). r.coefs) (c.in_ok-row.ensures {u = tt}).row) c.as_slice.ensures) ∙ along_long c.args.t.now c.requires.lent c.args.edge.now c.requires.edge c.args.atom.now c.requires.atom ∙ sym c.edge_places-places.ensures)

pub keep-requires-clause-atoms : goal.keep-requires-clause-atoms
keep-requires-clause-atoms g c =
    subst (λ k. AllByRecursion (IsAtom k) c.args.hyps.now) (sym (ap length (along_form c.args.t.now c.requires.lent c.args.edge.now c.requires.edge c.args.atom.now c.requires.atom c.edge_places-places.result c.as_slice-2.result.now c.as_slice.result.now c.edge_places-places.ensures (c.as_slice-2.ensures ∙ ap (λ (r : RowAfter). r.coefs) (c.in_ok-row.ensures {u = tt}).row) c.as_slice.ensures) ∙ along_long c.args.t.now c.requires.lent c.args.edge.now c.requires.edge c.args.atom.now c.requires.atom))
    (cut_atoms c.args.t.now c.requires.lent c.args.edge.now c.requires.edge c.args.hyps.now c.requires.hyps)

pub keep-requires-clause-live : goal.keep-requires-clause-live
keep-requires-clause-live g c = cut_live c.args.t.now c.requires.lent c.args.edge.now c.requires.edge c.args.hyps.now c.requires.hyps c.requires.live

pub keep-requires-clause-light : goal.keep-requires-clause-light
keep-requires-clause-light g c = subst (λ (cs : List ℤ). sum_by unsigned_abs cs < 2 ^ 70) (sym (along_form c.args.t.now c.requires.lent c.args.edge.now c.requires.edge c.args.atom.now c.requires.atom c.edge_places-places.result c.as_slice-2.result.now c.as_slice.result.now c.edge_places-places.ensures (c.as_slice-2.ensures ∙ ap (λ (r : RowAfter). r.coefs) (c.in_ok-row.ensures {u = tt}).row) c.as_slice.ensures)) (form_light c.args.t.now c.requires.lent c.args.edge.now c.requires.edge c.args.atom.now c.requires.atom)

pub keep-requires-clause-bounded : goal.keep-requires-clause-bounded
keep-requires-clause-bounded g c = subst (HasBound c.args.hyps.now) (sym (along_form c.args.t.now c.requires.lent c.args.edge.now c.requires.edge c.args.atom.now c.requires.atom c.edge_places-places.result c.as_slice-2.result.now c.as_slice.result.now c.edge_places-places.ensures (c.as_slice-2.ensures ∙ ap (λ (r : RowAfter). r.coefs) (c.in_ok-row.ensures {u = tt}).row) c.as_slice.ensures)) (along_bounded c.args.t.now c.requires.lent c.args.edge.now c.requires.edge c.args.atom.now c.requires.atom c.args.hyps.now c.requires.hyps)

pub returns-clause-answer : goal.returns-clause-answer
returns-clause-answer g c =
    if_ok _ _ (λ k h. along_kept c.args.t.now c.requires.lent c.args.edge.now c.requires.edge c.args.atom.now c.requires.atom c.args.hyps.now c.requires.hyps (take c.edge_places-places.result c.as_slice-2.result.now) (along_form c.args.t.now c.requires.lent c.args.edge.now c.requires.edge c.args.atom.now c.requires.atom c.edge_places-places.result c.as_slice-2.result.now c.as_slice.result.now c.edge_places-places.ensures (c.as_slice-2.ensures ∙ ap (λ (r : RowAfter). r.coefs) (c.in_ok-row.ensures {u = tt}).row) c.as_slice.ensures) k h) c.keep.result c.keep.ensures.answer

pub returns-clause-fault : goal.returns-clause-fault
returns-clause-fault g c =
    if_err _ _ (λ f h. along_fault c.args.t.now c.requires.lent c.args.edge.now c.requires.edge c.args.atom.now c.requires.atom c.args.hyps.now c.requires.hyps (take c.edge_places-places.result c.as_slice-2.result.now) (along_form c.args.t.now c.requires.lent c.args.edge.now c.requires.edge c.args.atom.now c.requires.atom c.edge_places-places.result c.as_slice-2.result.now c.as_slice.result.now c.edge_places-places.ensures (c.as_slice-2.ensures ∙ ap (λ (r : RowAfter). r.coefs) (c.in_ok-row.ensures {u = tt}).row) c.as_slice.ensures)
    (site.KeptAtom c.args.t.now.side c.args.edge_number c.args.number) f h) c.keep.result c.keep.ensures.fault
