use Rattle.std.proofs.Common.{refl, ◌∙◌, ap}
use Rattle.dc_system.specs.declared.edges.Edge.{Edge}
use Rattle.dc_rows.specs.Rows.{guard_atoms, with_rows}
use Rattle.dc_rows.proofs.Steps.{unchosen_parts, items_step, items_done, guards-cons}
use Rattle.dc_rows.proofs.rows.add_guards.Goals as goal

pub returns : goal.returns
returns c = items_done (λ es. unchosen_parts c.args.vars (guard_atoms es)) refl _ _ _ _ c.loop-edge-test.false c.loop-edge.invariant

pub loop-edge-preserved : goal.loop-edge-preserved
loop-edge-preserved c =
    items_step (λ es. unchosen_parts c.args.vars (guard_atoms es)) (λ (e : Edge). unchosen_parts c.args.vars e.guard) (guards-cons c.args.vars) _ c.args.edges.now _ _ _ _ c.loop-edge-test.true c.edge-item.is
    (c.in_ok-add_guard.ensures ∙ ap (λ g. with_rows c.loop-edge.rows (unchosen_parts c.args.vars g)) c.as_slice.ensures) c.loop-edge.invariant
