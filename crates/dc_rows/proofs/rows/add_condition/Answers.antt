use Rattle.std.proofs.Common.{refl, ◌∷◌, []}
use Rattle.dc_rows.specs.Rows.{linear_parts}
use Rattle.dc_rows.proofs.Steps.{items_step, items_done, parts-cons}
use Rattle.dc_rows.proofs.rows.add_condition.Goals as goal

pub returns : goal.returns
returns c = items_done (linear_parts c.args.vars) refl _ _ _ _ c.loop-atom-test.false c.loop-atom.invariant

pub loop-atom-preserved : goal.loop-atom-preserved
loop-atom-preserved c =
    items_step (linear_parts c.args.vars) (λ a. linear_parts c.args.vars (a ∷ [])) (parts-cons c.args.vars) _ c.args.when.now _ _ _ _ c.loop-atom-test.true c.atom-item.is c.in_ok-add_atom.ensures c.loop-atom.invariant
