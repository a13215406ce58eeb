use Rattle.dc_system.proofs.FormSteps.{can_cost}
use Rattle.dc_system.proofs.composition.cost_with.Goals as goal

pub add-requires : goal.add-requires
add-requires c = can_cost c.args.places c.args.first.now c.args.second.now _ c.args.values.now c.requires.first c.requires.second c.requires.values c.requires.some c.in_ok-with.ensures
