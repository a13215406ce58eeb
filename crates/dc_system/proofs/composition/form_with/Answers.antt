use Rattle.dc_system.proofs.FormSteps.{can_put}
use Rattle.dc_system.proofs.composition.form_with.Goals as goal

pub subst-requires : goal.subst-requires
subst-requires c = can_put c.args.places c.args.form.now c.args.values.now c.requires.form c.requires.values
