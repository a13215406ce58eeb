use Rattle.dc_system.proofs.Wider.{below_wider, form_cause}
use Rattle.dc_system.proofs.forms.form.Goals as goal

pub normal-requires-clause-below : goal.normal-requires-clause-below
normal-requires-clause-below c = below_wider c.args.vars c.args.e.now c.requires.below

pub memory-requires : goal.memory-requires
memory-requires c = form_cause c.args.vars c.args.e.now _ c.requires.below c.requires.passes c.in-Err.ensures.fault
