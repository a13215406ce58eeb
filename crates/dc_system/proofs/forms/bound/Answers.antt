use Rattle.dc_system.proofs.Wider.{below_wider, bound_cause}
use Rattle.dc_system.proofs.forms.bound.Goals as goal

pub affine-requires-clause-below : goal.affine-requires-clause-below
affine-requires-clause-below c = below_wider c.args.vars c.args.e.now c.requires.below

pub memory-requires : goal.memory-requires
memory-requires c = bound_cause c.args.vars c.args.e.now _ c.requires.below c.requires.passes c.in-Err.ensures.fault
