use Rattle.dc_system.proofs.Wider.{cond_below_wider, cases_cause}
use Rattle.dc_system.proofs.forms.cases.Goals as goal

pub dnf-requires-clause-below : goal.dnf-requires-clause-below
dnf-requires-clause-below c = cond_below_wider c.args.vars c.args.c.now c.requires.below

pub memory-requires : goal.memory-requires
memory-requires c = cases_cause c.args.vars c.args.c.now c.args.negated _ c.requires.below c.requires.passes c.in-Err.ensures.fault
