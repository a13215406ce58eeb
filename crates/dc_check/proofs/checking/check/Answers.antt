use Rattle.dc_check.proofs.Checked.{accepts}
use Rattle.dc_check.proofs.checking.check.Goals as goal

pub returns-in-Ok-check_steps-clause-claim : goal.returns-in-Ok-check_steps-clause-claim
returns-in-Ok-check_steps-clause-claim c =
    accepts c.args.new.now c.args.old.now c.in-Ok.found c.in-Ok-version_system.found c.args.cases.now c.args.c.now c.claim.result c.requires.new c.requires.old c.requires.params c.requires.condition c.requires.certificate
    (record { new_size = c.in-Ok.ensures.within; old_size = c.in-Ok-version_system.ensures.within; new_system = c.in-Ok.ensures.system; old_system = c.in-Ok-version_system.ensures.system })
    c.in-Ok-check_steps.ensures.ready c.in-Ok-check_steps.ensures.claims c.claim.ensures
