use Rattle.std.proofs.Common.{sym, subst}
use Rattle.dc_system.specs.Shapes.{IsWellFormed}
use Rattle.dc_duties.proofs.Sides.{system_is, well_formed}
use Rattle.dc_duties.proofs.plan.Programs.system.Goals as goal

pub returns-clause-system : goal.returns-clause-system
returns-clause-system c = system_is c.args.self.now c.args.side c.plan.result.now c.plan.ensures

pub returns-clause-formed : goal.returns-clause-formed
returns-clause-formed c = subst IsWellFormed (sym (system_is c.args.self.now c.args.side c.plan.result.now c.plan.ensures)) (well_formed c.args.self.now c.requires c.args.side)
