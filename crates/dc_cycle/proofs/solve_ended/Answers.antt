use Rattle.dc_lp.specs.Problems.{linear_of}
use Rattle.dc_cycle.proofs.Ends.{ends-ok, past-ok, ends-past}
use Rattle.dc_cycle.proofs.solve_ended.Goals as goal

pub returns-in-Ok-clause-ends : goal.returns-in-Ok-clause-ends
returns-in-Ok-clause-ends g c = ends-ok (linear_of c.args.p.now) c.args.budget c.requires.enough c.in-Ok.outcome c.in-Ok.ensures.exact

pub returns-in-Ok-clause-past : goal.returns-in-Ok-clause-past
returns-in-Ok-clause-past g c = past-ok (linear_of c.args.p.now) c.args.budget c.requires.enough c.in-Ok.outcome c.in-Ok.ensures.exact

pub returns-in-Err-Past128-clause-ends : goal.returns-in-Err-Past128-clause-ends
returns-in-Err-Past128-clause-ends g c = ends-past (linear_of c.args.p.now) c.args.budget c.requires.enough c.in-Err-Past128.pivot (rw c.in-Err-Past128.field-0-is at c.in-Err-Past128.ensures.exact)
