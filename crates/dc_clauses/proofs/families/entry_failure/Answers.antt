use Rattle.dc_clauses.specs.Sides.{entry_tests}
use Rattle.dc_clauses.proofs.Stages.{first_walk, second_walk}
use Rattle.dc_clauses.proofs.families.entry_failure.Goals as goal

pub returns-in_ok-walk-in-Passed : goal.returns-in_ok-walk-in-Passed
returns-in_ok-walk-in-Passed c =
    second_walk 3 c.in-Passed.next (entry_tests c.args.new.now c.args.cases.now c.args.new_side.now) (entry_tests c.args.old.now c.args.cases.now c.args.old_side.now) c.in_ok-next.field-0 c.in_ok-walk-in-Passed.walk c.stop.result c.in_ok-next.ensures.walk c.in-Passed.is c.in_ok-walk-in-Passed.ensures.walk
    (λ k ts h. c.stop.ensures 3 k ts h)

pub returns-in-Stopped : goal.returns-in-Stopped
returns-in-Stopped c = first_walk 3 (entry_tests c.args.new.now c.args.cases.now c.args.new_side.now) (entry_tests c.args.old.now c.args.cases.now c.args.old_side.now) c.in_ok-next.field-0 c.in-Stopped.step c.in_ok-next.ensures.walk c.in-Stopped.is
