use Rattle.dc_clauses.specs.Sides.{keep_tests}
use Rattle.dc_clauses.proofs.Stages.{first_walk, second_walk}
use Rattle.dc_clauses.proofs.families.keep_failure.Goals as goal

pub returns-in_ok-walk-in-Passed : goal.returns-in_ok-walk-in-Passed
returns-in_ok-walk-in-Passed c =
    second_walk 5 c.in-Passed.next (keep_tests c.args.new.now c.args.new_side.now) (keep_tests c.args.old.now c.args.old_side.now) c.in_ok-next.field-0 c.in_ok-walk-in-Passed.walk c.stop.result c.in_ok-next.ensures.walk c.in-Passed.is c.in_ok-walk-in-Passed.ensures.walk
    (λ k ts h. c.stop.ensures 5 k ts h)

pub returns-in-Stopped : goal.returns-in-Stopped
returns-in-Stopped c = first_walk 5 (keep_tests c.args.new.now c.args.new_side.now) (keep_tests c.args.old.now c.args.old_side.now) c.in_ok-next.field-0 c.in-Stopped.step c.in_ok-next.ensures.walk c.in-Stopped.is
