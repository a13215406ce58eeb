use Rattle.dc_clauses.specs.Steps.{counted, first_failure}
use Rattle.dc_clauses.specs.Sides.{entry_test, paired}
use Rattle.dc_clauses.proofs.Walks.{pairs_end_right}
use Rattle.dc_clauses.proofs.keeps.case_keep_failure.Goals as goal

pub returns : goal.returns
returns c =
    pairs_end_right (entry_test c.args.s.now c.args.case.now) c.args.atoms.now c.args.keeps.now 3 c.args.start c.loop-k.k
    (first_failure (counted 3 c.args.start (paired (entry_test c.args.s.now c.args.case.now) c.args.atoms.now c.args.keeps.now))) c.loop-k.invariant c.loop-k-test.false
