use Rattle.dc_system.proofs.Differences.{differ_adds, differ_small}
use Rattle.dc_system.proofs.guards.difference.Goals as goal

pub add-requires : goal.add-requires
add-requires c = differ_adds c.args.big.now c.args.small.now _ c.requires c.in_ok-negation.ensures.negation

pub at_least-requires-clause-fits : goal.at_least-requires-clause-fits
at_least-requires-clause-fits c = differ_small c.args.big.now c.args.small.now _ _ c.requires c.in_ok-negation.ensures.negation c.in_ok-gap.ensures.sum
