use Rattle.dc_affine.proofs.CaseLaws.{made_full}
use Rattle.dc_affine.proofs.condition.dnf.Goals as goal

pub returns-clause-atoms : goal.returns-clause-atoms
returns-clause-atoms c = made_full c.args.places c.args.c.now c.args.negated _ c.requires.below c.in_ok-cases.ensures.passes c.in_ok-cases.ensures.cases
