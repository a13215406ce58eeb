use Rattle.dc_affine.proofs.TableLaws.{facts_tell}
use Rattle.dc_affine.proofs.CaseLaws.{cases_tell}
use Rattle.dc_affine.proofs.laws.conjunctions_tell_the_condition.Goals as goal

pub returns-clause-atoms : goal.returns-clause-atoms
returns-clause-atoms c = cases_tell

pub returns-clause-facts : goal.returns-clause-facts
returns-clause-facts c = facts_tell
