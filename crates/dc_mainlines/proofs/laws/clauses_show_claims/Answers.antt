use Rattle.dc_mainlines.proofs.Mains.{main_problems_are_paired, steps_show_claims}
use Rattle.dc_mainlines.proofs.laws.clauses_show_claims.Goals as goal

pub returns-clause-paired : goal.returns-clause-paired
returns-clause-paired c = main_problems_are_paired

pub returns-clause-claims : goal.returns-clause-claims
returns-clause-claims c = steps_show_claims
