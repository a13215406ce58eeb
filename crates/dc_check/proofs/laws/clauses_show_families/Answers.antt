use Rattle.dc_check.proofs.Holding.{clauses_show_families}
use Rattle.dc_check.proofs.laws.clauses_show_families.Goals as goal

pub returns : goal.returns
returns c = clauses_show_families
