use Rattle.dc_families.proofs.Folds.{folds_are_graphs}
use Rattle.dc_families.proofs.Folds as lemmas
use Rattle.dc_families.proofs.laws.systems_are_graphs.Goals as goal

pub returns : goal.returns
returns c = record { whole = lemmas.systems_are_graphs; folded = folds_are_graphs }
