use Rattle.dc_points.proofs.Combinations.{combinations_show}
use Rattle.dc_points.proofs.Farkas.{shown_are_entailed, entailed_are_shown}
use Rattle.dc_points.proofs.laws.entailed_is_shown.Goals as goal

pub returns : goal.returns
returns c = record { entailed = shown_are_entailed; shown = entailed_are_shown; combined = combinations_show }
