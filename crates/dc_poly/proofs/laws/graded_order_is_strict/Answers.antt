use Rattle.dc_poly.proofs.Graded.{graded_told, Before-not, Before-trans}
use Rattle.dc_poly.proofs.laws.graded_order_is_strict.Goals as goal

pub returns : goal.returns
returns c = record { told = graded_told; strict = Before-not; transitive = Before-trans }
