use Rattle.dc_points.proofs.Whole.{atoms_are_forms}
use Rattle.dc_points.proofs.Farkas.{least_or_none}
use Rattle.dc_points.proofs.laws.forms_have_least_bounds.Goals as goal

pub returns : goal.returns
returns c = record { atoms = atoms_are_forms; least = least_or_none }
