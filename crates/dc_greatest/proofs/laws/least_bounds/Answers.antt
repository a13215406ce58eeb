use Rattle.dc_greatest.proofs.Shapes.{families_have_shapes}
use Rattle.dc_greatest.proofs.Bridges.{shapes_are_families, one_shape_each, lists_are_least}
use Rattle.dc_greatest.proofs.laws.least_bounds.Goals as goal

pub returns : goal.returns
returns c = record { whole = families_have_shapes; families = shapes_are_families; one = one_shape_each; lists = lists_are_least }
