use Rattle.dc_poly.proofs.AffineValue.{scaled_one, scaled_multiple, scaled_sum, list_one, list_multiple}
use Rattle.dc_poly.proofs.laws.forms_at_rational_points.Goals as goal

pub returns : goal.returns
returns c = record {
  whole_point = scaled_one;
  any_denominator = scaled_multiple;
  of_sum = scaled_sum;
  whole_list = list_one;
  list_any_denominator = list_multiple;
}
