use Rattle.dc_affine.proofs.FormLaws.{form_value}
use Rattle.dc_affine.proofs.laws.forms_have_values.Goals as goal

pub returns : goal.returns
returns c = λ n e s b. form_value n e b s
