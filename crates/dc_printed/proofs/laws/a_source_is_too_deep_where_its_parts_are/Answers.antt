use Rattle.dc_printed.proofs.Deep.{shallow_few, few_shallow}
use Rattle.dc_printed.proofs.laws.a_source_is_too_deep_where_its_parts_are.Goals as goal

pub returns : goal.returns
returns c = λ text ts a t d. (λ s. shallow_few text ts a t d s, λ h. few_shallow text ts a d h)
