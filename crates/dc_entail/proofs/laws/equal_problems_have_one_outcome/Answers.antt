use Rattle.dc_entail.proofs.Equal.{equal_have_one_outcome, equal_have_one_answer, equal_have_one_solution, equal_have_one_refutation}
use Rattle.dc_entail.proofs.laws.equal_problems_have_one_outcome.Goals as goal

pub returns : goal.returns
returns c = record {
  outcome = equal_have_one_outcome;
  answer = equal_have_one_answer;
  solution = equal_have_one_solution;
  refutation = equal_have_one_refutation;
}
