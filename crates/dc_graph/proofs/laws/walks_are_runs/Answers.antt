use Rattle.dc_graph.proofs.Back.{walk_to_run, run_to_walk}
use Rattle.dc_graph.proofs.laws.walks_are_runs.Goals as goal

pub returns : goal.returns
returns c = λ A s x t. ((λ w. walk_to_run A s t x w), λ r. run_to_walk A s t x r)
