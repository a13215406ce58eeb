use Rattle.dc_points.proofs.Combinations.{empty_solutions_combine, refutations_show, sup_solutions_combine}
use Rattle.dc_points.proofs.laws.problems_speak_of_atoms.Goals as goal

pub returns : goal.returns
returns c = record { empty = empty_solutions_combine; live = refutations_show; sup = sup_solutions_combine }
