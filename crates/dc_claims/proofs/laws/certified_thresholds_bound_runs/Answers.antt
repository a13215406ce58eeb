use Rattle.dc_claims.proofs.Bounds as lemmas
use Rattle.dc_claims.proofs.laws.certified_thresholds_bound_runs.Goals as goal

pub returns-clause-bound : goal.returns-clause-bound
returns-clause-bound c = lemmas.certified_bound_runs

pub returns-clause-nowhere : goal.returns-clause-nowhere
returns-clause-nowhere c = lemmas.vacuous_run_nowhere
