use Rattle.dc_sample_laws.proofs.Pairs.{are_digits, digits_read, pair_read}
use Rattle.dc_sample_laws.proofs.laws.sources_are_read.Goals as goal

pub returns-clause-sources : goal.returns-clause-sources
returns-clause-sources c = λ costs l h. digits_read costs l (are_digits costs h)

pub returns-clause-pairs : goal.returns-clause-pairs
returns-clause-pairs c = pair_read
