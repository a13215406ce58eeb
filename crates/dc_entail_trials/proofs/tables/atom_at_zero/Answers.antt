use Rattle.std.proofs.Common.{◌≡◌, [], arith, pos}
use Rattle.std.proofs.lemmas.Int.{ints}
use Rattle.dc_math.specs.WholeVectors.{dot_ℤ, dot_ℤ-nil}
use Rattle.dc_entail_trials.proofs.tables.atom_at_zero.Goals as goal

pub returns-clause-zero : goal.returns-clause-zero
returns-clause-zero c = (let e : dot_ℤ c.from_vec.result [] ≡ pos 0 = dot_ℤ-nil c.from_vec.result in omega (arith, ints))
