use Rattle.dc_frac.specs.Value.{value}
use Rattle.dc_dense.proofs.Flats.{IsDividing}
use Rattle.dc_dense.proofs.pivot.divide.Given as goal

abbrev pub invariant-loop-k : goal.invariant-loop-k
invariant-loop-k l = IsDividing l.initial.items l.items l.from (value l.by) l.k
