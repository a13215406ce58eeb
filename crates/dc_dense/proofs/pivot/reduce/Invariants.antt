use Rattle.dc_frac.specs.Value.{value}
use Rattle.dc_dense.proofs.Flats.{IsReducing}
use Rattle.dc_dense.proofs.pivot.reduce.Given as goal

abbrev pub invariant-loop-k : goal.invariant-loop-k
invariant-loop-k l = IsReducing l.initial.items l.items l.from l.pivot l.col (value l.factor) l.k
