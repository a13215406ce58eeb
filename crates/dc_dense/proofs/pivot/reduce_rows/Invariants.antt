use Rattle.dc_dense.proofs.Flats.{AreReducing}
use Rattle.dc_dense.proofs.pivot.reduce_rows.Given as goal

abbrev pub invariant-loop-i : goal.invariant-loop-i
invariant-loop-i l = AreReducing l.initial.items l.items l.width l.row l.col l.i
