use Rattle.std.proofs.Common.{length}
use Rattle.dc_system.specs.Folded.{Folding}
use Rattle.dc_system.proofs.folding.fold_all.Given as goal

abbrev pub invariant-folds : goal.invariant-folds
invariant-folds l = Folding l.vars l.exit l.initial.left.items l.initial.edges.items l.left.items l.edges.items

abbrev pub decreases-folds : goal.decreases-folds
decreases-folds l = length l.edges.items
