use Rattle.dc_clauses.specs.Hyps.{atoms_of}
use Rattle.dc_clauses.proofs.Parts.{low}
use Rattle.dc_clauses.proofs.Tests.{Passed}
use Rattle.dc_clauses.proofs.lines.is_live.Given as goal

abbrev pub invariant-loop-number : goal.invariant-loop-number
invariant-loop-number l = Passed (low (atoms_of l.hyps) l.places l.y) l.number
