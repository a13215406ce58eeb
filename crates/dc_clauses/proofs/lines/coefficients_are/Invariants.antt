use Rattle.dc_lp.specs.Problems.{whole_at}
use Rattle.dc_clauses.specs.Hyps.{atoms_of}
use Rattle.dc_clauses.proofs.Parts.{same}
use Rattle.dc_clauses.proofs.Tests.{Passed}
use Rattle.dc_clauses.proofs.lines.coefficients_are.Given as goal

abbrev pub invariant-loop-place : goal.invariant-loop-place
invariant-loop-place l = Passed (same (atoms_of l.hyps) l.places l.v (whole_at l.coefs)) l.place
