use Rattle.std.proofs.Common.{◌≡◌, drop}
use Rattle.dc_poly.specs.Terms.{coef}
use Rattle.dc_poly.proofs.polynomial.Poly.coef.Given as goal

abbrev pub invariant-loop-term : goal.invariant-loop-term
invariant-loop-term l = coef (drop l.term-index l.term-items) l.mono ≡ coef l.term-items l.mono
