use Rattle.std.proofs.Common.{◌≡◌, map, take}
use Rattle.dc_poly.specs.Terms.{coef}
use Rattle.dc_poly.specs.Affine.{units}
use Rattle.dc_affine.proofs.atom.coefficients.Given as goal

abbrev pub invariant-loop-k : goal.invariant-loop-k
invariant-loop-k l = l.coefs.items ≡ map (coef l.form.terms) (take l.k (units l.form.places))
