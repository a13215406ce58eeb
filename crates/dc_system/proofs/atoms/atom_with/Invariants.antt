use Rattle.std.proofs.Common.{◌≡◌, map, take, true}
use Rattle.dc_poly.specs.Affine.{units}
use Rattle.dc_system.specs.Composed.{coef_at, numbers_fit}
use Rattle.dc_system.proofs.atoms.atom_with.Given as goal

abbrev pub invariant-loop-k : goal.invariant-loop-k
invariant-loop-k l = record {
  read : l.all.items ≡ map (coef_at l.coefs l.values) (take l.k (units l.places));
  fits : numbers_fit l.all.items ≡ true;
}
