use Rattle.std.proofs.Common.{◌≡◌, ◌≤◌, ◌*◌, drop, ◌+ℤ◌}
use Rattle.std.specs.Prelude.{unsigned_abs}
use Rattle.dc_poly.specs.NormalForm.{most}
use Rattle.dc_system.specs.Composed.{coef_at}
use Rattle.dc_system.proofs.atoms.combination.Given as goal

abbrev pub invariant-loop-k : goal.invariant-loop-k
invariant-loop-k l = record {
  so_far : l.sum +ℤ coef_at (drop l.k l.coefs) (drop l.k l.values) l.mono ≡ coef_at l.coefs l.values l.mono;
  small : unsigned_abs l.sum ≤ l.k * (most * most);
}
