use Rattle.std.proofs.Common.{◌≡◌, ℕ}
use Rattle.dc_sparse.specs.Scales.{AreFractions}
use Rattle.dc_sparse.specs.Held.{held_at, KeepsSizes}
use Rattle.dc_sparse.proofs.scaled.Scaled.gather_all.Given as goal

abbrev pub invariant-loop-row : goal.invariant-loop-row
invariant-loop-row l = record {
  fractions : AreFractions l.self.dens.items l.row;
  entries : (i k : ℕ) → held_at l.self i k ≡ held_at l.initial.self i k;
  sizes : KeepsSizes l.initial.self.web l.self.web;
}
