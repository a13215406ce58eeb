-- How large the constant of a form is after an edge.
use Rattle.std.specs.Prelude.{ℕ, ◌+◌, ◌*◌, ◌<◌, ◌≤◌, ◌^◌, List, length, ℤ, unsigned_abs}
use Rattle.std.proofs.Common.{arith}
use Rattle.std.proofs.Math.Nat.{mul-le-mul}
use Rattle.dc_poly.specs.Terms.{Exponents}
use Rattle.dc_poly.specs.Sums.{zeros}
use Rattle.dc_poly.specs.NormalForm.{most}
use Rattle.dc_affine.specs.Atoms.{AllFit}
use Rattle.dc_system.specs.declared.edges.Edge.{Edge}
use Rattle.dc_system.specs.Composed.{coef_at}
use Rattle.dc_system.specs.Shapes.{IsEdge}
use Rattle.dc_moves.proofs.Forms.{coef_at-small}

-- ---- a coefficient of a sum

module _ (n : ℕ) (e : Edge) (row : List ℤ) (few : n ≤ 10) (h : IsEdge n e) (f : AllFit row) (l : length row ≤ n) where
  abbrev each : Exponents → ℤ
  each u = coef_at row e.update u

  bound : (u : Exponents) → unsigned_abs (each u) ≤ 10 * (most * most)
  bound u =
      let a = coef_at-small (n + 1) row e.update u f h.updates in
      let b : length row * (most * most) ≤ 10 * (most * most) = mul_up (length row) 10 (most * most) (omega arith) in
      omega arith
    where
      mul_up : (x y m : ℕ) → x ≤ y → x * m ≤ y * m
      mul_up x y m k = mul-le-mul k (omega arith)

  pub constant_light : unsigned_abs (each (zeros (n + 1))) < 2 ^ 100
  constant_light = let a = bound (zeros (n + 1)) in let k : 10 * (most * most) < 2 ^ 100 = omega arith in omega arith
