-- The denominators of rows fall out of the quotients by which the leaving row is chosen.
use Rattle.std.proofs.Common.{◌≡◌, ℕ, true, false, ◌+◌, ◌<◌, List, length, refl, ◌∙◌, ap, ap₂, arith}
use Rattle.dc_math.specs.Inverse.{◌/ℚ◌}
use Rattle.dc_math.specs.Tests.{is_zero, is_positive}
use Rattle.dc_start.proofs.Ratios.{positive-nonzero}
use Rattle.dc_frac.specs.Fits.{fits}
use Rattle.dc_lp.specs.Meanings.{at}
use Rattle.dc_sparse.specs.declared.scaled.Scaled.{Scaled}
use Rattle.dc_sparse.specs.Entries.{entry_at}
use Rattle.dc_sparse.specs.Ratios.{HasRatios}
use Rattle.dc_sparse.specs.Scales.{scale_at, den_of, scaled_at}
use Rattle.dc_sparse.specs.Held.{held_at, table_of}
use Rattle.dc_sparse.proofs.Wholes.{both_parted, is_positive-/ℚ}
use Rattle.dc_sparse.proofs.Scaling.{den_of-positive, den_of-nonzero}
use Rattle.dc_sparse.proofs.Tables.{table-at}

module _ (s : Scaled) (i : ℕ) where
  held-positive : (k : ℕ) → is_positive (held_at s i k) ≡ is_positive (entry_at s.web.nodes.items i k)
  unfolding held_at scaled_at
  held-positive k = is_positive-/ℚ (entry_at s.web.nodes.items i k) (den_of (scale_at s.dens.items i)) (den_of-positive (scale_at s.dens.items i) (entry_at s.web.nodes.items i) (s.scaled.rows i))

  held-quotient : (k j : ℕ) → is_zero (entry_at s.web.nodes.items i j) ≡ false → held_at s i k /ℚ held_at s i j ≡ entry_at s.web.nodes.items i k /ℚ entry_at s.web.nodes.items i j
  unfolding held_at scaled_at
  held-quotient k j nz = both_parted (entry_at s.web.nodes.items i k) (entry_at s.web.nodes.items i j) (den_of (scale_at s.dens.items i)) (den_of-nonzero (scale_at s.dens.items i) (entry_at s.web.nodes.items i) (s.scaled.rows i)) nz

module _ (s : Scaled) (real : ℕ) (basis : List ℕ) (tall : length s.web.row_heads.items ≡ length basis + 2) (wide : length s.web.col_heads.items ≡ real + length basis + 1) (j : ℕ) (lj : j < length s.web.col_heads.items) where
  shown : (i k : ℕ) → i < length basis → k < length s.web.col_heads.items → at (table_of real basis s) i k ≡ held_at s i k
  shown i k li lk = table-at real (length s.web.row_heads.items) (length s.web.col_heads.items) basis (held_at s) tall wide i k (omega arith) lk

  quotient : (i : ℕ) → i < length basis → is_positive (entry_at s.web.nodes.items i j) ≡ true → at (table_of real basis s) i (real + length basis) /ℚ at (table_of real basis s) i j ≡ entry_at s.web.nodes.items i (real + length basis) /ℚ entry_at s.web.nodes.items i j
  quotient i li p = ap₂ ◌/ℚ◌ (shown i (real + length basis) li (omega arith)) (shown i j li lj) ∙ held-quotient s i (real + length basis) j (positive-nonzero (entry_at s.web.nodes.items i j) p)

  pub held_ratios : HasRatios (table_of real basis s) real basis s.web.nodes.items j
  held_ratios = record {
    basic = refl;
    sign = λ i li. ap is_positive (shown i j li lj) ∙ held-positive s i j;
    fits = λ i li p. ap fits (quotient i li p);
    ratio = quotient;
  }
