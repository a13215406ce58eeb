-- Sparse vectors, and what they show: only the entries of a vector's places count.
use Rattle.std.specs.Prelude.{◌≡◌, ℕ, zero, suc, ◌<◌, List, [], ◌∷◌, length, slice_index_or, ℤ, pos}
use Rattle.std.proofs.Common.{refl, sym, ◌∙◌, ap, subst, arith}
use Rattle.dc_math.specs.Rational.{ℚ, ◌*ℚ◌, ◌≤ℚ◌, ◌<ℚ◌, of_ℤ, NonNegative}
use Rattle.dc_math.specs.Sums.{sum_ℚ_same}
use Rattle.dc_frac.specs.declared.Frac.{Frac}
use Rattle.dc_frac.specs.Value.{value}
use Rattle.dc_affine.specs.declared.atom.Atom.{Atom}
use Rattle.dc_lp.specs.Folds.{numbers}
use Rattle.dc_lp.specs.Linear.{combined}
use Rattle.dc_cert.specs.Vectors.{nonzero_from, entry_of}
use Rattle.dc_cert.proofs.VectorLaws.{keeps_each}
use Rattle.dc_points.specs.Stated.{rational, atom_number, coefficient_of, empty_problem}
use Rattle.dc_points.specs.Shown.{CombinesTo, ShowsLive}

-- ---- entries
number_at : (v : List Frac) (k : ℕ) (d : Frac) → k < length v → value (slice_index_or v k d) ≡ numbers v k
number_at [] k d l = absurd (omega arith)
number_at (f ∷ v) zero d l = refl
number_at (f ∷ v) (suc k) d l = number_at v k d (omega arith)

pub entry_is : (v : List Frac) (k : ℕ) → k < length v → entry_of (nonzero_from 0 v) k ≡ numbers v k
entry_is [] k l = absurd (omega arith)
entry_is (f ∷ v) k l = keeps_each (f ∷ v) k f l ∙ number_at (f ∷ v) k f l

-- ---- combinations
module _ (hyps : List Atom) (x z : ℕ → ℚ) (same : (j : ℕ) → j < length hyps → z j ≡ x j) where
  pub combines_same : (n : ℕ) (form : ℕ → ℤ) (c : ℚ) → CombinesTo hyps n form c x → CombinesTo hyps n form c z
  combines_same n form c h = record {
    signs = λ j l. subst NonNegative (sym (same j l)) (h.signs j l);
    coefficients = λ i l. sum_ℚ_same (length hyps) _ _ (λ j k. ap (λ y. of_ℤ (coefficient_of (atom_number hyps j) i) *ℚ y) (same j k)) ∙ h.coefficients i l;
    constant = sum_ℚ_same (length hyps) _ _ (λ j k. ap (λ y. of_ℤ ((atom_number hyps j).c0) *ℚ y) (same j k)) ∙ h.constant;
  }

module _ (hyps : List Atom) (n : ℕ) (y z : ℕ → ℚ) (same : (i : ℕ) → i < suc n → z i ≡ y i) where
  pub live_same : ShowsLive hyps n y → ShowsLive hyps n z
  live_same h = record {
    columns = λ j l.
        let e : combined (rational (empty_problem hyps n)) z j ≡ combined (rational (empty_problem hyps n)) y j =
        sum_ℚ_same (suc n) _ _ (λ i k. ap (λ x. x *ℚ (rational (empty_problem hyps n)).coefficient i j) (same i k)) in
        subst (λ s. s ≤ℚ of_ℤ (pos 0)) (sym e) (h.columns j l);
    last = subst (λ s. s <ℚ of_ℤ (pos 0)) (sym (same n (omega arith))) h.last;
  }
