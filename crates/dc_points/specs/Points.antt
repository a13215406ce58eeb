-- Rational points: which atoms hold there, and what a list of atoms entails.
use Rattle.std.specs.Prelude.{◌≡◌, ℕ, ◌<◌, ◌≤◌, List, length, ℤ, pos, ◌≤ℤ◌, slice_index_or}
use Rattle.std.specs.List.{AllByRecursion}
use Rattle.std.proofs.Common.{arith}
use Rattle.std.proofs.lemmas.Int.{ints}
use Rattle.dc_math.specs.WholeVectors.{dot_ℤ}
use Rattle.dc_math.specs.Rational.{ℚ, ◌+ℚ◌, ◌*ℚ◌, of_ℤ, ◌<ℚ◌, NonNegative}
use Rattle.dc_affine.specs.declared.atom.Atom.{Atom}
use Rattle.dc_affine.specs.Atoms.{scaled_value}

-- whole numbers over one denominator; a coordinate that is missing is 0
pub record Point : Type 0 where
  pub numbers : List ℤ
  pub denominator : ℤ
  pub positive : pos 1 ≤ℤ denominator

-- the left side of an atom at a point, times the denominator
abbrev pub left_at : Atom → Point → ℤ
left_at a p = scaled_value a p.denominator p.numbers

abbrev pub MeetsAt : Point → Atom → Type 0
MeetsAt p a = pos 0 ≤ℤ left_at a p

-- the point meets each of them
abbrev pub MeetsAll : Point → List Atom → Type 0
MeetsAll p hyps = AllByRecursion (MeetsAt p) hyps

-- the atom holds wherever the list does
abbrev pub Entails : List Atom → Atom → Type 0
Entails hyps a = (p : Point) → MeetsAll p hyps → MeetsAt p a

-- no point meets the list
abbrev pub IsDead : List Atom → Type 0
IsDead hyps = (p : Point) → MeetsAll p hyps → ⊥

-- the linear form and a number v more are at least 0 wherever the list holds
abbrev pub EntailsFrom : List Atom → List ℤ → ℚ → Type 0
EntailsFrom hyps form v =
    (p : Point) → MeetsAll p hyps → NonNegative (of_ℤ (dot_ℤ form p.numbers) +ℚ v *ℚ of_ℤ p.denominator)

-- each atom has at most n coefficients
abbrev pub AreOver : ℕ → List Atom → Type 0
AreOver n hyps = AllByRecursion (λ a. length a.coefs ≤ n) hyps

-- the point whose coordinate k, for k below n, is y k divided by y n, which is negative
pub record IsNamed (n : ℕ) (y : ℕ → ℚ) (p : Point) : Type 0 where
  pub last : y n <ℚ of_ℤ (pos 0)
  pub each : (k : ℕ) → k < n
      → of_ℤ (slice_index_or p.numbers k (pos 0)) *ℚ y n ≡ y k *ℚ of_ℤ p.denominator

-- a point of whole numbers
pub one_is_positive : pos 1 ≤ℤ pos 1
one_is_positive = omega (arith, ints)

abbrev pub whole_point : List ℤ → Point
whole_point x = record { numbers = x; denominator = pos 1; positive = one_is_positive }
