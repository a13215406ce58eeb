-- What vectors show of a list of atoms: that it is dead, that it is live, and that it entails an atom.
use Rattle.std.specs.Prelude.{◌≡◌, ℕ, ◌<◌, List, length, ℤ, pos, negsuc}
use Rattle.dc_math.specs.Rational.{ℚ, ◌*ℚ◌, of_ℤ, ◌≤ℚ◌, ◌<ℚ◌, NonNegative}
use Rattle.dc_math.specs.Sums.{sum_ℚ}
use Rattle.dc_affine.specs.declared.atom.Atom.{Atom}
use Rattle.dc_lp.specs.Linear.{combined}
use Rattle.dc_points.specs.Stated.{rational, atom_number, coefficient_of, empty_problem}
pub use Rattle.dc_points.specs.Flags.{IsFlag, AreFlags}

-- the coefficient at a place, and the constant, of the sum of the atoms with multipliers
abbrev pub sum_at : List Atom → (ℕ → ℚ) → ℕ → ℚ
sum_at hyps x i = sum_ℚ (length hyps) (λ j. of_ℤ (coefficient_of (atom_number hyps j) i) *ℚ x j)

abbrev pub constant_sum : List Atom → (ℕ → ℚ) → ℚ
constant_sum hyps x = sum_ℚ (length hyps) (λ j. of_ℤ ((atom_number hyps j).c0) *ℚ x j)

-- the multipliers are at least 0, and the sum is the form, at n places, with this constant
pub record CombinesTo (hyps : List Atom) (n : ℕ) (form : ℕ → ℤ) (c : ℚ) (x : ℕ → ℚ) : Type 0 where
  pub signs : (j : ℕ) → j < length hyps → NonNegative (x j)
  pub coefficients : (i : ℕ) → i < n → sum_at hyps x i ≡ of_ℤ (form i)
  pub constant : constant_sum hyps x ≡ c

-- the sum has the atom's coefficients and a constant of at most the atom's: the atom is the sum and
-- a multiple of 1 of at least 0
pub record ShowsAtom (hyps : List Atom) (n : ℕ) (a : Atom) (x : ℕ → ℚ) : Type 0 where
  pub signs : (j : ℕ) → j < length hyps → NonNegative (x j)
  pub coefficients : (i : ℕ) → i < n → sum_at hyps x i ≡ of_ℤ (coefficient_of a i)
  pub constant : constant_sum hyps x ≤ℚ of_ℤ a.c0

-- the sum is -1: the list is dead
abbrev pub ShowsDead : List Atom → ℕ → (ℕ → ℚ) → Type 0
ShowsDead hyps n x = CombinesTo hyps n (λ i. pos 0) (of_ℤ (negsuc 0)) x

-- the product with each atom's column of the empty problem is at most 0, and the last part is
-- negative: the list is live
pub record ShowsLive (hyps : List Atom) (n : ℕ) (y : ℕ → ℚ) : Type 0 where
  pub columns : (j : ℕ) → j < length hyps
      → combined (rational (empty_problem hyps n)) y j ≤ℚ of_ℤ (pos 0)
  pub last : y n <ℚ of_ℤ (pos 0)
