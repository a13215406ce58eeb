-- The problems of lists of atoms have small numbers.
use Rattle.std.specs.Prelude.{◌≡◌, ℕ, zero, suc, ◌+◌, ◌*◌, ◌^◌, ◌<◌, ◌≤◌, Bool, true, false, eqb, ltb, if◌then◌else◌, List, [], ◌∷◌, length, ℤ, pos, negsuc, unsigned_abs, sum_by}
use Rattle.std.specs.List.{AllByRecursion}
use Rattle.std.proofs.Common.{refl, sym, ◌∙◌, ap, arith}
use Rattle.std.proofs.lemmas.List.Sums.{sum_by-cons}
use Rattle.dc_affine.specs.declared.atom.Atom.{Atom}
use Rattle.dc_affine.specs.Atoms.{IsAtom, AllFit}
use Rattle.dc_lp.specs.Problems.{whole_at}
use Rattle.dc_points.specs.Stated.{atom_number, coefficient_of, place_entry, empty_problem, sup_problem}
use Rattle.dc_lp.proofs.Tallies.{tally-first}
use Rattle.dc_endings.proofs.Starts.{sizes, IsLight}

-- ---- sums of sizes
pub sizes_small : (f : ℕ → ℤ) (b n : ℕ) → ((i : ℕ) → unsigned_abs (f i) ≤ b) → sizes f n ≤ n * b
sizes_small f b zero h = omega arith
sizes_small f b (suc n) h = more (sizes f n) (unsigned_abs (f n)) (sizes_small f b n h) (h n)
  where
    more : (x y : ℕ) → x ≤ n * b → y ≤ b → x + y ≤ suc n * b
    more x y l g = grind arith

pub sizes_listed : (xs : List ℤ) → sizes (whole_at xs) (length xs) ≡ sum_by unsigned_abs xs
sizes_listed [] = refl
sizes_listed (x ∷ xs) = tally-first (λ i. unsigned_abs (whole_at (x ∷ xs) i)) (length xs) ∙ ap (λ n. unsigned_abs x + n) (sizes_listed xs) ∙ sym (sum_by-cons unsigned_abs x xs)

-- ---- the numbers of atoms
whole_small : (xs : List ℤ) (i : ℕ) → AllFit xs → unsigned_abs (whole_at xs i) ≤ 2147483648
whole_small [] i h = omega arith
whole_small (x ∷ xs) zero h = omega (arith, h.0)
whole_small (x ∷ xs) (suc i) h = whole_small xs i h.1

record IsBounded (a : Atom) : Type 0 where
  coefficients : (i : ℕ) → unsigned_abs (coefficient_of a i) ≤ 2147483648
  constant : unsigned_abs a.c0 ≤ 2147483648

bounded : (n : ℕ) (hyps : List Atom) (j : ℕ) → AllByRecursion (IsAtom n) hyps → IsBounded (atom_number hyps j)
bounded n [] j h = record { coefficients = λ i. omega arith; constant = omega arith }
bounded n (a ∷ hyps) zero h = record { coefficients = λ i. whole_small a.coefs i h.0.coefs_within; constant = h.0.constant_within }
bounded n (a ∷ hyps) (suc j) h = bounded n hyps j h.1

module _ (k : ℕ) (hyps : List Atom) (atoms : AllByRecursion (IsAtom k) hyps) where
  place_small : (n i j : ℕ) → unsigned_abs (place_entry n hyps i j) ≤ 2147483648
  place_small n i j = by (ltb i n)
    where
      by : (b : Bool) → unsigned_abs (if b then coefficient_of (atom_number hyps j) i else pos 0) ≤ 2147483648
      by true = (bounded k hyps j atoms).coefficients i
      by false = omega arith

  column_small : (n i j : ℕ) → unsigned_abs (if eqb i n then (atom_number hyps j).c0 else place_entry n hyps i j) ≤ 2147483648
  column_small n i j = by (eqb i n)
    where
      by : (b : Bool) → unsigned_abs (if b then (atom_number hyps j).c0 else place_entry n hyps i j) ≤ 2147483648
      by true = (bounded k hyps j atoms).constant
      by false = place_small n i j

  right_small : (n i : ℕ) → unsigned_abs (if eqb i n then negsuc 0 else pos 0) ≤ 1
  right_small n i = by (eqb i n)
    where
      by : (b : Bool) → unsigned_abs (if b then negsuc 0 else pos 0) ≤ 1
      by true = omega arith
      by false = omega arith

  -- ---- the problems
  pub empty_light : (n : ℕ) → n ≤ 1024 → IsLight (empty_problem hyps n)
  empty_light n l = record {
    columns = λ j g. let t = sizes_small (λ i. (empty_problem hyps n).coefficient i j) 2147483648 (suc n) (λ i. column_small n i j) in omega arith;
    right_side = let t = sizes_small (empty_problem hyps n).right_side 1 (suc n) (λ i. right_small n i) in omega arith;
    costs = λ j g. omega arith;
  }

  pub sup_light : (form : List ℤ) → length form ≤ 1024 → sum_by unsigned_abs form < 2 ^ 70 → IsLight (sup_problem hyps form)
  sup_light form l w = record {
    columns = λ j g. let t = sizes_small (λ i. place_entry (length form) hyps i j) 2147483648 (length form) (λ i. place_small (length form) i j) in omega arith;
    right_side = let t = sizes_listed form in omega arith;
    costs = λ j g. let c = (bounded k hyps j atoms).constant in omega arith;
  }
