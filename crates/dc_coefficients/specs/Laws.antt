-- The laws of monomials and entries.
use Rattle.std.specs.Prelude.{◌≡◌, ◌≢◌, ℕ, ◌+◌, ◌<◌, List, length, AllPairs, ℤ, pos, sum_by, unsigned_abs}
use Rattle.std.specs.List.{AllByRecursion}
use Rattle.dc_math.specs.Members.{Among}
use Rattle.dc_poly.specs.Terms.{Exponents, TermList, coef, Canonical, Before}
use Rattle.dc_lp.specs.Problems.{coefficient_in, AreEntries, weight, whole_at}
use Rattle.dc_coefficients.specs.Monomials.{monos_in}
use Rattle.dc_coefficients.specs.Entries.{entries_from}

-- the monomials that have a coefficient in some of the polynomials, and no others, in graded order;
-- that order is strict, so each stands there once
abbrev pub HasMono : Exponents → TermList → Type 0
HasMono m p = coef p m ≢ pos 0

abbrev pub SomeHas : Exponents → List TermList → Type 0
SomeHas m ps = (p : TermList) × Among p ps × HasMono m p

pub record AreMonos (ps : List TermList) (ms : List Exponents) : Type 0 where
  pub in_order : AllPairs Before ms
  pub each : (m : Exponents) → SomeHas m ps → Among m ms
  pub only : (m : Exponents) → Among m ms → SomeHas m ps

abbrev pub MonosAreThose : Type 0
MonosAreThose = (ps : List TermList) → AllByRecursion Canonical ps → AreMonos ps (monos_in ps)

-- the entries of numbers in the rows from r on: in rising rows, none of them 0, and with these numbers
pub record AreEntriesOf (r : ℕ) (zs : List ℤ) : Type 0 where
  pub entries : AreEntries r (r + length zs) (entries_from r zs)
  pub weight : weight (entries_from r zs) ≡ sum_by unsigned_abs zs
  pub there : (i : ℕ) → coefficient_in (entries_from r zs) (r + i) ≡ whole_at zs i
  pub before : (i : ℕ) → i < r → coefficient_in (entries_from r zs) i ≡ pos 0

abbrev pub EntriesHaveNumbers : Type 0
EntriesHaveNumbers = (r : ℕ) (zs : List ℤ) → AreEntriesOf r zs
