-- Products of affine atoms: as polynomials, and by their values.
use Rattle.std.specs.Prelude.{◌≡◌, ℕ, suc, ◌*◌, ◌^◌, ◌≤◌, ◌<◌, true, List, [], ◌∷◌, map, length, slice_index_or, ℤ, pos, ◌*ℤ◌, ◌≤ℤ◌}
use Rattle.std.specs.List.{AllByRecursion}
use Rattle.std.specs.List.Sorted.{IsPermutation}
use Rattle.dc_math.specs.Members.{Among}
use Rattle.dc_poly.specs.Terms.{Polynomial, IsPolynomial, degree_of, weight, value}
use Rattle.dc_poly.specs.Sums.{constant, variable, sum_of, product_of}
use Rattle.dc_affine.specs.declared.atom.Atom.{Atom}
use Rattle.dc_affine.specs.Atoms.{IsAtom, atom_value, all_hold}
use Rattle.dc_handelman.specs.Choices.{Choice, choices_of}

-- ---- the left side of an atom, as a polynomial of n places
-- each coefficient times its variable, from a place on
abbrev pub linear_of : ℕ → ℕ → List ℤ → Polynomial
linear_of n at [] = constant (pos 0) n
linear_of n at (c ∷ cs) =
    sum_of (product_of (constant c n) (variable at n)) (linear_of n (suc at) cs)

-- the constant and the sum of the coefficients times the variables
abbrev pub form_of : ℕ → Atom → Polynomial
form_of n a = sum_of (constant a.c0 n) (linear_of n 0 a.coefs)

-- ---- the products
-- the factor with this number; there is one for each number of a choice
abbrev pub factor_at : List Polynomial → ℕ → Polynomial
factor_at fs i = slice_index_or fs i (constant (pos 0) 0)

-- a polynomial times each factor of a choice, one after another
abbrev pub times_choice : List Polynomial → Polynomial → Choice → Polynomial
times_choice fs p [] = p
times_choice fs p (i ∷ c) = times_choice fs (product_of p (factor_at fs i)) c

-- the product of a choice, 1 without factors
abbrev pub product_at : ℕ → List Atom → Choice → Polynomial
product_at n hyps c = times_choice (map (form_of n) hyps) (constant (pos 1) n) c

-- the products of at most k of the atoms: fewer factors first, then by their numbers
abbrev pub products_of : ℕ → List Atom → ℕ → List Polynomial
products_of n hyps k = map (product_at n hyps) (choices_of (length hyps) k)

-- ---- sizes
-- the largest weight of a factor: a constant and at most 11 coefficients
abbrev pub factor_weight : ℕ
factor_weight = 12 * 2147483648

-- of n places and of at most k factors
pub record IsProduct (n k : ℕ) (p : Polynomial) : Type 0 where
  pub places : p.places ≡ n
  pub kind : IsPolynomial p
  pub low : degree_of p.terms ≤ k
  pub light : weight p.terms ≤ factor_weight ^ k

-- ---- values
-- the atom with this number
abbrev pub atom_at : List Atom → ℕ → Atom
atom_at hyps i = slice_index_or hyps i (record { c0 = pos 0; coefs = [] })

-- the product of the values of the factors
abbrev pub choice_value : List Atom → Choice → List ℤ → ℤ
choice_value hyps [] xs = pos 1
choice_value hyps (i ∷ c) xs = atom_value (atom_at hyps i) xs *ℤ choice_value hyps c xs

-- each factor is at least 0
abbrev pub FactorsHold : List Atom → Choice → List ℤ → Type 0
FactorsHold hyps [] xs = Unit {0}
FactorsHold hyps (i ∷ c) xs =
    (pos 0 ≤ℤ atom_value (atom_at hyps i) xs) × FactorsHold hyps c xs

-- the value of a product at a point is the product of the values of its factors
abbrev pub HaveValues : Type 0
HaveValues = (n : ℕ) (hyps : List Atom) (c : Choice) (xs : List ℤ) → AllByRecursion (IsAtom n) hyps
    → value (product_at n hyps c).terms xs ≡ choice_value hyps c xs

-- and at least 0 where they are
abbrev pub StayAboveZero : Type 0
StayAboveZero = (n : ℕ) (hyps : List Atom) (c : Choice) (xs : List ℤ) → AllByRecursion (IsAtom n) hyps
    → FactorsHold hyps c xs → pos 0 ≤ℤ value (product_at n hyps c).terms xs

-- each product is at least 0 where all the atoms hold
abbrev pub HoldTogether : Type 0
HoldTogether =
    (n k : ℕ) (hyps : List Atom) (xs : List ℤ) → AllByRecursion (IsAtom n) hyps
    → all_hold hyps xs ≡ true
    → AllByRecursion (λ (p : Polynomial). pos 0 ≤ℤ value p.terms xs) (products_of n hyps k)

-- ---- the order of the factors
-- a product does not depend on the order of its factors
abbrev pub OrderIsFree : Type 0
OrderIsFree = (n : ℕ) (hyps : List Atom) (c d : Choice) → AllByRecursion (IsAtom n) hyps
    → IsPermutation c d
    → product_at n hyps c ≡ product_at n hyps d

-- at most k numbers below n, in any order, are a choice of the list in another order
abbrev pub EachIsSorted : Type 0
EachIsSorted = (n k : ℕ) (c : Choice) → length c ≤ k → AllByRecursion (λ i. i < n) c
    → (d : Choice) × IsPermutation c d × Among d (choices_of n k)

-- so the product of at most k of the atoms, in any order, stands among the products
abbrev pub EachProductStands : Type 0
EachProductStands = (n k : ℕ) (hyps : List Atom) (c : Choice) → AllByRecursion (IsAtom n) hyps
    → length c ≤ k
    → AllByRecursion (λ i. i < length hyps) c → Among (product_at n hyps c) (products_of n hyps k)
