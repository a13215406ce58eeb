-- The main problem: the least threshold that is certified, as a linear problem. An equation for each
-- monomial of each duty says that both sides of its identity have the same coefficient.
use Rattle.std.specs.Prelude.{ℕ, if◌then◌else◌, List, [], ◌∷◌, ◌++◌, map, flat_map, length, slice_get, slice_index_or, ℤ, pos, negsuc, neg_ℤ, Option, Some, None}
use Rattle.std.specs.List.{range_with_len}
use Rattle.dc_poly.specs.Terms.{Exponents, TermList, coef, Polynomial, polynomial}
use Rattle.dc_coefficients.specs.Monomials.{monos_in, all_terms}
use Rattle.dc_handelman.specs.Products.{products_of}
use Rattle.dc_lp.specs.Linear.{Linear}
use Rattle.dc_claims.specs.declared.duty.Duty.{Duty}
use Rattle.dc_claims.specs.declared.duty.Unknown.{Unknown}
use Rattle.dc_claims.specs.declared.duty.Unknown.TheVariants.{Bound}
use Rattle.dc_claims.specs.Duties.{Pair, Flags, duties_of, atoms_of, places_of, same_duty}
use Rattle.dc_claims.specs.Parts.{unknowns_of, part_of, rest_of}

-- ---- columns
-- an unknown is the difference of two; a multiplier belongs to a duty and one of its products
pub data Column : Type 0 where
  Plus : Unknown → Column
  Minus : Unknown → Column
  Times : Duty → ℕ → Column

abbrev pub both_signs : Unknown → List Column
both_signs u = Plus u ∷ Minus u ∷ []

-- the threshold is to be least
abbrev pub cost_in : Column → ℤ
cost_in (Plus Bound) = pos 1
cost_in (Minus Bound) = negsuc 0
cost_in c = pos 0

-- what is missing costs nothing
abbrev pub cost_or_zero : Option Column → ℤ
cost_or_zero None = pos 0
cost_or_zero (Some c) = cost_in c

-- ---- equations
-- an equation belongs to a duty and a monomial
pub record Equation : Type 0 where
  pub duty : Duty
  pub mono : Exponents

abbrev pub equation : Duty → Exponents → Equation
equation o m = record { duty = o; mono = m }

module _ (p : Pair) (k : ℕ) where
  abbrev pub products_at : Duty → List Polynomial
  products_at o = products_of (places_of p o) (atoms_of p o) k

  abbrev pub product_number : Duty → ℕ → Polynomial
  product_number o i = slice_index_or (products_at o) i (polynomial 0 [])

  abbrev pub multipliers_at : Duty → List Column
  multipliers_at o = map (Times o) (range_with_len 0 (length (products_at o)))

module _ (p : Pair) (d k : ℕ) where
  -- all polynomials of a duty: the parts of the unknowns, the rest, and the products
  abbrev pub polynomials_at : Duty → List TermList
  polynomials_at o =
      map (part_of p d o) (unknowns_of p d)
      ++ (rest_of p o ∷ all_terms (products_at p k o))

  abbrev pub equations_at : Duty → List Equation
  equations_at o = map (equation o) (monos_in (polynomials_at o))

  abbrev pub columns_of : Flags → List Column
  columns_of f = flat_map both_signs (unknowns_of p d) ++ flat_map (multipliers_at p k) (duties_of f)

  abbrev pub equations_of : Flags → List Equation
  equations_of f = flat_map equations_at (duties_of f)

  -- the coefficient of a column in an equation: unknowns less multiplied products are minus the rest
  abbrev pub entry_of : Equation → Column → ℤ
  entry_of q (Plus u) = coef (part_of p d q.duty u) q.mono
  entry_of q (Minus u) = neg_ℤ (coef (part_of p d q.duty u) q.mono)
  entry_of q (Times o i) =
      if same_duty q.duty o then neg_ℤ (coef (product_number p k o i).terms q.mono) else pos 0

  abbrev pub right_of : Equation → ℤ
  right_of q = neg_ℤ (coef (rest_of p q.duty) q.mono)

  -- what is missing is 0
  abbrev pub entry_or_zero : Option Equation → Option Column → ℤ
  entry_or_zero None c = pos 0
  entry_or_zero (Some q) None = pos 0
  entry_or_zero (Some q) (Some c) = entry_of q c

  abbrev pub right_or_zero : Option Equation → ℤ
  right_or_zero None = pos 0
  right_or_zero (Some q) = right_of q

  abbrev pub main_problem : Flags → Linear ℤ
  main_problem f = record {
    equations = length (equations_of f);
    columns = length (columns_of f);
    coefficient = λ i j. entry_or_zero (slice_get (equations_of f) i) (slice_get (columns_of f) j);
    right_side = λ i. right_or_zero (slice_get (equations_of f) i);
    cost = λ j. cost_or_zero (slice_get (columns_of f) j);
  }
