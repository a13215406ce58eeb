-- The main problem while it is built.
use Rattle.std.specs.Prelude.{◌≡◌, ℕ, ◌+◌, ◌-◌, ◌*◌, ◌≤◌, ◌^◌, List, [], ◌∷◌, ◌++◌, All, flat_map, length, map, replicate, ℤ, pos, negsuc, sum_by, unsigned_abs, Vec}
use Rattle.std.specs.declared.alloc.Global.{Global}
use Rattle.std.specs.List.{AllByRecursion}
use Rattle.dc_math.specs.Members.{Among}
use Rattle.dc_math.specs.OrderedLists.{Ordered}
use Rattle.dc_lp.specs.declared.Entry.{Entry}
use Rattle.dc_lp.specs.declared.Problem.{Problem}
use Rattle.dc_lp.specs.Problems.{weight}
use Rattle.dc_poly.specs.declared.monomial.Term.{Term}
use Rattle.dc_poly.specs.Terms.{Before, Exponents, Polynomial, coef}
use Rattle.dc_poly.specs.Sums.{negated}
use Rattle.dc_coefficients.specs.Entries.{entries_from}
use Rattle.dc_poly.specs.NormalForm.{normal_weight}
use Rattle.dc_coefficients.specs.Monomials.{monos_in}
use Rattle.dc_handelman.specs.Products.{factor_weight}
use Rattle.dc_claims.specs.declared.duty.Duty.{Duty}
use Rattle.dc_claims.specs.Duties.{Pair}
use Rattle.dc_claims.specs.Parts.{unknowns_of}
use Rattle.dc_claims.specs.Problems.{Column, both_signs, Equation, equations_at, entry_of, right_of, polynomials_at, products_at}
use Rattle.dc_coefficients.specs.declared.block.Block.{Block}
use Rattle.dc_table.specs.declared.table.Table.{Table}

-- columns as lists of entries
abbrev pub lists : List (Vec Entry Global) → List (List Entry)
lists cs = map (λ (c : Vec Entry Global). c.items) cs

-- the entries of a polynomial's coefficients at monomials, in the rows from r on, and their opposites
abbrev pub entries_of : ℕ → List Exponents → Polynomial → List Entry
entries_of r ms q = entries_from r (map (coef q.terms) ms)

abbrev pub opposite_entries : ℕ → List Exponents → Polynomial → List Entry
opposite_entries r ms q = entries_from r (map (coef (negated q.terms)) ms)

abbrev pub both_entries : ℕ → List Exponents → Polynomial → List (List Entry)
both_entries r ms q = entries_of r ms q ∷ opposite_entries r ms q ∷ []

-- each column with more entries behind it
abbrev pub extended : List (List Entry) → List (List Entry) → List (List Entry)
extended [] es = []
extended (c ∷ cs) [] = c ∷ cs
extended (c ∷ cs) (e ∷ es) = (c ++ e) ∷ extended cs es

-- ---- blocks
-- each of a polynomial's monomials stands in a list
abbrev pub AreListed : List Exponents → Polynomial → Type 0
AreListed ms q = AllByRecursion (λ (t : Term). Among t.mono ms) q.terms

pub record IsSound (b : Block) : Type 0 where
  pub in_order : Ordered Before b.monos.items
  pub parts : All (AreListed b.monos.items) b.parts.items
  pub products : All (AreListed b.monos.items) b.products.items

-- ---- tables
pub record IsEmptyTable (n : ℕ) (t : Table) : Type 0 where
  pub rows : t.rows ≡ 0
  pub unknowns : lists t.unknowns.items ≡ replicate n []
  pub products : lists t.products.items ≡ []
  pub b : t.b.items ≡ []

-- a block more
pub record IsExtended (block : Block) (old new : Table) : Type 0 where
  pub rows : new.rows ≡ old.rows + length block.monos.items
  pub unknowns : lists new.unknowns.items
      ≡ extended (lists old.unknowns.items)
      (flat_map (both_entries old.rows block.monos.items) block.parts.items)
  pub products : lists new.products.items
      ≡ lists old.products.items
      ++ map (opposite_entries old.rows block.monos.items) block.products.items
  pub b : new.b.items ≡ old.b.items ++ map (coef (negated block.rest.terms)) block.monos.items

-- ---- the problem of a table
pub record IsProblemOf (t : Table) (p : Problem) : Type 0 where
  pub rows : p.rows ≡ t.rows
  pub columns : lists p.columns.items
      ≡ lists t.unknowns.items ++ lists t.products.items
  pub b : p.b.items ≡ t.b.items
  pub cost : p.cost.items ≡ pos 1 ∷ negsuc 0 ∷ replicate (length p.columns.items - 2) (pos 0)

-- ---- what a table of some duties is
module _ (p : Pair) (d k : ℕ) where
  abbrev pub equations_in : List Duty → List Equation
  equations_in os = flat_map (equations_at p d k) os

  -- the entries of a column in the equations of some duties
  abbrev pub column_in : List Duty → Column → List Entry
  column_in os c = entries_from 0 (map (λ q. entry_of p d k q c) (equations_in os))

  abbrev pub monos_at : Duty → List Exponents
  monos_at o = monos_in (polynomials_at p d k o)

  -- the columns of multipliers, where the equations of the duties begin with a row: each has
  -- entries in its own duty alone
  abbrev pub product_columns : ℕ → List Duty → List (List Entry)
  product_columns r [] = []
  product_columns r (o ∷ os) =
      map (opposite_entries r (monos_at o)) (products_at p k o)
      ++ product_columns (r + length (monos_at o)) os

  pub record IsTable (os : List Duty) (t : Table) : Type 0 where
    pub rows : t.rows ≡ length (equations_in os)
    pub unknowns : lists t.unknowns.items ≡ map (column_in os) (flat_map both_signs (unknowns_of p d))
    pub products : lists t.products.items ≡ product_columns 0 os
    pub b : t.b.items ≡ map (right_of p d k) (equations_in os)

abbrev pub part_weight : ℕ
part_weight = 2 * normal_weight ^ 3

abbrev pub product_weight : ℕ
product_weight = factor_weight ^ 3

-- how heavy the columns and the right side of n blocks are at most
pub record IsWeighed (n : ℕ) (t : Table) : Type 0 where
  pub unknowns : AllByRecursion (λ es. weight es ≤ n * part_weight) (lists t.unknowns.items)
  pub products : AllByRecursion (λ es. weight es ≤ product_weight) (lists t.products.items)
  pub b : sum_by unsigned_abs t.b.items ≤ n * part_weight
