-- What potentials certify: a threshold, the least one, none, or every one.
--
-- A certificate is a potential of each side, which is a polynomial at each location, and for each duty
-- a number of at least 0 for each product of its atoms. All numbers are rational, of any size; what is
-- said of states is said of all whole numbers.
use Rattle.std.specs.Prelude.{◌≡◌, ℕ, ◌<◌, List, map, length, ℤ, pos}
use Rattle.dc_math.specs.Rational.{ℚ, ◌+ℚ◌, ◌-ℚ◌, of_ℤ, ◌≤ℚ◌, NonNegative}
use Rattle.dc_math.specs.Vectors.{dot}
use Rattle.dc_lp.specs.Tables.{made}
use Rattle.dc_syntax.specs.declared.tree.Side.{Side}
use Rattle.dc_syntax.specs.declared.tree.Side.TheVariants.{New, Old}
use Rattle.dc_poly.specs.Terms.{Exponents, value}
use Rattle.dc_poly.specs.Sums.{values}
use Rattle.dc_poly.specs.Monomials.{monomials_of}
use Rattle.dc_system.specs.declared.edges.Edge.{Edge}
use Rattle.dc_handelman.specs.Choices.{choices_of}
use Rattle.dc_handelman.specs.Products.{choice_value}
use Rattle.dc_template.specs.Templates.{template_value}
use Rattle.dc_claims.specs.declared.duty.Duty.{Duty}
use Rattle.dc_claims.specs.declared.duty.Duty.TheVariants.{Along, AtExit, AtEntry}
use Rattle.dc_claims.specs.Duties.{Pair, system_of, edge_at, exit_of, atoms_of, places_of, IsOwed}

-- the coefficients of a side's potential, by location and by number of a monomial
abbrev pub Potential : Type 0
Potential = ℕ → ℕ → ℚ

-- the multipliers, by duty and by number of a product
abbrev pub Multipliers : Type 0
Multipliers = Duty → ℕ → ℚ

-- ---- left sides, for potentials of degree d
module _ (p : Pair) (d : ℕ) where
  -- the monomials of a side's potential
  abbrev pub monomials_at : Side → List Exponents
  monomials_at side = monomials_of (system_of p side).vars d

  -- a potential at a location and a state; a number that is missing is 0
  abbrev pub potential_value : Side → Potential → ℕ → List ℤ → ℚ
  potential_value side f l x =
      template_value (made (length (monomials_at side)) (f l)) (monomials_at side) x

  -- how much it falls along an edge, from the state and chosen value x
  abbrev pub fall : Side → Potential → Edge → List ℤ → ℚ
  fall side f e x = potential_value side f e.from x -ℚ potential_value side f e.to (values e.update x)

  abbrev pub price : Edge → List ℤ → ℚ
  price e x = of_ℤ (value e.cost.terms x)

  -- what is owed to be at least 0: new falls by at least the cost and ends at 0 or above; old falls by
  -- at most the cost and ends at 0 or below; on an input, where missing locals are 0, the threshold is
  -- at least the difference of the two
  abbrev pub left_value : ℚ → Potential → Potential → Duty → List ℤ → ℚ
  left_value t φ χ (Along New n) x = fall New φ (edge_at p.new n) x -ℚ price (edge_at p.new n) x
  left_value t φ χ (AtExit New) x = potential_value New φ (exit_of p.new) x
  left_value t φ χ (Along Old n) x = price (edge_at p.old n) x -ℚ fall Old χ (edge_at p.old n) x
  left_value t φ χ (AtExit Old) x = of_ℤ (pos 0) -ℚ potential_value Old χ (exit_of p.old) x
  left_value t φ χ (AtEntry n) x = t -ℚ potential_value New φ 0 x +ℚ potential_value Old χ 0 x

-- ---- products of at most k of a duty's atoms
module _ (p : Pair) (k : ℕ) where
  -- their values
  abbrev pub product_values : Duty → List ℤ → List ℚ
  product_values o x =
      map (λ c. of_ℤ (choice_value (atoms_of p o) c x)) (choices_of (length (atoms_of p o)) k)

  abbrev pub products_count : Duty → ℕ
  products_count o = length (choices_of (length (atoms_of p o)) k)

-- ---- certificates
module _ (p : Pair) (d k : ℕ) where
  -- a duty is met: at each point of its places its left side is the sum of its products' values with
  -- multipliers of at least 0
  pub record IsMet (t : ℚ) (φ χ : Potential) (multipliers : Multipliers) (o : Duty) : Type 0 where
    pub signs : (i : ℕ) → i < products_count p k o → NonNegative (multipliers o i)
    pub identity : (x : List ℤ) → length x ≡ places_of p o
        → left_value p d t φ χ o x
        ≡ dot (made (products_count p k o) (multipliers o)) (product_values p k o x)

  -- each duty that is owed is met
  pub record Certifies (t : ℚ) (φ χ : Potential) (multipliers : Multipliers) : Type 0 where
    pub meets : (o : Duty) → IsOwed p o → IsMet t φ χ multipliers o

  -- ---- claims
  abbrev pub IsCertified : ℚ → Type 0
  IsCertified t =
      (φ : Potential) × (χ : Potential) × (multipliers : Multipliers) × Certifies t φ χ multipliers

  -- some certificate shows t, and none shows less
  pub record IsLeast (t : ℚ) : Type 0 where
    pub certified : IsCertified t
    pub least : (u : ℚ) → IsCertified u → t ≤ℚ u

  abbrev pub HasNoCertificate : Type 0
  HasNoCertificate = (t : ℚ) → ¬ IsCertified t

  -- every threshold has a certificate
  abbrev pub IsVacuous : Type 0
  IsVacuous = (t : ℚ) → IsCertified t
