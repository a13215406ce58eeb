-- The unknowns, and what each of them adds to the left side of a duty, as polynomials.
use Rattle.std.specs.Prelude.{ℕ, ◌+◌, Bool, eqb, if◌then◌else◌, List, [], ◌∷◌, ◌++◌, map, take, drop, flat_map, length, slice_index_or, pos}
use Rattle.std.specs.List.{range_with_len, list_all}
use Rattle.dc_syntax.specs.declared.tree.Side.{Side}
use Rattle.dc_syntax.specs.declared.tree.Side.TheVariants.{New, Old}
use Rattle.dc_poly.specs.Terms.{Exponents, TermList, term}
use Rattle.dc_poly.specs.Sums.{plus, negated, composed, constant_of}
use Rattle.dc_system.specs.declared.edges.Edge.{Edge}
use Rattle.dc_claims.specs.declared.duty.Duty.{Duty}
use Rattle.dc_claims.specs.declared.duty.Duty.TheVariants.{Along, AtExit, AtEntry}
use Rattle.dc_claims.specs.declared.duty.Unknown.{Unknown}
use Rattle.dc_claims.specs.declared.duty.Unknown.TheVariants.{Bound, Coefficient}
use Rattle.dc_claims.specs.Duties.{Pair, system_of, edge_at, exit_of, same_side}
use Rattle.dc_claims.specs.Claims.{monomials_at}

abbrev pub unknowns_at : Pair → ℕ → Side → ℕ → List Unknown
unknowns_at p d side l = map (Coefficient side l) (range_with_len 0 (length (monomials_at p d side)))

abbrev pub unknowns_on : Pair → ℕ → Side → List Unknown
unknowns_on p d side = flat_map (unknowns_at p d side) (range_with_len 0 (system_of p side).locs)

-- the threshold, then new's, then old's, location by location
abbrev pub unknowns_of : Pair → ℕ → List Unknown
unknowns_of p d = Bound ∷ (unknowns_on p d New ++ unknowns_on p d Old)

-- ---- a monomial as a duty has it
abbrev pub when : Bool → TermList → TermList
when b p = if b then p else []

-- before an edge: it mentions no chosen value
abbrev pub before : Exponents → TermList
before m = term (m ++ 0 ∷ []) (pos 1) ∷ []

-- after the update of an edge over n variables
abbrev pub behind : ℕ → Edge → Exponents → TermList
behind n e m = composed (n + 1) (term m (pos 1) ∷ []) e.update

abbrev pub itself : Exponents → TermList
itself m = term m (pos 1) ∷ []

-- with the locals 0: nothing where it mentions one
abbrev pub at_inputs : ℕ → Exponents → TermList
at_inputs params m = when (list_all (eqb 0) (drop params m)) (itself (take params m))

-- ---- the part of a coefficient of a side, for its monomial m at location l
-- new falls by at least the cost: before less behind; old by at most the cost: behind less before
abbrev pub part_along : Side → ℕ → Edge → ℕ → Exponents → TermList
part_along New n e l m =
    plus (when (eqb l e.from) (before m)) (negated (when (eqb l e.to) (behind n e m)))
part_along Old n e l m =
    plus (when (eqb l e.to) (behind n e m)) (negated (when (eqb l e.from) (before m)))

-- at the exit x new is at least 0, and old at most 0
abbrev pub part_at_exit : Side → ℕ → ℕ → Exponents → TermList
part_at_exit New x l m = when (eqb l x) (itself m)
part_at_exit Old x l m = negated (when (eqb l x) (itself m))

-- at the entry the threshold is at least new less old
abbrev pub part_at_entry : Side → ℕ → ℕ → Exponents → TermList
part_at_entry New params l m = negated (when (eqb l 0) (at_inputs params m))
part_at_entry Old params l m = when (eqb l 0) (at_inputs params m)

-- ---- what each of them adds to the left side of a duty
module _ (p : Pair) where
  -- the threshold, times its value
  abbrev pub bound_part : Duty → TermList
  bound_part (Along side k) = []
  bound_part (AtExit side) = []
  bound_part (AtEntry k) = constant_of (pos 1) p.new.params

  -- the coefficient of a side's potential at a location for a monomial, times its value
  abbrev pub part_at : Duty → Side → ℕ → Exponents → TermList
  part_at (Along side k) other l m =
      when (same_side side other)
      (part_along side (system_of p side).vars (edge_at (system_of p side) k) l m)
  part_at (AtExit side) other l m =
      when (same_side side other) (part_at_exit side (exit_of (system_of p side)) l m)
  part_at (AtEntry k) other l m = part_at_entry other p.new.params l m

  -- and what stands there without an unknown: the cost
  abbrev pub rest_of : Duty → TermList
  rest_of (Along New k) = negated (edge_at p.new k).cost.terms
  rest_of (Along Old k) = (edge_at p.old k).cost.terms
  rest_of (AtExit side) = []
  rest_of (AtEntry k) = []

module _ (p : Pair) (d : ℕ) where
  abbrev pub monomial_at : Side → ℕ → Exponents
  monomial_at side i = slice_index_or (monomials_at p d side) i []

  -- what an unknown adds to the left side, times its value
  abbrev pub part_of : Duty → Unknown → TermList
  part_of o Bound = bound_part p o
  part_of o (Coefficient side l i) = part_at p o side l (monomial_at side i)
