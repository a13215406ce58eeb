-- Affine atoms, the conjunctions of a condition as atoms, and the first fault of a condition.
use Rattle.std.specs.Prelude.{◌≡◌, ℕ, ◌+◌, ◌≤◌, Bool, true, false, ◌&&◌, ◌||◌, ltb, if◌then◌else◌, List, [], ◌∷◌, map, length, ℤ, pos, ◌+ℤ◌, ◌*ℤ◌, ◌-ℤ◌, int_le, unsigned_abs, Some, None}
use Rattle.std.specs.List.{AllByRecursion}
use Rattle.std.specs.declared.option.Option.{Option}
use Rattle.std.specs.declared.vec.Vec.{Vec}
use Rattle.std.specs.declared.alloc.Global.{Global}
use Rattle.std.specs.Option.{option_or}
use Rattle.dc_math.specs.WholeVectors.{dot_ℤ}
use Rattle.dc_syntax.specs.declared.tree.Expr.{Expr}
use Rattle.dc_syntax.specs.declared.tree.Cond.{Cond, Cond-F, fold-Cond}
use Rattle.dc_syntax.specs.declared.tree.Cond.TheOpen as G
use Rattle.dc_syntax.specs.Value.{State}
use Rattle.dc_poly.specs.Terms.{TermList, coef, degree_of}
use Rattle.dc_poly.specs.Sums.{plus, negated, zeros}
use Rattle.dc_poly.specs.Affine.{units}
use Rattle.dc_affine.specs.declared.atom.Atom.{Atom}
use Rattle.dc_affine.specs.declared.form.FormFault.{FormFault}
use Rattle.dc_affine.specs.declared.form.FormFault.TheVariants.{NotAffine, ConditionTooWide}
use Rattle.dc_poly.specs.NormalForm.{most}
use Rattle.dc_affine.specs.Forms.{is_below, formed, fault_of, range_fault}
use Rattle.dc_affine.specs.Table.{Fact, facts_of}

-- ---- what an atom says
-- its left side at a point: a missing coefficient, and a missing coordinate, is 0
abbrev pub atom_value : Atom → List ℤ → ℤ
atom_value a x = a.c0 +ℤ dot_ℤ a.coefs x

-- and at the rational point x / q, times q
abbrev pub scaled_value : Atom → ℤ → List ℤ → ℤ
scaled_value a q x = a.c0 *ℤ q +ℤ dot_ℤ a.coefs x

abbrev pub holds_at : Atom → List ℤ → Bool
holds_at a x = int_le (pos 0) (atom_value a x)

-- a conjunction, and a list of cases
abbrev pub all_hold : List Atom → List ℤ → Bool
all_hold [] x = true
all_hold (a ∷ rest) x = holds_at a x && all_hold rest x

abbrev pub some_hold : List (List Atom) → List ℤ → Bool
some_hold [] x = false
some_hold (c ∷ cs) x = all_hold c x || some_hold cs x

-- an input is allowed by a condition that is given as cases where all atoms of some case hold
abbrev pub Allowed : List (List Atom) → State → Type 0
Allowed cases v = some_hold cases v ≡ true

-- ---- sizes
-- the largest size of a constant, which is a coefficient or 1 less than one
abbrev pub most_constant : ℕ
most_constant = most + 1

abbrev pub AllFit : List ℤ → Type 0
AllFit [] = Unit {0}
AllFit (c ∷ cs) = (unsigned_abs c ≤ most) × AllFit cs

-- an atom within its sizes over n places
pub record IsAtom (n : ℕ) (a : Atom) : Type 0 where
  pub few : length a.coefs ≤ n
  pub coefs_within : AllFit a.coefs
  pub constant_within : unsigned_abs a.c0 ≤ most_constant

-- and one that has a coefficient for each place
pub record IsFullAtom (n : ℕ) (a : Atom) : Type 0 where
  pub one_each : length a.coefs ≡ n
  pub within : IsAtom n a

abbrev pub AllCases : (Atom → Type 0) → List (List Atom) → Type 0
AllCases P = AllByRecursion (AllByRecursion P)

-- ---- the conjunctions of a condition
-- the difference of the sides of a comparison
abbrev pub gap_of : ℕ → Expr → Expr → TermList
gap_of n a b = plus (formed n a).terms (negated (formed n b).terms)

-- the atom "p - less is at least 0" of an affine polynomial p over n places
abbrev pub at_least : ℕ → TermList → ℕ → Atom
at_least n p less = record { c0 = coef p (zeros n) -ℤ pos less; coefs = map (coef p) (units n) }

abbrev pub atom_of : ℕ → Fact → Atom
atom_of n f = at_least n (gap_of n f.big f.small) f.less

-- the conjunctions of a condition, or of its negation, in the order of the table
abbrev pub conjunctions_of : ℕ → Cond → Bool → List (List Atom)
conjunctions_of n c negated = map (map (atom_of n)) (facts_of c negated)

-- ---- the faults of a condition
-- the fault of the difference of the two sides, seen alone
abbrev pub gap_fault : TermList → Option FormFault
gap_fault p = if ltb 1 (degree_of p) then Some NotAffine else range_fault p

-- of a comparison: the left side, the right side, then their difference
abbrev pub sides_fault : ℕ → Expr → Expr → Option FormFault
sides_fault n a b = option_or (fault_of n a) (option_or (fault_of n b) (gap_fault (gap_of n a b)))

-- of all comparisons, from left to right
abbrev pub comparison_step : ℕ → Cond-F (Option FormFault) → Option FormFault
comparison_step n G.True = None
comparison_step n G.False = None
comparison_step n (G.Cmp a r b) = sides_fault n a b
comparison_step n (G.Not c) = c
comparison_step n (G.And c d) = option_or c d
comparison_step n (G.Or c d) = option_or c d

abbrev pub comparison_fault : ℕ → Cond → Option FormFault
comparison_fault n c = fold-Cond (Option FormFault) (comparison_step n) c

-- more than 64 conjunctions
abbrev pub width_fault : Cond → Bool → Option FormFault
width_fault c negated = if ltb 64 (length (facts_of c negated)) then Some ConditionTooWide else None

-- after all comparisons, the number of conjunctions
abbrev pub dnf_fault : ℕ → Cond → Bool → Option FormFault
dnf_fault n c negated = option_or (comparison_fault n c) (width_fault c negated)

-- ---- the variables of a condition are below n
abbrev pub cond_below_step : ℕ → Cond-F Bool → Bool
cond_below_step n G.True = true
cond_below_step n G.False = true
cond_below_step n (G.Cmp a r b) = is_below n a && is_below n b
cond_below_step n (G.Not c) = c
cond_below_step n (G.And c d) = c && d
cond_below_step n (G.Or c d) = c && d

abbrev pub cond_is_below : ℕ → Cond → Bool
cond_is_below n c = fold-Cond Bool (cond_below_step n) c

-- ---- lists of vectors, as their items
abbrev pub cases_of : List (Vec Atom Global) → List (List Atom)
cases_of vs = map (λ v. v.items) vs
