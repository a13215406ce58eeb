-- What each call that is lent a system requires of it.
use Rattle.std.specs.Prelude.{◌≡◌, ℕ, ◌+◌, ◌≤◌, ◌<◌, false, [], ◌∷◌, length, slice_index_or, pos}
use Rattle.std.specs.List.{AllByRecursion}
use Rattle.dc_poly.specs.Terms.{TermList, Polynomial, IsPolynomial}
use Rattle.dc_affine.specs.declared.atom.Atom.{Atom}
use Rattle.dc_poly.specs.NormalForm.{IsNormalForm}
use Rattle.dc_affine.specs.Atoms.{IsAtom}
use Rattle.dc_system.specs.declared.edges.Edge.{Edge}
use Rattle.dc_system.specs.declared.edges.System.{System}

-- a polynomial of so many places, of a degree of at most 2 and with coefficients of at most
-- 2147483647 in size
pub record IsForm (places : ℕ) (p : Polynomial) : Type 0 where
  pub has_places : p.places ≡ places
  pub kind : IsPolynomial p
  pub narrow : IsNormalForm p.terms

-- ---- what mentions no variable at place n
abbrev pub TermsSkip : ℕ → TermList → Type 0
TermsSkip n [] = Unit {0}
TermsSkip n (t ∷ p) = (slice_index_or t.mono n 0 ≡ 0) × TermsSkip n p

abbrev pub Skips : ℕ → Polynomial → Type 0
Skips n p = TermsSkip n p.terms

abbrev pub AtomSkips : ℕ → Atom → Type 0
AtomSkips n a = slice_index_or a.coefs n (pos 0) ≡ pos 0

-- an edge that mentions no chosen value
pub record IsUnchosen (n : ℕ) (e : Edge) : Type 0 where
  pub guard : AllByRecursion (AtomSkips n) e.guard
  pub update : AllByRecursion (Skips n) e.update
  pub cost : Skips n e.cost

-- ---- an edge over n variables and the chosen value, but for its ends
pub record IsEdge (n : ℕ) (e : Edge) : Type 0 where
  pub one_each : length e.update ≡ n
  pub updates : AllByRecursion (IsForm (n + 1)) e.update
  pub cost : IsForm (n + 1) e.cost
  pub few_atoms : length e.guard ≤ 256
  pub atoms : AllByRecursion (IsAtom (n + 1)) e.guard
  pub unchosen : e.any ≡ false → IsUnchosen n e

-- an edge between the first locations
pub record IsWithin (locs : ℕ) (e : Edge) : Type 0 where
  pub from : e.from < locs
  pub to : e.to < locs

pub record IsWellFormed (s : System) : Type 0 where
  pub few_vars : s.vars ≤ 10
  pub params_first : s.params ≤ s.vars
  pub some_location : 1 ≤ s.locs
  pub few_locations : s.locs ≤ 128
  pub few_edges : length s.edges ≤ 512
  pub ends : AllByRecursion (IsWithin s.locs) s.edges
  pub edges : AllByRecursion (IsEdge s.vars) s.edges
  pub small_literals : AllByRecursion (λ k. k ≤ 2147483647) s.literals
