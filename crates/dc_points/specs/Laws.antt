-- Farkas' lemma for lists of atoms: what is so of rational points is shown by vectors, and back.
use Rattle.std.specs.Prelude.{◌≡◌, ◌↔◌, ◌⊎◌, ℕ, ◌≤◌, true, List, length, ℤ}
use Rattle.dc_math.specs.Rational.{ℚ, of_ℤ, ◌≤ℚ◌}
use Rattle.dc_affine.specs.declared.atom.Atom.{Atom}
use Rattle.dc_affine.specs.Atoms.{all_hold}
use Rattle.dc_lp.specs.Linear.{cost_of, IsSolution, IsRefutation}
use Rattle.dc_lp.specs.Problems.{whole_at}
use Rattle.dc_points.specs.Points.{Point, MeetsAll, AreOver, IsDead, Entails, EntailsFrom, IsNamed, whole_point}
use Rattle.dc_points.specs.Stated.{rational, coefficient_of, empty_problem, sup_problem}
use Rattle.dc_points.specs.Shown.{CombinesTo, ShowsAtom, ShowsDead, ShowsLive}

-- ---- the two problems in the words of atoms
-- a solution of the empty problem is multipliers that show the list dead
abbrev pub EmptySolutionsCombine : Type 0
EmptySolutionsCombine = (hyps : List Atom) (n : ℕ) (x : ℕ → ℚ)
    → IsSolution (rational (empty_problem hyps n)) x ↔ ShowsDead hyps n x

-- and a refutation is a vector that shows it live
abbrev pub RefutationsShow : Type 0
RefutationsShow = (hyps : List Atom) (n : ℕ) (y : ℕ → ℚ)
    → IsRefutation (rational (empty_problem hyps n)) y ↔ ShowsLive hyps n y

-- a solution of the problem of a form is multipliers that combine the list to the form and the
-- solution's cost
abbrev pub SupSolutionsCombine : Type 0
SupSolutionsCombine = (hyps : List Atom) (form : List ℤ) (x : ℕ → ℚ)
    → IsSolution (rational (sup_problem hyps form)) x
    ↔ CombinesTo hyps (length form) (whole_at form) (cost_of (rational (sup_problem hyps form)) x) x

-- ---- dead and live lists
-- a list is dead exactly where multipliers show it
abbrev pub DeadAreShown : Type 0
DeadAreShown = (hyps : List Atom) (n : ℕ) → AreOver n hyps
    → IsDead hyps ↔ ((x : ℕ → ℚ) × ShowsDead hyps n x)

-- a vector that shows a list live names a point that meets it; and where a point meets a list, a
-- vector shows it live
abbrev pub LiveAreNamed : Type 0
LiveAreNamed = (hyps : List Atom) (n : ℕ) (y : ℕ → ℚ) → AreOver n hyps
    → ShowsLive hyps n y → (p : Point) × IsNamed n y p × MeetsAll p hyps

abbrev pub MetAreShown : Type 0
MetAreShown = (hyps : List Atom) (n : ℕ) (p : Point) → AreOver n hyps
    → MeetsAll p hyps → (y : ℕ → ℚ) × ShowsLive hyps n y

-- each list is dead, or a point that meets it is had
abbrev pub DeadOrMet : Type 0
DeadOrMet = (hyps : List Atom) (n : ℕ) → AreOver n hyps → IsDead hyps ⊎ ((p : Point) × MeetsAll p hyps)

-- ---- entailed atoms
-- the easy direction: what multipliers show is entailed
abbrev pub ShownAreEntailed : Type 0
ShownAreEntailed =
    (hyps : List Atom) (n : ℕ) (a : Atom) (x : ℕ → ℚ) → AreOver n hyps → length a.coefs ≤ n
    → ShowsAtom hyps n a x → Entails hyps a

-- the hard direction: what a list entails that isn't dead, multipliers show
abbrev pub EntailedAreShown : Type 0
EntailedAreShown = (hyps : List Atom) (n : ℕ) (a : Atom) → AreOver n hyps → length a.coefs ≤ n
    → ¬ IsDead hyps → Entails hyps a → (x : ℕ → ℚ) × ShowsAtom hyps n a x

-- multipliers that combine a list to an atom's form and at most its constant show the atom
abbrev pub CombinationsShow : Type 0
CombinationsShow = (hyps : List Atom) (n : ℕ) (a : Atom) (c : ℚ) (x : ℕ → ℚ)
    → CombinesTo hyps n (coefficient_of a) c x → c ≤ℚ of_ℤ a.c0 → ShowsAtom hyps n a x

-- ---- entailed forms
-- an atom is entailed exactly where its form is from its constant on
abbrev pub AtomsAreForms : Type 0
AtomsAreForms = (hyps : List Atom) (form : List ℤ) (w : ℤ)
    → Entails hyps (record { c0 = w; coefs = form }) ↔ EntailsFrom hyps form (of_ℤ w)

-- the form is entailed exactly from the least number on, and multipliers combine the list to both
pub record HasLeast (hyps : List Atom) (form : List ℤ) : Type 0 where
  pub number : ℚ
  pub multipliers : ℕ → ℚ
  pub combines : CombinesTo hyps (length form) (whole_at form) number multipliers
  pub least : (v : ℚ) → EntailsFrom hyps form v ↔ (number ≤ℚ v)

-- a form has such a number over a list that isn't dead, or is entailed from none
abbrev pub LeastOrNone : Type 0
LeastOrNone = (hyps : List Atom) (form : List ℤ) → AreOver (length form) hyps → ¬ IsDead hyps
    → HasLeast hyps form ⊎ ((v : ℚ) → ¬ EntailsFrom hyps form v)

-- ---- points of whole numbers
-- atoms hold at whole numbers exactly where the point of these meets them
abbrev pub WholePointsMeet : Type 0
WholePointsMeet =
    (hyps : List Atom) (x : List ℤ) → MeetsAll (whole_point x) hyps ↔ (all_hold hyps x ≡ true)
