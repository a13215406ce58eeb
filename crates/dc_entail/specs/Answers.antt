-- What `empty` and `sup` answer: the vectors of the outcome of the stated problem, and what they show.
use Rattle.std.specs.Prelude.{◌≡◌, ◌↔◌, ℕ, List, length, ℤ, Result, Ok, Err}
use Rattle.dc_math.specs.Rational.{ℚ, ◌≤ℚ◌}
use Rattle.dc_frac.specs.declared.Frac.{Frac}
use Rattle.dc_frac.specs.Value.{value}
use Rattle.dc_affine.specs.declared.atom.Atom.{Atom}
use Rattle.dc_lp.specs.Folds.{numbers}
use Rattle.dc_lp.specs.Linear.{Linear, IsRefutation}
use Rattle.dc_lp.specs.Problems.{whole_at}
use Rattle.dc_simplex.specs.Limits.{Answer, Done, Past, Out, IsAnswer}
pub use Rattle.dc_simplex.specs.Ends.{ComesTo, IsBestAt, IsRefutedAt}
use Rattle.dc_simplex.specs.declared.SolveFault.{SolveFault}
use Rattle.dc_simplex.specs.declared.SolveFault.TheVariants.{Past128, Budget, NoMemory}
use Rattle.dc_points.specs.Points.{Point, MeetsAll, IsDead, EntailsFrom, IsNamed}
use Rattle.dc_points.specs.Stated.{rational, empty_problem, sup_problem}
use Rattle.dc_points.specs.Shown.{CombinesTo, ShowsDead, ShowsLive}
use Rattle.dc_entail.specs.declared.answer.Emptiness.{Emptiness}
use Rattle.dc_entail.specs.declared.answer.Emptiness.TheVariants.{Dead, Live}
use Rattle.dc_entail.specs.declared.answer.Sup.{Sup}
use Rattle.dc_entail.specs.declared.answer.Sup.TheVariants.{At, NoBound}

-- ---- emptiness
-- the list is dead, and the solution of the outcome combines it to -1
pub record TellsDead (hyps : List Atom) (n budget : ℕ) (mult : List Frac) : Type 0 where
  pub outcome : IsBestAt (rational (empty_problem hyps n)) budget mult
  pub shows : ShowsDead hyps n (numbers mult)
  pub dead : IsDead hyps

-- the refutation of the outcome names a point that meets the list
pub record TellsLive (hyps : List Atom) (n budget : ℕ) (y : List Frac) : Type 0 where
  pub outcome : IsRefutedAt (rational (empty_problem hyps n)) budget y
  pub shows : ShowsLive hyps n (numbers y)
  pub point : Point
  pub named : IsNamed n (numbers y) point
  pub meets : MeetsAll point hyps

abbrev pub TellsEmptiness : List Atom → ℕ → ℕ → Emptiness → Type 0
TellsEmptiness hyps n budget (Dead mult) = TellsDead hyps n budget mult.items
TellsEmptiness hyps n budget (Live y) = TellsLive hyps n budget y.items

-- ---- least bounds
-- the form is entailed exactly from v on, and the solution of the outcome combines the list to the
-- form and v
pub record TellsLeast (hyps : List Atom) (form : List ℤ) (budget : ℕ) (v : Frac)
    (mult : List Frac) : Type 0 where
  pub outcome : IsBestAt (rational (sup_problem hyps form)) budget mult
  pub combines : CombinesTo hyps (length form) (whole_at form) (value v) (numbers mult)
  pub least : (w : ℚ) → EntailsFrom hyps form w ↔ (value v ≤ℚ w)

-- the form is entailed from no number on, and the outcome has a refutation
pub record TellsNoBound (hyps : List Atom) (form : List ℤ) (budget : ℕ) (y : List Frac) : Type 0 where
  pub outcome : IsRefutedAt (rational (sup_problem hyps form)) budget y
  pub refutes : IsRefutation (rational (sup_problem hyps form)) (numbers y)
  pub none : (w : ℚ) → ¬ EntailsFrom hyps form w

abbrev pub TellsSup : List Atom → List ℤ → ℕ → Sup → Type 0
TellsSup hyps form budget (At v mult) = TellsLeast hyps form budget v mult.items
TellsSup hyps form budget (NoBound y) = TellsNoBound hyps form budget y.items

-- ---- refusals: want of memory is free
-- each other one is the answer of the problem's run
abbrev pub IsSolveFault : Linear ℚ → ℕ → SolveFault → Type 0
IsSolveFault p budget (Past128 k) = IsAnswer p budget (Past k)
IsSolveFault p budget (Budget n) = IsAnswer p budget (Out n)
IsSolveFault p budget NoMemory = Unit {0}

-- the result is of this answer of a run: its end, or its refusal
abbrev pub IsToldBy : {A : Type 0} → Answer → Result A SolveFault → Type 0
IsToldBy (Done n e t) (Ok x) = Unit {0}
IsToldBy (Past k) (Err (Past128 i)) = i ≡ k
IsToldBy (Out n) (Err (Budget i)) = i ≡ n
IsToldBy a (Err NoMemory) = Unit {0}
IsToldBy a r = ⊥

-- whatever answer the problem's run has, the result is of it
abbrev pub TellsOnly : {A : Type 0} → Linear ℚ → ℕ → Result A SolveFault → Type 0
TellsOnly p budget r = (a : Answer) → IsAnswer p budget a → IsToldBy a r
