-- A list of problems that are asked one after another, and the first of them that is refused.
use Rattle.std.specs.Prelude.{◌≡◌, ◌⊎◌, ◌↔◌, ℕ, List, [], ◌∷◌, ◌++◌, ℤ}
use Rattle.dc_math.specs.Rational.{ℚ}
use Rattle.dc_lp.specs.Linear.{Linear}
use Rattle.dc_lp.specs.Tables.{Table}
use Rattle.dc_pivots.specs.declared.Ending.{Ending}
use Rattle.dc_simplex.specs.Limits.{Answer, Done, Past, Out, IsAnswer}
use Rattle.dc_entail.specs.declared.answer.Site.{Site}
use Rattle.dc_points.specs.Stated.{rational}

-- a problem, and its site: which problem of an analysis it is
pub record Asked : Type 0 where
  pub site : Site
  pub problem : Linear ℤ

abbrev pub ask : Site → Linear ℤ → Asked
ask q p = record { site = q; problem = p }

-- the answer of its run within a budget of pivots
abbrev pub Answers : ℕ → Asked → Answer → Type 0
Answers budget q a = IsAnswer (rational q.problem) budget a

-- the run comes to its end
abbrev pub IsDone : ℕ → Asked → Type 0
IsDone budget q = (n : ℕ) × (e : Ending) × (t : Table ℚ) × Answers budget q (Done n e t)

abbrev pub AllDone : ℕ → List Asked → Type 0
AllDone budget [] = Unit {0}
AllDone budget (q ∷ qs) = IsDone budget q × AllDone budget qs

abbrev pub IsRefusal : Answer → Type 0
IsRefusal (Done n e t) = ⊥
IsRefusal (Past k) = Unit {0}
IsRefusal (Out n) = Unit {0}

-- the first of the problems that doesn't come to its end is asked at this site, and this is its answer
abbrev pub Refuses : ℕ → List Asked → Site → Answer → Type 0
Refuses budget [] site a = ⊥
Refuses budget (q ∷ qs) site a =
    ((site ≡ q.site) × IsRefusal a × Answers budget q a)
    ⊎ (IsDone budget q × Refuses budget qs site a)

-- the first refusal of two lists joined is that of the first one, or that of the second one where
-- the first one has none
abbrev pub RefusalsJoin : Type 0
RefusalsJoin = (budget : ℕ) (ps qs : List Asked) (site : Site) (a : Answer)
    → Refuses budget (ps ++ qs) site a
    ↔ (Refuses budget ps site a ⊎ (AllDone budget ps × Refuses budget qs site a))

-- and no list has both a first refusal and an end for each
abbrev pub RefusalExcludes : Type 0
RefusalExcludes =
    (budget : ℕ) (ps : List Asked) (site : Site) (a : Answer) → Refuses budget ps site a
    → ¬ AllDone budget ps

-- each list has one or the other
pub record HasRefusal (budget : ℕ) (ps : List Asked) : Type 0 where
  pub site : Site
  pub answer : Answer
  pub refuses : Refuses budget ps site answer

abbrev pub DoneOrRefused : Type 0
DoneOrRefused = (budget : ℕ) (ps : List Asked) → AllDone budget ps ⊎ HasRefusal budget ps
