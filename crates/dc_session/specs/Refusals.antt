-- The counts of an analysis, and its first refusal.
use Rattle.std.specs.Prelude.{◌≡◌, ◌⊎◌, ℕ, List, [], ◌∷◌, Option, Some, None}
use Rattle.std.specs.Option.{option_and_then}
use Rattle.dc_syntax.specs.declared.tree.Proc.{Proc}
use Rattle.dc_syntax.specs.declared.tree.Side.{Side}
use Rattle.dc_syntax.specs.declared.tree.Side.TheVariants.{New, Old}
use Rattle.dc_syntax.specs.declared.tree.Count.{Count}
use Rattle.dc_math.specs.Rational.{ℚ}
use Rattle.dc_lp.specs.Tables.{Table}
use Rattle.dc_simplex.specs.Limits.{Answer, Past, Out}
use Rattle.dc_cert.specs.declared.certificate.Certificate.{Certificate}
use Rattle.dc_system.specs.declared.edges.SystemFault.{SystemFault}
use Rattle.dc_system.specs.declared.edges.SystemFault.TheVariants as system
use Rattle.dc_system.specs.Systems as systems
use Rattle.dc_rows.specs.declared.kinds.RowFault.{RowFault}
use Rattle.dc_rows.specs.declared.kinds.RowFault.TheVariants as row
use Rattle.dc_rows.specs.declared.kinds.Candidates.{Candidates}
use Rattle.dc_rows.specs.Candidate as rows
use Rattle.dc_entail.specs.declared.answer.Site.{Site}
use Rattle.dc_entail.specs.Asked.{AllDone, Refuses}
use Rattle.dc_match.specs.declared.fault.MatchFault.{MatchFault}
use Rattle.dc_match.specs.declared.fault.MatchFault.TheVariants as match
use Rattle.dc_match.specs.Answers as mains
use Rattle.dc_clauses.specs.Steps.{step}
use Rattle.dc_check.specs.Answers.{FailsAt}
use Rattle.dc_session.specs.declared.fault.PastAt.{PastAt}
use Rattle.dc_session.specs.declared.fault.PastAt.TheVariants.{Pivot, Fold}
use Rattle.dc_session.specs.declared.fault.AnalyseFault.{AnalyseFault}
use Rattle.dc_session.specs.declared.fault.AnalyseFault.TheVariants.{TooLarge, Past128, Budget, NoMemory}
use Rattle.dc_session.specs.Session.{Input, candidates_for, Analysis, IsAnalysis}
use Rattle.dc_session.specs.Session.{early_asked, session_of, pair_of, flags_of}
use Rattle.dc_session.specs.Made.{IsMade}

-- ---- counts
-- a count past its limit: of a program, or of the main problem where no side is named
pub record Excess : Type 0 where
  pub side : Option Side
  pub what : Count
  pub count : ℕ

abbrev pub excess : Option Side → Count → ℕ → Excess
excess side what n = record { side = side; what = what; count = n }

-- the first that there is
abbrev pub first_of : {A : Type 0} → List (Option A) → Option A
first_of [] = None
first_of (Some x ∷ xs) = Some x
first_of (None ∷ xs) = first_of xs

-- of a program's system: its locations, then its edges
abbrev pub of_system : Side → SystemFault → Option Excess
of_system side (system.TooLarge what n) = Some (excess (Some side) what n)
of_system side system.NoMemory = None

abbrev pub system_excess : Side → Proc → Option Excess
system_excess side p = option_and_then (of_system side) (systems.size_fault p)

-- of its candidates: the rows, then the bounds
abbrev pub of_rows : Side → RowFault → Option Excess
of_rows side (row.TooLarge what n) = Some (excess (Some side) what n)
of_rows side row.NoMemory = None

abbrev pub rows_excess : Side → Candidates → Option Excess
rows_excess side c = option_and_then (of_rows side) (rows.size_fault c)

-- before any problem is asked: the systems, then the candidates, new before old
abbrev pub early_excess : Input → Option Excess
early_excess i =
    first_of (system_excess New i.new ∷ system_excess Old i.old
    ∷ rows_excess New (candidates_for i i.new) ∷ rows_excess Old (candidates_for i i.old) ∷ [])

-- of the main problem: the columns, then the equations
abbrev pub of_main : MatchFault → Option Excess
of_main (match.TooLarge what n) = Some (excess None what n)
of_main match.NoMemory = None

abbrev pub main_excess : Input → Analysis → Option Excess
main_excess i a =
    option_and_then of_main
    (mains.size_fault (pair_of i a) i.settings.degree i.settings.products (flags_of i a))

-- ---- the steps, in order
-- the counts, the problems before the main one, the main problem's counts, the main problem, and the
-- checker's clauses over the certificate that is made

-- the analysis is as far as the counts of the main problem
pub record IsBegun (i : Input) (a : Analysis) : Type 0 where
  pub analysis : IsAnalysis i a
  pub counts : early_excess i ≡ None
  pub through : AllDone i.settings.pivots (early_asked i a)

-- no count passes its limit, and every problem comes to its end
pub record IsThrough (i : Input) (a : Analysis) : Type 0 where
  pub analysis : IsAnalysis i a
  pub counts : early_excess i ≡ None
  pub main_counts : main_excess i a ≡ None
  pub through : AllDone i.settings.pivots (session_of i a)

-- ---- the first refusal
-- of a count
abbrev pub Exceeds : Input → Excess → Type 0
Exceeds i e = (early_excess i ≡ Some e) ⊎ ((a : Analysis) × IsBegun i a × (main_excess i a ≡ Some e))

-- of a problem of the session; where that is the main one, its counts are within their limits
pub record RefusesAt (i : Input) (q : Site) (r : Answer) : Type 0 where
  pub analysis : Analysis
  pub right : IsAnalysis i analysis
  pub counts : early_excess i ≡ None
  pub main_counts : AllDone i.settings.pivots (early_asked i analysis) → main_excess i analysis ≡ None
  pub refuses : Refuses i.settings.pivots (session_of i analysis) q r

-- of a sum that the checker wants, over the certificate that is made
pub record FoldsPast (i : Input) (clause index : ℕ) : Type 0 where
  pub analysis : Analysis
  pub through : IsThrough i analysis
  pub table : Table ℚ
  pub certificate : Certificate
  pub made : IsMade i analysis table certificate
  pub fails : FailsAt i.new i.old i.cases certificate (step clause index None)

abbrev pub IsPastAt : Input → PastAt → Type 0
IsPastAt i (Pivot q k) = RefusesAt i q (Past k)
IsPastAt i (Fold clause index) = FoldsPast i clause index

-- want of memory is none
abbrev pub IsRefusal : Input → AnalyseFault → Type 0
IsRefusal i (TooLarge side what n) = Exceeds i (excess side what n)
IsRefusal i (Past128 p) = IsPastAt i p
IsRefusal i (Budget q) = RefusesAt i q (Out i.settings.pivots)
IsRefusal i NoMemory = ⊥
