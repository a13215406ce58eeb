-- The laws of generated sources, each as the contract of a function of `laws` states it.
use Rattle.std.specs.Prelude.{ℕ, ◌≤◌, List, length}
use Rattle.std.specs.List.{All}
use Rattle.dc_syntax.specs.declared.tree.Proc.{Proc}
use Rattle.dc_syntax.specs.Params.{params_of, HaveSameParams}
use Rattle.dc_parse.specs.declared.fault.Fault.{Fault}
use Rattle.dc_parse.specs.Outcomes.{says, refuses}
use Rattle.dc_parse.specs.Answers.{SourceOutcome, ConditionOutcome}
use Rattle.dc_sample.specs.Sample.{new_costs, old_costs, source_text}
use Rattle.dc_sample_laws.specs.Procedures.{sample_proc, sample_condition, sample_cases}

-- ---- the sources of a seed and a count, and what they say
abbrev pub new_source : ℕ → ℕ → List ℕ
new_source seed count = source_text (new_costs seed count)

abbrev pub old_source : ℕ → ℕ → List ℕ
old_source seed count = source_text (old_costs seed count)

abbrev pub new_proc : ℕ → ℕ → Proc
new_proc seed count = sample_proc (new_costs seed count)

abbrev pub old_proc : ℕ → ℕ → Proc
old_proc seed count = sample_proc (old_costs seed count)

-- ---- what is read
-- the source of at most 8 costs, each of one digit, says its procedure
abbrev pub SourcesAreRead : Type 0
SourcesAreRead =
    (costs : List ℕ) → length costs ≤ 8 → All (λ c. c ≤ 9) costs
    → SourceOutcome (source_text costs) (says (sample_proc costs))

-- both sources of a pair say procedures, with the same parameters
pub record PairIsRead (seed count : ℕ) : Type 0 where
  pub new : SourceOutcome (new_source seed count) (says (new_proc seed count))
  pub old : SourceOutcome (old_source seed count) (says (old_proc seed count))
  pub agree : HaveSameParams (new_proc seed count) (old_proc seed count)

abbrev pub PairsAreRead : Type 0
PairsAreRead = (seed count : ℕ) → count ≤ 8 → PairIsRead seed count

-- over the parameters of such a procedure the condition says its case
abbrev pub ConditionIsRead : Type 0
ConditionIsRead =
    (costs : List ℕ)
    → ConditionOutcome (params_of (sample_proc costs)) sample_condition (says sample_cases)

-- ---- nothing is wrong
-- neither source is refused, whatever they say has the same parameters, and over these the condition
-- is not refused
pub record HasNoFault (seed count : ℕ) : Type 0 where
  pub new : (f : Fault) → ¬ SourceOutcome (new_source seed count) (refuses f)
  pub old : (f : Fault) → ¬ SourceOutcome (old_source seed count) (refuses f)
  pub agree : (p q : Proc) → SourceOutcome (new_source seed count) (says p)
      → SourceOutcome (old_source seed count) (says q) → HaveSameParams p q
  pub condition : (p : Proc) → SourceOutcome (new_source seed count) (says p)
      → (f : Fault) → ¬ ConditionOutcome (params_of p) sample_condition (refuses f)

abbrev pub HaveNoFault : Type 0
HaveNoFault = (seed count : ℕ) → count ≤ 8 → HasNoFault seed count
