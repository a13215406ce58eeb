-- Which line leads from one stage of the reading to the next.
use Rattle.std.specs.Prelude.{◌≡◌, ℤ, List, codes, Option, MatchOption}
use Rattle.dc_lines.specs.Bytes.{Bytes}
use Rattle.dc_tracetext.specs.declared.trace.Trace.{Trace}
use Rattle.dc_tracetext.specs.declared.stage.Stage.{Stage}
use Rattle.dc_tracetext.specs.declared.stage.Stage.TheVariants.{Start, Input, Choices, Done}
use Rattle.dc_tracetext.specs.Text.{IsListLine}

abbrev pub trace_of : List ℤ → List ℤ → Trace
trace_of xs zs = record { input = xs; choices = zs }

abbrev pub Step : Stage → Bytes → Stage → Type 0
Step Start b t = (xs : List ℤ) × IsListLine (codes "input") xs b × (t ≡ Input xs)
Step (Input xs) b t = (zs : List ℤ) × IsListLine (codes "choices") zs b × (t ≡ Choices (trace_of xs zs))
Step (Choices v) b t = (codes "end" ≡ b) × (t ≡ Done v)
Step (Done v) b t = ⊥

-- nothing is answered where the stage takes no such line, else the stage that it leads to
abbrev pub Steps : Stage → Bytes → Option Stage → Type 0
Steps s b o = MatchOption o ((t : Stage) → ¬ Step s b t) (λ t. Step s b t)
