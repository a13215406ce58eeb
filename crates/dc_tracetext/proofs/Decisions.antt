-- At each stage it is decided whether a line is taken, and whether the text may end.
use Rattle.std.specs.Prelude.{◌≡◌, ◌⊎◌, ℤ, List, codes, refl}
use Rattle.std.proofs.Common.{inl, inr}
use Rattle.dc_lines.specs.Bytes.{Bytes}
use Rattle.dc_lines.proofs.Decided.{Decided, decide_bytes}
use Rattle.dc_lines.proofs.Outcome.{Judge}
use Rattle.dc_tracetext.specs.declared.trace.Trace.{Trace}
use Rattle.dc_tracetext.specs.declared.stage.Stage.{Stage}
use Rattle.dc_tracetext.specs.declared.stage.Stage.TheVariants.{Start, Input, Choices, Done}
use Rattle.dc_tracetext.specs.Text.{IsListLine}
use Rattle.dc_tracetext.specs.Stages.{trace_of, Step}
use Rattle.dc_tracetext.proofs.Fields.{decide_line}
use Rattle.dc_tracetext.proofs.Machine.{Ends}

-- some stage follows where the line is that of some list
list_by : (word b : Bytes) (f : List ℤ → Stage) → Decided ((t : Stage) × ((zs : List ℤ) × IsListLine word zs b × (t ≡ f zs)))
list_by word b f = by (decide_line word b)
  where
    by : Decided ((zs : List ℤ) × IsListLine word zs b) → Decided ((t : Stage) × ((zs : List ℤ) × IsListLine word zs b × (t ≡ f zs)))
    by (inl h) = inl (f h.0, (h.0, h.1, refl))
    by (inr n) = inr (λ h. n (h.1.0, h.1.1))

step_by : (s : Stage) (b : Bytes) → Decided ((t : Stage) × Step s b t)
step_by Start b = list_by (codes "input") b (λ zs. Input zs)
step_by (Input xs) b = list_by (codes "choices") b (λ zs. Choices (trace_of xs zs))
step_by (Choices v) b = by (decide_bytes (codes "end") b)
  where
    by : Decided (codes "end" ≡ b) → Decided ((t : Stage) × ((codes "end" ≡ b) × (t ≡ Done v)))
    by (inl e) = inl (Done v, (e, refl))
    by (inr n) = inr (λ h. n h.1.0)
step_by (Done v) b = inr (λ h. h.1)

finish_by : (s : Stage) → Decided ((v : Trace) × Ends s v)
finish_by Start = inr (λ h. no h.0 h.1)
  where
    no : (v : Trace) → ¬ (Start ≡ Done v)
    no v e = cc
finish_by (Input xs) = inr (λ h. no h.0 h.1)
  where
    no : (v : Trace) → ¬ (Input xs ≡ Done v)
    no v e = cc
finish_by (Choices w) = inr (λ h. no h.0 h.1)
  where
    no : (v : Trace) → ¬ (Choices w ≡ Done v)
    no v e = cc
finish_by (Done w) = inl (w, refl)

curry : {A : Type 0} {P : A → Type 0} → Decided ((x : A) × P x) → ((x : A) × P x) ⊎ ((x : A) → ¬ P x)
curry (inl h) = inl h
curry (inr n) = inr (λ x p. n (x, p))

pub trace_judge : Judge Step Ends
trace_judge = record { step = λ s b. curry (step_by s b); finish = λ s. curry (finish_by s) }
