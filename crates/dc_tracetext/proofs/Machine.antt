-- The stages read exactly the traces' texts.
use Rattle.std.specs.Prelude.{◌≡◌, ℕ, ◌+◌, ℤ, List, [], ◌∷◌, ◌++◌, codes, refl}
use Rattle.std.proofs.Common.{sym, ◌∙◌, ap, subst, append_assoc}
use Rattle.std.proofs.lemmas.List.{append-nil}
use Rattle.dc_lines.specs.Bytes.{Bytes, ended}
use Rattle.dc_lines.specs.Cuts.{Lacks}
use Rattle.dc_lines.specs.Fields.{AreFields, fields_text}
use Rattle.dc_lines.proofs.Cutting.{lacks, lacks-append, word-lacks}
use Rattle.dc_lines.proofs.Numerals.{numbers-lack}
use Rattle.dc_lines.proofs.Readers.{Reader, Path, Completion, Runs}
use Rattle.dc_lines.proofs.Readers as readers
use Rattle.dc_tracetext.specs.declared.trace.Trace.{Trace}
use Rattle.dc_tracetext.specs.declared.stage.Stage.{Stage}
use Rattle.dc_tracetext.specs.declared.stage.Stage.TheVariants.{Start, Input, Choices, Done}
use Rattle.dc_tracetext.specs.Text.{IsTrace, IsListLine, list_line, lines_of, HasText}
use Rattle.dc_tracetext.specs.Stages.{trace_of, Step}
use Rattle.dc_tracetext.proofs.Fields.{line_one}

-- the trace is read at the last stage
abbrev pub Ends : Stage → Trace → Type 0
Ends s v = s ≡ Done v

list-lacks : (word : Bytes) (zs : List ℤ) (b : Bytes) → Lacks 10 word → IsListLine word zs b → Lacks 10 b
list-lacks word zs b l h = subst (Lacks 10) h.1 (lacks-append 10 word (fields_text zs) l (numbers-lack zs))

line-lacks : (s : Stage) (b : Bytes) (t : Stage) → Step s b t → Lacks 10 b
unfolding lacks
line-lacks Start b t h = list-lacks (codes "input") h.0 b (word-lacks (codes "input") refl) h.1
line-lacks (Input xs) b t h = list-lacks (codes "choices") h.0 b (word-lacks (codes "choices") refl) h.1
line-lacks (Choices v) b t h = subst (Lacks 10) h.0 (word-lacks (codes "end") refl)
line-lacks (Done v) b t h = absurd h

one_way : (s : Stage) (b : Bytes) (t u : Stage) → Step s b t → Step s b u → t ≡ u
one_way Start b t u h k = h.2 ∙ ap Input (line_one (codes "input") h.0 k.0 b h.1 k.1) ∙ sym k.2
one_way (Input xs) b t u h k = h.2 ∙ ap (λ zs. Choices (trace_of xs zs)) (line_one (codes "choices") h.0 k.0 b h.1 k.1) ∙ sym k.2
one_way (Choices v) b t u h k = h.1 ∙ sym k.1
one_way (Done v) b t u h k = absurd h

-- ---- what is read at a stage, as lines, and what is known of it
abbrev so_far : Stage → List Bytes
so_far Start = []
so_far (Input xs) = list_line (codes "input") xs ∷ []
so_far (Choices v) = list_line (codes "input") v.input ∷ list_line (codes "choices") v.choices ∷ []
so_far (Done v) = lines_of v

abbrev Valid : Stage → Type 0
Valid Start = Unit {0}
Valid (Input xs) = AreFields xs
Valid (Choices v) = IsTrace v
Valid (Done v) = IsTrace v

kept : (s : Stage) (b : Bytes) (t : Stage) → Valid s → Step s b t → Valid t × (so_far t ≡ so_far s ++ b ∷ [])
kept Start b t v h = (subst Valid (sym h.2) h.1.0, ap so_far h.2 ∙ ap (λ l. l ∷ []) h.1.1)
kept (Input xs) b t v h = (
  subst Valid (sym h.2) (record { input = v; choices = h.1.0 }),
  ap so_far h.2 ∙ ap (λ l. list_line (codes "input") xs ∷ l ∷ []) h.1.1,
)
kept (Choices w) b t v h = (subst Valid (sym h.1) v, ap so_far h.1 ∙ ap (λ l. list_line (codes "input") w.input ∷ list_line (codes "choices") w.choices ∷ l ∷ []) h.0)
kept (Done w) b t v h = absurd h

runs-kept : (s : Stage) (ls : List Bytes) (t : Stage) → Valid s → Runs Step s ls t → Valid t × (so_far t ≡ so_far s ++ ls)
runs-kept s [] t v r = (subst Valid r v, ap so_far (sym r) ∙ sym (append-nil (so_far s)))
runs-kept s (b ∷ bs) t v r =
    let g = kept s b r.0 v r.1 in
    let k = runs-kept r.0 bs t g.0 r.2 in
    (k.0, k.1 ∙ ap (λ l. l ++ bs) g.1 ∙ append_assoc (so_far s) (b ∷ []) bs)

-- ---- the run of a trace's text, and what completes a run
list_step : (word : Bytes) (zs : List ℤ) → AreFields zs → IsListLine word zs (list_line word zs)
list_step word zs h = (h, refl)

end_run : (v : Trace) → Runs Step (Choices v) (codes "end" ∷ []) (Done v)
end_run v = (Done v, (refl, refl), refl)

choices_run : (v : Trace) → IsTrace v → Runs Step (Input v.input) (list_line (codes "choices") v.choices ∷ codes "end" ∷ []) (Done v)
choices_run v h = (Choices v, (v.choices, list_step (codes "choices") v.choices h.choices, refl), end_run v)

whole_run : (v : Trace) → IsTrace v → Runs Step Start (lines_of v) (Done v)
whole_run v h = (Input v.input, (v.input, list_step (codes "input") v.input h.input, refl), choices_run v h)

path_of : (v : Trace) (text : Bytes) → HasText v text → Path Start Step Ends v text
path_of v text h = record { lines = lines_of v; last = Done v; runs = whole_run v h.sizes; ends = refl; whole = h.whole }

read_of : (ls : List Bytes) (s : Stage) (v : Trace) → Runs Step Start ls s → Ends s v → HasText v (ended ls)
read_of ls s v r e = let k = runs-kept Start ls (Done v) tt (subst (Runs Step Start ls) e r) in record { sizes = k.0; whole = ap ended k.1 }

completes : (s : Stage) → Valid s → Completion Step Ends s
completes Start v = record { lines = lines_of (trace_of [] []); last = Done (trace_of [] []); value = trace_of [] []; runs = whole_run (trace_of [] []) (record { input = tt; choices = tt }); ends = refl }
completes (Input xs) v =
    record { lines = list_line (codes "choices") [] ∷ codes "end" ∷ []; last = Done (trace_of xs []); value = trace_of xs []; runs = choices_run (trace_of xs []) (record { input = v; choices = tt }); ends = refl }
completes (Choices w) v = record { lines = codes "end" ∷ []; last = Done w; value = w; runs = end_run w; ends = refl }
completes (Done w) v = record { lines = []; last = Done w; value = w; runs = refl; ends = refl }

one_end : (s : Stage) (v w : Trace) → Ends s v → Ends s w → v ≡ w
one_end s v w e q = same v w (sym e ∙ q)
  where
    same : (v w : Trace) → Done v ≡ Done w → v ≡ w
    same v w e = cc

pub traces : Reader Start Step Ends HasText
traces = record { lacks = line-lacks; one_way = one_way; one_end = one_end; path = path_of; read = read_of; completes = λ ls s r. completes s (runs-kept Start ls s tt r).0 }

abbrev pub Reached : Bytes → Bytes → Stage → ℕ → Type 0
Reached text rest s line = readers.Reached Start Step text rest s line

pub reached_start : (text : Bytes) → Reached text text Start 1
reached_start text = readers.reached_start Start Step text

pub reached_step : (text rest front next : Bytes) (s t : Stage) (line : ℕ) → front ++ 10 ∷ next ≡ rest → Step s front t → Reached text rest s line → Reached text next t (line + 1)
reached_step text rest front next s t line e h r = readers.reached_step Start Step text rest front next s t line e h r

pub ruleset reaching = (reached_start, reached_step)
