-- The stages read exactly the certificates' texts.
use Rattle.std.specs.Prelude.{◌≡◌, ℕ, ◌+◌, List, [], ◌∷◌, ◌++◌, refl}
use Rattle.std.proofs.Common.{sym, ◌∙◌, ap, subst, append_assoc}
use Rattle.std.proofs.lemmas.List.{append-nil}
use Rattle.dc_lines.specs.Bytes.{Bytes, ended}
use Rattle.dc_lines.proofs.Readers.{Reader, Path, Completion}
use Rattle.dc_lines.proofs.Readers as readers
use Rattle.dc_cert.specs.declared.certificate.Certificate.{Certificate}
use Rattle.dc_certtext.specs.declared.stage.Stage.{Stage}
use Rattle.dc_certtext.specs.declared.stage.Stage.TheVariants.{Start, Done}
use Rattle.dc_certtext.specs.Text.{lines_of}
use Rattle.dc_certtext.specs.Limits.{HasText}
use Rattle.dc_certtext.specs.Offers.{Any}
use Rattle.dc_certtext.specs.Stages.{offers}
use Rattle.dc_certtext.proofs.Distinct.{one_way, distinct}
use Rattle.dc_certtext.proofs.SoFar.{so_far}
use Rattle.dc_certtext.proofs.Valid.{Valid}
use Rattle.dc_certtext.proofs.Kept.{kept}
use Rattle.dc_certtext.proofs.Paths.{Step, Runs, certificate_run}
use Rattle.dc_certtext.proofs.Completes.{completes}
use Rattle.dc_certtext.proofs.Feeds.{line-lacks}

-- the certificate is read at the last stage
abbrev pub Ends : Stage → Certificate → Type 0
Ends s c = s ≡ Done c

runs-kept : (s : Stage) (ls : List Bytes) (t : Stage) → Valid s → Runs s ls t → Valid t × (so_far t ≡ so_far s ++ ls)
runs-kept s [] t v r = (subst Valid r v, ap so_far (sym r) ∙ sym (append-nil (so_far s)))
runs-kept s (b ∷ bs) t v r =
    let g = kept s b r.0 v r.1 in
    let k = runs-kept r.0 bs t g.valid r.2 in
    (k.0, k.1 ∙ ap (λ l. l ++ bs) g.line ∙ append_assoc (so_far s) (b ∷ []) bs)

path_of : (c : Certificate) (text : Bytes) → HasText c text → Path Start Step Ends c text
path_of c text h = record { lines = lines_of c; last = Done c; runs = certificate_run c h.ranges; ends = refl; whole = h.whole }

read_of : (ls : List Bytes) (s : Stage) (c : Certificate) → Runs Start ls s → Ends s c → HasText c (ended ls)
read_of ls s c r e = let k = runs-kept Start ls (Done c) tt (subst (Runs Start ls) e r) in record { ranges = k.0; whole = ap ended k.1 }

completion_of : (ls : List Bytes) (s : Stage) → Runs Start ls s → Completion Step Ends s
completion_of ls s r = let c = completes s (runs-kept Start ls s tt r).0 in record { lines = c.lines; last = Done c.whole; value = c.whole; runs = c.runs; ends = refl }

one_end : (s : Stage) (c d : Certificate) → Ends s c → Ends s d → c ≡ d
one_end s c d e q = same c d (sym e ∙ q)
  where
    same : (c d : Certificate) → Done c ≡ Done d → c ≡ d
    same c d e = cc

pub certificates : Reader Start Step Ends HasText
certificates = record {
  lacks = line-lacks;
  one_way = λ s b t u h k. one_way (offers s) b t u (distinct s) h k;
  one_end = one_end;
  path = path_of;
  read = read_of;
  completes = completion_of;
}

abbrev pub Reached : Bytes → Bytes → Stage → ℕ → Type 0
Reached text rest s line = readers.Reached Start Step text rest s line

pub reached_start : (text : Bytes) → Reached text text Start 1
reached_start text = readers.reached_start Start Step text

pub reached_step : (text rest front next : Bytes) (s t : Stage) (line : ℕ) → front ++ 10 ∷ next ≡ rest → Any (offers s) front t → Reached text rest s line → Reached text next t (line + 1)
reached_step text rest front next s t line e h r = readers.reached_step Start Step text rest front next s t line e h r

pub ruleset reaching = (reached_start, reached_step)
