-- What is printed means what the headline says.
use Rattle.std.proofs.Common.{◌≡◌, refl, sym, ◌∙◌, ap, subst, inr, ℕ, List, [], ◌∷◌, ◌++◌, ◌≤◌, length, Option, Some, None}
use Rattle.dc_syntax.specs.declared.tree.Proc.{Proc}
use Rattle.dc_syntax.specs.Value.{State}
use Rattle.dc_syntax.specs.Params.{params_of}
use Rattle.dc_affine.specs.declared.atom.Atom.{Atom}
use Rattle.dc_affine.specs.Atoms.{Allowed}
use Rattle.dc_lines.specs.Bytes.{Bytes, ended}
use Rattle.dc_lp.specs.Meanings.{Meaning}
use Rattle.dc_cert.specs.declared.certificate.Settings.{Settings}
use Rattle.dc_cert.specs.declared.certificate.Claim.{Claim}
use Rattle.dc_cert.specs.declared.certificate.Claim.TheVariants.{Threshold, Nothing, Vacuous}
use Rattle.dc_cert.specs.declared.certificate.Certificate.{Certificate}
use Rattle.dc_cert.specs.Claims.{claim_of}
use Rattle.dc_certtext.specs.Text.{text_of, claim_lines, whole_line, claim_line}
use Rattle.dc_certtext.specs.Limits.{limit, HasText}
use Rattle.dc_claims.specs.Duties.{Pair}
use Rattle.dc_check.specs.Claims.{ShowsClaim}
use Rattle.dc_check.specs.Pairs.{pair}
use Rattle.dc_families.specs.Graphs.{graph_of}
use Rattle.dc_families.specs.Printed as families
use Rattle.dc_parse.proofs.Said.{hold_where_true}
use Rattle.dc_session.specs.Session.{Input, candidates_for}
use Rattle.dc_session.specs.Answers.{TellsCertificate}
use Rattle.dc_session.proofs.Analyses.{are_of_greatest}
use Rattle.dc_session.proofs.Stops.{one_system}
use Rattle.dc_words.specs.Reading.{Reading, for_analyse, for_check, for_sample}
use Rattle.dc_answers.specs.declared.refusal.Refusal.{Refusal}
use Rattle.dc_answers.specs.Sources.{SaysCases, Say}
use Rattle.dc_answers.specs.Sources as sources
use Rattle.dc_answers.specs.Ends.{Output, Printed, Refused, misread, understood, stops, shows, input_of, short, long, AnalyseEnds, SampleEnds, CheckEnds, no_text, has_text, fails, holds, ReadingEnds, usage, asked}
use Rattle.dc_answers.specs.Ends as ends
use Rattle.dc_answers.specs.Headline.{IsAllowed, ClaimMeans, HasInvariants, AnalysisMeans, BeginsWith, AnalyseMeans, SampleMeans, CheckMeans, Means}
use Rattle.dc_answers.specs.Laws.{OutputsMean, PrintedIsAccepted}

-- ---- runs: an input that the condition allows is allowed by its cases
allowed_none : (cases : List (List Atom)) (v : State) → cases ≡ [] ∷ [] → Allowed cases v
allowed_none cases v e = subst (λ c. Allowed c v) (sym e) refl

pub allowed_by : (when : Option Bytes) (p : Proc) (cases : List (List Atom)) (v : State) → SaysCases when p cases → IsAllowed when p v → Allowed cases v
allowed_by None p cases v s a = allowed_none cases v s
allowed_by (Some z) p cases v s (b, h, t) = (hold_where_true (params_of p) z cases s).agree b h v ∙ t

module _ (new old : Proc) (when : Option Bytes) (cases : List (List Atom)) (said : SaysCases when new cases) where
  pub claim_means : (p : Pair) (d k : ℕ) (claim : Claim) → ShowsClaim new old cases p d k claim → ClaimMeans new old when p d k claim
  claim_means p d k (Threshold t) h =
      (λ c e u. h.bounds u.input c e (allowed_by when new cases u.input said u.allowed) u.new_run u.old_run, h.least)
  claim_means p d k Nothing h = h
  claim_means p d k Vacuous h = (λ c e u. h.none u.input c e (allowed_by when new cases u.input said u.allowed) u.new_run u.old_run, h.every)

-- what texts say together, each says
cases_said : (x y : Bytes) (when : Option Bytes) (p q : Proc) (cases : List (List Atom)) → Say x y when p q cases → SaysCases when p cases
cases_said x y when p q cases (sources.new_wrong f h e) = absurd cc
cases_said x y when p q cases (sources.old_wrong a s f h e) = absurd cc
cases_said x y when p q cases (sources.differ a b s t n e) = absurd cc
cases_said x y when p q cases (sources.when_wrong a b s f h e) = absurd cc
cases_said x y when p q cases (sources.all_say a b more s h e) =
    let m : p ≡ a = cc in
    let n : cases ≡ more = cc in
    subst (λ z. SaysCases when z cases) (sym m) (subst (SaysCases when a) (sym n) h)

-- ---- the first line of a text
begins_of : (k : Claim) (A B : List Bytes) → BeginsWith (claim_line k) (ended ((claim_lines k ++ A) ++ B))
begins_of (Threshold t) A B = (ended (whole_line t ∷ (A ++ B)), refl)
begins_of Nothing A B = (ended (A ++ B), refl)
begins_of Vacuous A B = (ended (A ++ B), refl)

begins : (c : Certificate) → BeginsWith (claim_line (claim_of c.body)) (text_of c)
begins c = begins_of (claim_of c.body) _ _

-- ---- an analysis
module _ (x y : Bytes) (when : Option Bytes) (s : Settings) (new old : Proc) (cases : List (List Atom)) (say : Say x y when new old cases) where
  abbrev i : Input
  i = input_of s new old cases

  invariants_of : (left : Meaning) (c : Certificate) → TellsCertificate i left c → HasInvariants i c
  invariants_of left c t =
      let a = t.analysis in
      let g = are_of_greatest i a t.through.analysis in
      record {
        new_system = a.new;
        old_system = a.old;
        new_folded = t.through.analysis.new;
        old_folded = t.through.analysis.old;
        new_atoms = record {
          family = a.new_part.family;
          greatest = g.new;
          questions = a.new_part.questions;
          printed = subst (λ z. families.ArePrinted (graph_of a.new) (candidates_for i new) a.new_part.family z a.new_part.questions)
              (sym t.made.new_side.part.families) t.through.analysis.new_part.printed;
        };
        old_atoms = record {
          family = a.old_part.family;
          greatest = g.old;
          questions = a.old_part.questions;
          printed = subst (λ z. families.ArePrinted (graph_of a.old) (candidates_for i old) a.old_part.family z a.old_part.questions)
              (sym t.made.old_side.part.families) t.through.analysis.old_part.printed;
        };
      }

  shown_over : (left : Meaning) (c : Certificate) → (t : TellsCertificate i left c)
      → ShowsClaim new old cases (pair t.analysis.new t.analysis.old cases c) s.degree s.products (claim_of c.body)
  shown_over left c t =
      let a = t.accepted in
      let e : a.new_system ≡ t.analysis.new = one_system c.version new a.new_system t.analysis.new a.systems.new_system (inr (t.made.version, t.through.analysis.new)) in
      let f : a.old_system ≡ t.analysis.old = one_system c.version old a.old_system t.analysis.old a.systems.old_system (inr (t.made.version, t.through.analysis.old)) in
      subst (λ z. ShowsClaim new old cases (pair z t.analysis.old cases c) s.degree s.products (claim_of c.body)) e
      (subst (λ z. ShowsClaim new old cases (pair a.new_system z cases c) s.degree s.products (claim_of c.body)) f
      (subst (λ z. ShowsClaim new old cases (pair a.new_system a.old_system cases c) z s.products (claim_of c.body)) t.made.degree
      (subst (λ z. ShowsClaim new old cases (pair a.new_system a.old_system cases c) c.degree z (claim_of c.body)) t.made.products a.shows)))

  pub analysis_means : (left : Meaning) (c : Certificate) → TellsCertificate i left c → AnalysisMeans x y when s c
  unfolding invariants_of
  analysis_means left c t = record {
    new = new;
    old = old;
    cases = cases;
    said = say;
    invariants = invariants_of left c t;
    degree = t.made.degree;
    products = t.made.products;
    means = claim_means new old when cases (cases_said x y when new old cases say) (pair t.analysis.new t.analysis.old cases c) s.degree s.products
        (claim_of c.body) (shown_over left c t);
  }

-- ---- outputs
printed_same : (o p : Output) → Printed o ≡ Printed p → o ≡ p
printed_same o p e = cc

printed_or_refused : (o : Output) (z : Refusal) → Printed o ≡ Refused z → ⊥
printed_or_refused o z e = cc

module _ (o : Output) where
  written_means : (x y : Bytes) (when : Option Bytes) (s : Settings) → AnalyseEnds x y when s (Printed o) → AnalyseMeans x y when s o.status o.bytes
  written_means x y when s (misread at w h e) = absurd (printed_or_refused o _ e)
  written_means x y when s (understood p q cases say (stops f h e)) = absurd (printed_or_refused o _ e)
  written_means x y when s (understood p q cases say (shows l c t (short text h m e))) =
      let d = printed_same o _ e in
      let b : o.bytes ≡ text = ap (λ (z : Output). z.bytes) d in
      record {
        certificate = c;
        text = subst (HasText c) (sym b) h;
        first = subst (BeginsWith (claim_line (claim_of c.body))) (h.whole ∙ sym b) (begins c);
        status_is = ap (λ (z : Output). z.status) d;
        means = analysis_means x y when s p q cases say l c t;
      }
  written_means x y when s (understood p q cases say (shows l c t (long text h m e))) = absurd (printed_or_refused o _ e)

  summed_means : (seed n : ℕ) → SampleEnds seed n (Printed o) → SampleMeans seed n o.status o.bytes
  summed_means seed n (misread at w h e) = absurd (printed_or_refused o _ e)
  summed_means seed n (understood p q cases say (stops f h e)) = absurd (printed_or_refused o _ e)
  summed_means seed n (understood p q cases say (shows l c t e)) =
      let d = printed_same o _ e in
      record {
        certificate = c;
        text = ap (λ (z : Output). z.bytes) d;
        status_is = ap (λ (z : Output). z.status) d;
        means = analysis_means _ _ _ ends.sample_settings p q cases say l c t;
      }

  checked_means : (x y z : Bytes) (when : Option Bytes) → CheckEnds x y z when (Printed o) → CheckMeans x y z when o.status o.bytes
  checked_means x y z when (no_text m h e) = absurd (printed_or_refused o _ e)
  checked_means x y z when (has_text c t l (misread at w h e)) = absurd (printed_or_refused o _ e)
  checked_means x y z when (has_text c t l (understood p q cases say (fails f m h e))) = absurd (printed_or_refused o _ e)
  checked_means x y z when (has_text c t l (understood p q cases say (holds h e))) =
      let d = printed_same o _ e in
      record {
        certificate = c;
        read = t;
        text = ap (λ (v : Output). v.bytes) d;
        status_is = ap (λ (v : Output). v.status) d;
        new = p;
        old = q;
        cases = cases;
        said = say;
        new_system = h.new_system;
        old_system = h.old_system;
        systems = h.systems;
        means = claim_means p q when cases (cases_said x y when p q cases say) (pair h.new_system h.old_system cases c) c.degree c.products
            (claim_of c.body) h.shows;
      }

  pub reading_means : (q : Reading) (texts : List Bytes) → ReadingEnds q texts (Printed o) → Means q texts o.status o.bytes
  reading_means (for_analyse n w v s) [] h = h
  reading_means (for_analyse n w v s) (x ∷ []) h = h
  reading_means (for_analyse n w v s) (x ∷ y ∷ []) h = written_means x y v s h
  reading_means (for_analyse n w v s) (x ∷ y ∷ z ∷ more) h = h
  reading_means (for_check n w c v) [] h = h
  reading_means (for_check n w c v) (x ∷ []) h = h
  reading_means (for_check n w c v) (x ∷ y ∷ []) h = h
  reading_means (for_check n w c v) (x ∷ y ∷ z ∷ []) h = checked_means x y z v h
  reading_means (for_check n w c v) (x ∷ y ∷ z ∷ u ∷ more) h = h
  reading_means (for_sample seed n) [] h = summed_means seed n h
  reading_means (for_sample seed n) (x ∷ more) h = h

pub outputs_mean : OutputsMean
outputs_mean words texts o (usage h t e) = absurd (printed_or_refused o _ e)
outputs_mean words texts o (asked q k h) = record { read = q; asked = k; means = reading_means o q texts h }

-- ---- what is printed is accepted
pub printed_is_accepted : PrintedIsAccepted
printed_is_accepted x y when s o (misread at w h e) = absurd (printed_or_refused o _ e)
printed_is_accepted x y when s o (understood p q cases say (stops f h e)) = absurd (printed_or_refused o _ e)
printed_is_accepted x y when s o (understood p q cases say (shows l c t (short text h m e))) =
    let b : o.bytes ≡ text = ap (λ (z : Output). z.bytes) (printed_same o _ e) in
    record {
      certificate = c;
      text = subst (HasText c) (sym b) h;
      ends = has_text c (subst (HasText c) (sym b) h) (subst (λ z. length z ≤ limit) (sym b) m) (understood p q cases say (holds t.accepted refl));
    }
printed_is_accepted x y when s o (understood p q cases say (shows l c t (long text h m e))) = absurd (printed_or_refused o _ e)
