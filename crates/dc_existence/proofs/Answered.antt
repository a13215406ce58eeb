-- Words and texts have an answer.
use Rattle.std.proofs.Common.{◌≡◌, ◌⊎◌, inl, inr, refl, sym, ap, ◌∙◌, subst, ℕ, ◌<◌, ◌≤◌, Bool, true, false, nat_lt, arith, List, [], ◌∷◌, length, Option, Some, None}
use Rattle.std.proofs.lemmas.Bool.Decides.{nat_tests}
use Rattle.std.proofs.lemmas.List.{length-take}
use Rattle.clap.specs.Walk.{Row}
use Rattle.dc_syntax.specs.declared.tree.Proc.{Proc}
use Rattle.dc_syntax.specs.Params.{params_of, HaveSameParams}
use Rattle.dc_affine.specs.declared.atom.Atom.{Atom}
use Rattle.dc_program.specs.Programs.{IsProgram, IsCondition}
use Rattle.dc_lp.specs.Meanings.{Meaning}
use Rattle.dc_lines.specs.Bytes.{Bytes}
use Rattle.dc_lines.specs.Texts.{HasOneOutcome, IsBadLine}
use Rattle.dc_lines.proofs.Outcome.{has_one_outcome}
use Rattle.dc_parse.proofs.Said.{source_is_program, condition_is}
use Rattle.dc_cert.specs.declared.certificate.Settings.{Settings}
use Rattle.dc_cert.specs.declared.certificate.Certificate.{Certificate}
use Rattle.dc_certtext.specs.Limits.{limit, HasText}
use Rattle.dc_certtext.specs.Text.{text_of}
use Rattle.dc_certtext.proofs.Machine.{certificates}
use Rattle.dc_certtext.proofs.Decisions.{certificate_judge}
use Rattle.dc_check.specs.Answers.{Accepts}
use Rattle.dc_words.specs.Reading.{Reading, for_analyse, for_check, for_sample, IsReading, to_analyse, to_check, to_sample}
use Rattle.dc_session.specs.declared.fault.AnalyseFault.{AnalyseFault}
use Rattle.dc_session.specs.Session.{Input}
use Rattle.dc_session.specs.Refusals.{IsRefusal}
use Rattle.dc_cert.specs.Settings.{AreSettings}
use Rattle.dc_session.specs.Answers.{IsInput, TellsCertificate}
use Rattle.dc_acceptance.proofs.Certificates.{made_are_certificates}
use Rattle.dc_endings.specs.Laws.{IsChecked}
use Rattle.dc_endings.proofs.Ends.{each_ends}
use Rattle.dc_endings.proofs.Checks.{each_is_checked}
use Rattle.dc_answers.specs.declared.refusal.Refusal.TheVariants as r
use Rattle.dc_answers.specs.Sources.{SaysCases, SayPair, all_say}
use Rattle.dc_answers.specs.Ends.{output, End, Printed, Refused, TextsEnd, misread, understood, InputEnds, stops, shows, of_analysis, input_of, AnalysisEnds, IsWritten, short, long, AnalyseEnds, of_check, CertificateEnds, fails, holds, CheckEnds, no_text, has_text, IsSummed, sample_settings, ReadingEnds, files_of, Names, Answers, usage, asked}
use Rattle.dc_answers.specs.Ends as ends
use Rattle.dc_existence.specs.Laws.{HasAnswer}
use Rattle.dc_existence.proofs.Told.{AreRead, are_read}

-- ---- what two texts and a condition say
pub record IsReadPair (when : Option Bytes) (p q : Proc) (cases : List (List Atom)) : Type 0 where
  pub new : IsProgram p
  pub old : IsProgram q
  pub params : HaveSameParams p q
  pub condition : IsCondition p.params cases

one_case : (n : ℕ) → IsCondition n ([] ∷ [])
one_case n = record {
  some = omega arith;
  few = omega arith;
  short = (omega arith, tt);
  atoms = (tt, tt);
}

as_many : (p : Proc) → IsProgram p → length (params_of p) ≡ p.params
as_many p h = let l = h.params in grind (arith, length-take)

cases_over : (when : Option Bytes) (p : Proc) (cases : List (List Atom)) → IsProgram p → SaysCases when p cases → IsCondition p.params cases
cases_over None p cases h s = subst (IsCondition p.params) (sym s) (one_case p.params)
cases_over (Some z) p cases h s = subst (λ n. IsCondition n cases) (as_many p h) (condition_is (params_of p) z cases s)

module _ (x y : Bytes) (when : Option Bytes) where
  read_pair : (p q : Proc) (cases : List (List Atom)) → SayPair x y p q → SaysCases when p cases → IsReadPair when p q cases
  read_pair p q cases s c =
      let new = source_is_program x p s.new_said in
      record { new = new; old = source_is_program y q s.old_said; params = s.agree; condition = cases_over when p cases new c }

  texts_end : (Of : Proc → Proc → List (List Atom) → End → Type 0) → ((p q : Proc) (cases : List (List Atom)) → IsReadPair when p q cases → (end : End) × Of p q cases end)
      → (end : End) × TextsEnd x y when Of end
  texts_end Of each = by (are_read x y when)
    where
      by : AreRead x y when → (end : End) × TextsEnd x y when Of end
      by (inl (at, w, t)) = (Refused (r.Source at w), misread at w t refl)
      by (inr (p, q, cases, s, c)) =
          let e = each p q cases (read_pair p q cases s c) in
          (e.0, understood p q cases (all_say p q cases s c refl) e.1)

-- ---- an analysis
input_end : (i : Input) (Shows : Meaning → Certificate → End → Type 0) → IsInput i
    → ((left : Meaning) (c : Certificate) → TellsCertificate i left c → (end : End) × Shows left c end) → (end : End) × InputEnds i Shows end
input_end i Shows input each = by (each_ends i input)
  where
    by : ((left : Meaning) × (c : Certificate) × TellsCertificate i left c) ⊎ ((f : AnalyseFault) × IsRefusal i f) → (end : End) × InputEnds i Shows end
    by (inl (left, c, t)) = let e = each left c t in (e.0, shows left c t e.1)
    by (inr (f, h)) = (Refused (of_analysis f), stops f h refl)

is_input : (s : Settings) (when : Option Bytes) (p q : Proc) (cases : List (List Atom)) → AreSettings s → IsReadPair when p q cases → IsInput (input_of s p q cases)
is_input s when p q cases a h = record { new = h.new; old = h.old; params = h.params; condition = h.condition; settings = a }

has_own_text : (i : Input) (left : Meaning) (c : Certificate) → IsInput i → TellsCertificate i left c → HasText c (text_of c)
has_own_text i left c input t =
    record { ranges = made_are_certificates i t.analysis t.table c (record { input = input; through = t.through; made = t.made }); whole = refl }

written : (left : Meaning) (c : Certificate) → HasText c (text_of c) → (end : End) × IsWritten left c end
written left c h = go (nat_lt limit (length (text_of c))) refl
  where
    more : nat_lt limit (length (text_of c)) ≡ true → limit < length (text_of c)
    more k = grind (arith, nat_tests)

    less : nat_lt limit (length (text_of c)) ≡ false → length (text_of c) ≤ limit
    less k = grind (arith, nat_tests)

    go : (b : Bool) → nat_lt limit (length (text_of c)) ≡ b → (end : End) × IsWritten left c end
    go true k = (_, long (text_of c) h (more k) refl)
    go false k = (_, short (text_of c) h (less k) refl)

analyse_end : (x y : Bytes) (when : Option Bytes) (s : Settings) → AreSettings s → (end : End) × AnalyseEnds x y when s end
analyse_end x y when s a =
    texts_end x y when (λ p q cases e. InputEnds (input_of s p q cases) IsWritten e)
    (λ p q cases h.
    let input = is_input s when p q cases a h in
    input_end (input_of s p q cases) IsWritten input (λ left c t. written left c (has_own_text (input_of s p q cases) left c input t)))

sample_end : (seed n : ℕ) → (end : End) × ends.SampleEnds seed n end
sample_end seed n =
    texts_end (ends.new_source seed n) (ends.old_source seed n) (Some ends.sample_condition)
    (λ p q cases e. InputEnds (input_of sample_settings p q cases) (IsSummed seed n) e)
    (λ p q cases h. input_end (input_of sample_settings p q cases) (IsSummed seed n)
    (is_input sample_settings (Some ends.sample_condition) p q cases (record { degree = omega arith; some_products = omega arith; few_products = omega arith; some_pivots = omega arith; few_pivots = omega arith }) h)
    (λ left c t. (_, refl)))

-- ---- a check
certificate_end : (c : Certificate) (z : Bytes) → HasText c z → (when : Option Bytes) (p q : Proc) (cases : List (List Atom)) → IsReadPair when p q cases
    → (end : End) × CertificateEnds c p q cases end
certificate_end c z t when p q cases h = by (each_is_checked p q cases c h.new h.old h.params h.condition t.ranges)
  where
    by : IsChecked p q cases c → (end : End) × CertificateEnds c p q cases end
    by (inl (k, a)) = (_, holds (subst (Accepts p q cases c) a.claim a) refl)
    by (inr (f, n, a)) = (Refused (of_check f), fails f n a refl)

check_end : (x y z : Bytes) (when : Option Bytes) → (end : End) × CheckEnds x y z when end
check_end x y z when = by o.some_outcome
  where
    o : HasOneOutcome HasText limit z
    o = has_one_outcome certificates certificate_judge limit z

    by : ((c : Certificate) × HasText c z × (length z ≤ limit)) ⊎ ((line : ℕ) × IsBadLine HasText limit z line) → (end : End) × CheckEnds x y z when end
    by (inl (c, t, l)) =
        let e = texts_end x y when (CertificateEnds c) (certificate_end c z t when) in
        (e.0, has_text c t l e.1)
    by (inr (line, h)) = (Refused (r.BadCertificate line), no_text line h refl)

-- ---- what words ask for
settings_within : (words : List Bytes) (n o : Bytes) (w : Option Bytes) (s : Settings) → IsReading words (for_analyse n o w s) → AreSettings s
settings_within words n o w s (to_analyse, h) = h.asked.3.limits
settings_within words n o w s (to_check, h) = absurd h.asked
settings_within words n o w s (to_sample, h) = absurd h.asked

reading_end : (words : List Bytes) (read : Reading) → IsReading words read → (texts : List Bytes) → length texts ≡ length (files_of read)
    → (end : End) × ReadingEnds read texts end
reading_end words (for_analyse n o w s) h (x ∷ y ∷ []) e = analyse_end x y w s (settings_within words n o w s h)
reading_end words (for_analyse n o w s) h [] e = absurd (omega arith)
reading_end words (for_analyse n o w s) h (x ∷ []) e = absurd (omega arith)
reading_end words (for_analyse n o w s) h (x ∷ y ∷ z ∷ more) e = absurd (omega arith)
reading_end words (for_check n o c w) h (x ∷ y ∷ z ∷ []) e = check_end x y z w
reading_end words (for_check n o c w) h [] e = absurd (omega arith)
reading_end words (for_check n o c w) h (x ∷ []) e = absurd (omega arith)
reading_end words (for_check n o c w) h (x ∷ y ∷ []) e = absurd (omega arith)
reading_end words (for_check n o c w) h (x ∷ y ∷ z ∷ v ∷ more) e = absurd (omega arith)
reading_end words (for_sample seed n) h [] e = sample_end seed n
reading_end words (for_sample seed n) h (x ∷ more) e = absurd (omega arith)

no_texts : (texts : List Bytes) → length texts ≡ 0 → texts ≡ []
no_texts [] e = refl
no_texts (x ∷ xs) e = absurd (omega arith)

pub has_answer : HasAnswer
has_answer words files texts (inl (h, f)) e = (Refused r.Usage, usage h (no_texts texts (e ∙ ap length f)) refl)
has_answer words files texts (inr (read, h, f)) e =
    let a = reading_end words read h texts (e ∙ ap length f) in
    (a.0, asked read h a.1)
