-- Words and texts have one answer.
use Rattle.std.proofs.Common.{◌≡◌, ◌<◌, ◌≤◌, sym, ◌∙◌, ap, subst, inl, inr, arith, ℕ, Bool, true, false, List, [], ◌∷◌, length, Option, Some, None}
use Rattle.std.specs.Prelude.{codes}
use Rattle.dc_syntax.specs.declared.tree.Proc.{Proc}
use Rattle.dc_affine.specs.declared.atom.Atom.{Atom}
use Rattle.dc_lines.specs.Bytes.{Bytes}
use Rattle.dc_lines.specs.Texts.{HasOneOutcome}
use Rattle.dc_lines.proofs.Outcome.{has_one_outcome}
use Rattle.dc_lp.specs.Meanings.{Meaning}
use Rattle.dc_syntax.specs.declared.tree.Count.TheVariants as count
use Rattle.dc_cert.specs.declared.certificate.Certificate.{Certificate}
use Rattle.dc_cert.specs.Claims.{claim_of}
use Rattle.dc_certtext.specs.Limits.{limit, HasText}
use Rattle.dc_certtext.proofs.Machine.{certificates}
use Rattle.dc_certtext.proofs.Decisions.{certificate_judge}
use Rattle.dc_words.specs.Reading.{Reading, for_analyse, for_check, for_sample, takes_words, IsReading}
use Rattle.dc_session.specs.Session.{Input}
use Rattle.dc_session.proofs.Stops.{one_refusal, one_certificate, certificates_exclude}
use Rattle.dc_answers.specs.declared.refusal.Text.{Text}
use Rattle.dc_answers.specs.declared.refusal.Wrong.{Wrong}
use Rattle.dc_answers.specs.declared.refusal.Refusal.TheVariants as r
use Rattle.dc_answers.specs.Sources.{Told, says_pair, is_wrong}
use Rattle.dc_answers.specs.Claims.{claim_status}
use Rattle.dc_answers.specs.Ends.{Output, output, End, Printed, Refused, TextsEnd, misread, understood, InputEnds, stops, shows, of_analysis, input_of, AnalysisEnds, IsWritten, short, long, AnalyseEnds, of_check, CheckEnds, no_text, has_text, SampleEnds, IsSummed, ReadingEnds, files_of, Names, Answers, usage, asked}
use Rattle.dc_answers.specs.Ends as ends
use Rattle.dc_answers.specs.Ends.{CertificateEnds, fails, holds}
use Rattle.dc_answers.specs.Laws.{OneList, OneAnswer}
use Rattle.dc_words.proofs.Unique.{one_reading}
use Rattle.dc_words.proofs.Found.{reading_taken}
use Rattle.dc_answers.proofs.Texts.{one_told}
use Rattle.dc_answers.proofs.Checks.{one_check_fault, accepts_or_faulty}

-- ---- words
taken_or_not : (b : Bool) → b ≡ false → b ≡ true → ⊥
taken_or_not b h k = cc

pub usage_or_asked : (words : List Bytes) (read : Reading) → takes_words words ≡ false → IsReading words read → ⊥
usage_or_asked words read h k = taken_or_not (takes_words words) h (reading_taken words read k)

pub one_list : OneList
one_list words files more (inl (h, e)) (inl (k, f)) = e ∙ sym f
one_list words files more (inl (h, e)) (inr (q, k, f)) = absurd (usage_or_asked words q h k)
one_list words files more (inr (q, h, e)) (inl (k, f)) = absurd (usage_or_asked words q k h)
one_list words files more (inr (q, h, e)) (inr (p, k, f)) = e ∙ ap files_of (one_reading words q p h k) ∙ sym f

-- ---- texts
wrong_end : Told → End
wrong_end (is_wrong at w) = Refused (r.Source at w)
wrong_end (says_pair p q cases) = Refused r.NoMemory

wrong_or_said : (at : Text) (w : Wrong) (p q : Proc) (cases : List (List Atom)) → ◌≡◌ {A = Told} (is_wrong at w) (says_pair p q cases) → ⊥
wrong_or_said at w p q cases e = cc

said_of : (End → Type 0) → (Proc → Proc → List (List Atom) → End → Type 0) → Told → End → Type 0
said_of Other Of (is_wrong at w) end = Other end
said_of Other Of (says_pair p q cases) end = Of p q cases end

module _ (x y : Bytes) (when : Option Bytes) (Of : Proc → Proc → List (List Atom) → End → Type 0) where
  pub one_texts_end : ((p q : Proc) (cases : List (List Atom)) (a b : End) → Of p q cases a → Of p q cases b → a ≡ b)
      → (a b : End) → TextsEnd x y when Of a → TextsEnd x y when Of b → a ≡ b
  unfolding wrong_end said_of
  one_texts_end one a b (misread at w h e) (misread by v k d) =
      e ∙ ap wrong_end (one_told x y when (is_wrong at w) (is_wrong by v) h k) ∙ sym d
  one_texts_end one a b (misread at w h e) (understood p q cases k o) =
      absurd (wrong_or_said at w p q cases (one_told x y when (is_wrong at w) (says_pair p q cases) h k))
  one_texts_end one a b (understood p q cases h o) (misread by v k d) =
      absurd (wrong_or_said by v p q cases (one_told x y when (is_wrong by v) (says_pair p q cases) k h))
  one_texts_end one a b (understood p q cases h o) (understood s t more k u) =
      let e = one_told x y when (says_pair p q cases) (says_pair s t more) h k in
      one p q cases a b o (subst (λ z. said_of (λ n. Unit {0}) Of z b) (sym e) u)

-- ---- an analysis
module _ (i : Input) (Shows : Meaning → Certificate → End → Type 0) where
  pub one_input_end : ((left : Meaning) (c : Certificate) (a b : End) → Shows left c a → Shows left c b → a ≡ b)
      → (a b : End) → InputEnds i Shows a → InputEnds i Shows b → a ≡ b
  one_input_end one a b (stops f h e) (stops g k d) = e ∙ ap (λ z. Refused (of_analysis z)) (one_refusal i f g h k) ∙ sym d
  one_input_end one a b (stops f h e) (shows l c k s) = absurd (certificates_exclude i l c f k h)
  one_input_end one a b (shows l c h s) (stops f k d) = absurd (certificates_exclude i l c f h k)
  one_input_end one a b (shows l c h s) (shows m d k t) =
      let e = one_certificate i l m c d h k in
      one l c a b s (subst (λ z. Shows z c b) (sym e.0) (subst (λ z. Shows m z b) (sym e.1) t))

pub one_written : (left : Meaning) (c : Certificate) (a b : End) → IsWritten left c a → IsWritten left c b → a ≡ b
one_written left c a b (short t h l e) (short u k m d) = e ∙ ap (λ z. Printed (output (claim_status (claim_of c.body)) z (Some left))) (sym h.whole ∙ k.whole) ∙ sym d
one_written left c a b (short t h l e) (long u k m d) = absurd (over t u (sym h.whole ∙ k.whole) l m)
  where
    over : (t u : Bytes) → t ≡ u → length t ≤ limit → limit < length u → ⊥
    over t u e l m = let f : length t ≡ length u = ap length e in omega arith
one_written left c a b (long t h l e) (short u k m d) = absurd (over u t (sym k.whole ∙ h.whole) m l)
  where
    over : (t u : Bytes) → t ≡ u → length t ≤ limit → limit < length u → ⊥
    over t u e l m = let f : length t ≡ length u = ap length e in omega arith
one_written left c a b (long t h l e) (long u k m d) = e ∙ ap (λ (z : Bytes). Refused (r.TooLarge None count.Certificate (length z))) (sym h.whole ∙ k.whole) ∙ sym d

-- ---- a check
module _ (c : Certificate) where
  pub one_certificate_end : (p q : Proc) (cases : List (List Atom)) (a b : End) → CertificateEnds c p q cases a → CertificateEnds c p q cases b → a ≡ b
  one_certificate_end p q cases a b (fails f n h e) (fails g m k d) =
      e ∙ ap (λ z. Refused (of_check z)) (one_check_fault p q cases c f g n m h k) ∙ sym d
  one_certificate_end p q cases a b (fails f n h e) (holds k d) = absurd (accepts_or_faulty p q cases c _ f n k h)
  one_certificate_end p q cases a b (holds h e) (fails f n k d) = absurd (accepts_or_faulty p q cases c _ f n h k)
  one_certificate_end p q cases a b (holds h e) (holds k d) = e ∙ sym d

outcome_of : (z : Bytes) → HasOneOutcome HasText limit z
outcome_of z = has_one_outcome certificates certificate_judge limit z

refused_line : ℕ → End
refused_line n = Refused (r.BadCertificate n)

pub one_check_end : (x y z : Bytes) (when : Option Bytes) (a b : End) → CheckEnds x y z when a → CheckEnds x y z when b → a ≡ b
unfolding refused_line
one_check_end x y z when a b (no_text m h e) (no_text n k d) = e ∙ ap refused_line ((outcome_of z).one_line m n h k) ∙ sym d
one_check_end x y z when a b (no_text m h e) (has_text c t l o) = absurd ((outcome_of z).not_both c m t l h)
one_check_end x y z when a b (has_text c t l o) (no_text m h e) = absurd ((outcome_of z).not_both c m t l h)
one_check_end x y z when a b (has_text c t l o) (has_text d u m p) =
    one_texts_end x y when (CertificateEnds c) (one_certificate_end c) a b o
    (subst (λ v. TextsEnd x y when (CertificateEnds v) b) (sym ((outcome_of z).one_value c d t u)) p)

-- ---- what words ask for
pub one_reading_end : (read : Reading) (texts : List Bytes) (a b : End) → ReadingEnds read texts a → ReadingEnds read texts b → a ≡ b
one_reading_end (for_analyse n o w s) [] a b h k = absurd h
one_reading_end (for_analyse n o w s) (x ∷ []) a b h k = absurd h
one_reading_end (for_analyse n o w s) (x ∷ y ∷ []) a b h k =
    one_texts_end x y w (λ p q cases e. InputEnds (input_of s p q cases) IsWritten e)
    (λ p q cases c d. one_input_end (input_of s p q cases) IsWritten one_written c d) a b h k
one_reading_end (for_analyse n o w s) (x ∷ y ∷ z ∷ more) a b h k = absurd h
one_reading_end (for_check n o c w) [] a b h k = absurd h
one_reading_end (for_check n o c w) (x ∷ []) a b h k = absurd h
one_reading_end (for_check n o c w) (x ∷ y ∷ []) a b h k = absurd h
one_reading_end (for_check n o c w) (x ∷ y ∷ z ∷ []) a b h k = one_check_end x y z w a b h k
one_reading_end (for_check n o c w) (x ∷ y ∷ z ∷ v ∷ more) a b h k = absurd h
one_reading_end (for_sample seed n) [] a b h k =
    one_texts_end _ _ _ (λ p q cases e. InputEnds (input_of ends.sample_settings p q cases) (IsSummed seed n) e)
    (λ p q cases c d. one_input_end (input_of ends.sample_settings p q cases) (IsSummed seed n) (λ l v e f s t. s ∙ sym t) c d) a b h k
one_reading_end (for_sample seed n) (x ∷ more) a b h k = absurd h

pub one_answer : OneAnswer
one_answer words texts a b (usage h t e) (usage k u d) = e ∙ sym d
one_answer words texts a b (usage h t e) (asked q k o) = absurd (usage_or_asked words q h k)
one_answer words texts a b (asked q h o) (usage k u d) = absurd (usage_or_asked words q k h)
one_answer words texts a b (asked q h o) (asked s k u) =
    one_reading_end q texts a b o (subst (λ z. ReadingEnds z texts b) (one_reading words s q k h) u)
