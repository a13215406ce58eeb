-- Want of memory is no answer of words and texts.
use Rattle.std.proofs.Common.{◌≡◌, ◌≢◌, refl, ℕ, List, [], ◌∷◌, Option, None}
use Rattle.dc_syntax.specs.declared.tree.Proc.{Proc}
use Rattle.dc_syntax.specs.declared.tree.Count.TheVariants as count
use Rattle.dc_affine.specs.declared.atom.Atom.{Atom}
use Rattle.dc_lp.specs.Meanings.{Meaning}
use Rattle.dc_lines.specs.Bytes.{Bytes}
use Rattle.dc_cert.specs.declared.certificate.Certificate.{Certificate}
use Rattle.dc_check.specs.declared.fault.CheckFault.{CheckFault}
use Rattle.dc_check.specs.declared.fault.CheckFault.TheVariants as check
use Rattle.dc_words.specs.Reading.{Reading, for_analyse, for_check, for_sample}
use Rattle.dc_session.specs.declared.fault.PastAt.TheVariants.{Pivot, Fold}
use Rattle.dc_session.specs.declared.fault.AnalyseFault.{AnalyseFault}
use Rattle.dc_session.specs.declared.fault.AnalyseFault.TheVariants as analyse
use Rattle.dc_session.specs.Session.{Input}
use Rattle.dc_session.specs.Refusals.{IsRefusal}
use Rattle.dc_answers.specs.declared.refusal.Text.{Text}
use Rattle.dc_answers.specs.declared.refusal.Wrong.{Wrong}
use Rattle.dc_answers.specs.declared.refusal.Refusal.TheVariants as r
use Rattle.dc_answers.specs.Ends.{Output, End, Printed, Refused, TextsEnd, misread, understood, InputEnds, stops, shows, of_analysis, input_of, IsWritten, short, long, of_check, CertificateEnds, fails, holds, CheckEnds, no_text, has_text, IsSummed, sample_settings, ReadingEnds, usage, asked}
use Rattle.dc_existence.specs.Laws.{WantIsNoAnswer}

abbrev want : End
want = Refused r.NoMemory

-- ---- single ends
printed : (o : Output) → ◌≡◌ {A = End} want (Printed o) → ⊥
printed o e = cc

source : (at : Text) (w : Wrong) → ◌≡◌ {A = End} want (Refused (r.Source at w)) → ⊥
source at w e = cc

too_long : (n : ℕ) → ◌≡◌ {A = End} want (Refused (r.TooLarge None count.Certificate n)) → ⊥
too_long n e = cc

bad_line : (n : ℕ) → ◌≡◌ {A = End} want (Refused (r.BadCertificate n)) → ⊥
bad_line n e = cc

stopped : (i : Input) (f : AnalyseFault) → IsRefusal i f → ◌≡◌ {A = End} want (Refused (of_analysis f)) → ⊥
stopped i (analyse.TooLarge side what n) h e = cc
stopped i (analyse.Past128 (Pivot q n)) h e = cc
stopped i (analyse.Past128 (Fold clause index)) h e = cc
stopped i (analyse.Budget q) h e = cc
stopped i analyse.NoMemory h e = h

failed : (f : CheckFault) → f ≢ check.NoMemory → ◌≡◌ {A = End} want (Refused (of_check f)) → ⊥
failed (check.Rejected clause index) n e = cc
failed (check.Past128 clause index) n e = cc
failed (check.TooLarge side what k) n e = cc
failed check.NoMemory n e = n refl

-- ---- texts
texts_spared : (x y : Bytes) (when : Option Bytes) (Of : Proc → Proc → List (List Atom) → End → Type 0)
    → ((p q : Proc) (cases : List (List Atom)) → ¬ Of p q cases want) → ¬ TextsEnd x y when Of want
texts_spared x y when Of each (misread at w t e) = source at w e
texts_spared x y when Of each (understood p q cases s o) = each p q cases o

input_spared : (i : Input) (Shows : Meaning → Certificate → End → Type 0) → ((left : Meaning) (c : Certificate) → ¬ Shows left c want)
    → ¬ InputEnds i Shows want
input_spared i Shows each (stops f h e) = stopped i f h e
input_spared i Shows each (shows left c t s) = each left c s

written_spared : (left : Meaning) (c : Certificate) → ¬ IsWritten left c want
written_spared left c (short text h l e) = printed _ e
written_spared left c (long text h l e) = too_long _ e

certificate_spared : (c : Certificate) (p q : Proc) (cases : List (List Atom)) → ¬ CertificateEnds c p q cases want
certificate_spared c p q cases (fails f n h e) = failed f n e
certificate_spared c p q cases (holds h e) = printed _ e

check_spared : (x y z : Bytes) (when : Option Bytes) → ¬ CheckEnds x y z when want
check_spared x y z when (no_text line h e) = bad_line line e
check_spared x y z when (has_text c t l o) = texts_spared x y when (CertificateEnds c) (certificate_spared c) o

-- ---- words
reading_spared : (read : Reading) (texts : List Bytes) → ¬ ReadingEnds read texts want
reading_spared (for_analyse n o w s) [] h = h
reading_spared (for_analyse n o w s) (x ∷ []) h = h
reading_spared (for_analyse n o w s) (x ∷ y ∷ []) h =
    texts_spared x y w (λ p q cases e. InputEnds (input_of s p q cases) IsWritten e)
    (λ p q cases k. input_spared (input_of s p q cases) IsWritten written_spared k) h
reading_spared (for_analyse n o w s) (x ∷ y ∷ z ∷ more) h = h
reading_spared (for_check n o c w) [] h = h
reading_spared (for_check n o c w) (x ∷ []) h = h
reading_spared (for_check n o c w) (x ∷ y ∷ []) h = h
reading_spared (for_check n o c w) (x ∷ y ∷ z ∷ []) h = check_spared x y z w h
reading_spared (for_check n o c w) (x ∷ y ∷ z ∷ v ∷ more) h = h
reading_spared (for_sample seed n) [] h =
    texts_spared _ _ _ (λ p q cases e. InputEnds (input_of sample_settings p q cases) (IsSummed seed n) e)
    (λ p q cases k. input_spared (input_of sample_settings p q cases) (IsSummed seed n) (λ left c e. printed _ e) k) h
reading_spared (for_sample seed n) (x ∷ more) h = h

pub want_is_no_answer : WantIsNoAnswer
want_is_no_answer words texts (usage t n e) = let no : ◌≡◌ {A = End} want (Refused r.Usage) → ⊥ = (λ q. cc) in no e
want_is_no_answer words texts (asked read h o) = reading_spared read texts o
