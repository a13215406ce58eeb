-- From the refusal of a step to the refusal of the command.
use Rattle.std.proofs.Common.{◌≡◌, refl, ap, inl, inr, ℕ, List, Option}
use Rattle.std.specs.declared.string.String.{String}
use Rattle.std.specs.declared.alloc.Global.{Global}
use Rattle.std.specs.Prelude.{Bool, option_map}
use Rattle.std.specs.String.{string_bytes}
use Rattle.dc_syntax.specs.declared.tree.Proc.{Proc}
use Rattle.dc_affine.specs.declared.atom.Atom.{Atom}
use Rattle.dc_lines.specs.Bytes.{Bytes}
use Rattle.dc_lp.specs.Meanings.{Meaning}
use Rattle.dc_cert.specs.declared.certificate.Settings.{Settings}
use Rattle.dc_cert.specs.declared.certificate.Certificate.{Certificate}
use Rattle.dc_words.specs.declared.Words.TheVariants.{Analyse, Check}
use Rattle.dc_words.specs.Reading.{Reading, for_analyse, for_check, for_sample, reading_of, IsReading, to_analyse, to_check, to_sample}
use Rattle.dc_session.specs.declared.fault.PastAt.TheVariants.{Pivot, Fold}
use Rattle.dc_session.specs.declared.fault.AnalyseFault.{AnalyseFault}
use Rattle.dc_session.specs.declared.fault.AnalyseFault.TheVariants as analyse
use Rattle.dc_session.specs.Session.{Input}
use Rattle.dc_session.specs.Answers.{IsFault}
use Rattle.dc_check.specs.declared.fault.CheckFault.{CheckFault}
use Rattle.dc_check.specs.declared.fault.CheckFault.TheVariants as check
use Rattle.dc_check.specs.Answers as checks
use Rattle.dc_answers.specs.declared.refusal.Refusal.{Refusal}
use Rattle.dc_answers.specs.declared.refusal.Refusal.TheVariants.{Usage, Unread, BadCertificate, Source, TooLarge, PastPivot, PastFold, Spent, Unwritten, NoMemory}
use Rattle.dc_answers.specs.Sources.{Say}
use Rattle.dc_answers.specs.Outside.{File, Visit}
use Rattle.dc_answers.specs.Ends.{End, Refused, TextsEnd, misread, understood, stops, shows, input_of, of_analysis, AnalysisEnds, CertificateEnds, of_check, CheckEnds, no_text, fails}
use Rattle.dc_cli.specs.Fetched.{IsFetched, IsUnfetched}
use Rattle.dc_cli.specs.Texts.{IsMisread, IsNoCertificate}
use Rattle.dc_cli.specs.Analysed.{IsAnalysed, IsHalted, IsStoppedBy, IsUnanalysed}
use Rattle.dc_cli.specs.Steps.{IsRefusedBy, IsRefused, IsInRange, IsRefusedOf, IsRefusedFor}

-- ---- ends
pub refused_map : (Of Og : End → Type 0) → ((e : End) → Of e → Og e) → (z : Refusal) → IsRefusedBy Of z → IsRefusedBy Og z
refused_map Of Og g NoMemory h = tt
refused_map Of Og g (Unread name) h = h
refused_map Of Og g Unwritten h = h
refused_map Of Og g Usage h = h
refused_map Of Og g _ h = g _ h

-- ---- an analysis
pub halted : (i : Input) (f : AnalyseFault) → IsFault i f → IsHalted i (of_analysis f)
halted i (analyse.TooLarge s w n) (inl e) = absurd cc
halted i (analyse.TooLarge s w n) (inr h) = record { fault = analyse.TooLarge s w n; first = h; is = refl }
halted i (analyse.Past128 (Pivot q n)) (inl e) = absurd cc
halted i (analyse.Past128 (Pivot q n)) (inr h) = record { fault = analyse.Past128 (Pivot q n); first = h; is = refl }
halted i (analyse.Past128 (Fold c n)) (inl e) = absurd cc
halted i (analyse.Past128 (Fold c n)) (inr h) = record { fault = analyse.Past128 (Fold c n); first = h; is = refl }
halted i (analyse.Budget q) (inl e) = absurd cc
halted i (analyse.Budget q) (inr h) = record { fault = analyse.Budget q; first = h; is = refl }
halted i analyse.NoMemory h = tt

module _ (x y : Bytes) (when : Option Bytes) (s : Settings) where
  pub unanalysed_misread : (z : Refusal) → IsMisread x y when z → IsUnanalysed x y when s z
  unanalysed_misread NoMemory h = tt
  unanalysed_misread (Source at w) h = h
  unanalysed_misread _ h = absurd h

  pub unanalysed_halted : (new old : Proc) (cases : List (List Atom)) (z : Refusal) → Say x y when new old cases
      → IsHalted (input_of s new old cases) z → IsUnanalysed x y when s z
  unanalysed_halted new old cases NoMemory say h = tt
  unanalysed_halted new old cases (TooLarge d w n) say h = record { new = new; old = old; cases = cases; said = say; halted = h }
  unanalysed_halted new old cases (PastPivot q n) say h = record { new = new; old = old; cases = cases; said = say; halted = h }
  unanalysed_halted new old cases (PastFold c n) say h = record { new = new; old = old; cases = cases; said = say; halted = h }
  unanalysed_halted new old cases (Spent q) say h = record { new = new; old = old; cases = cases; said = say; halted = h }
  unanalysed_halted new old cases _ say h = absurd h

  module _ (Shows : Meaning → Certificate → End → Type 0) where
    stopped_end : (z : Refusal) → IsStoppedBy x y when s z → AnalysisEnds x y when s Shows (Refused z)
    stopped_end z h = understood h.new h.old h.cases h.said (stops h.halted.fault h.halted.first (ap Refused h.halted.is))

    pub unanalysed_end : (z : Refusal) → IsUnanalysed x y when s z → IsRefusedBy (AnalysisEnds x y when s Shows) z
    unanalysed_end NoMemory h = tt
    unanalysed_end (Source at w) h = misread at w h refl
    unanalysed_end (TooLarge d w n) h = stopped_end (TooLarge d w n) h
    unanalysed_end (PastPivot q n) h = stopped_end (PastPivot q n) h
    unanalysed_end (PastFold c n) h = stopped_end (PastFold c n) h
    unanalysed_end (Spent q) h = stopped_end (Spent q) h
    unanalysed_end _ h = absurd h

    pub analysed_end : (left : Meaning) (c : Certificate) (e : End) → IsAnalysed x y when s left c → Shows left c e → AnalysisEnds x y when s Shows e
    analysed_end left c e a h = understood a.new a.old a.cases a.said (shows left c a.tells h)

-- ---- a check
pub certificate_end : (c : Certificate) (new old : Proc) (cases : List (List Atom)) (f : CheckFault) → checks.IsFault new old cases c f
    → IsRefusedBy (CertificateEnds c new old cases) (of_check f)
certificate_end c new old cases (check.Rejected a n) h = fails (check.Rejected a n) (λ e. cc) h refl
certificate_end c new old cases (check.Past128 a n) h = fails (check.Past128 a n) (λ e. cc) h refl
certificate_end c new old cases (check.TooLarge s w n) h = fails (check.TooLarge s w n) (λ e. cc) h refl
certificate_end c new old cases check.NoMemory h = tt

module _ (x y z : Bytes) (when : Option Bytes) where
  pub no_certificate_end : (q : Refusal) → IsNoCertificate z q → IsRefusedBy (CheckEnds x y z when) q
  no_certificate_end NoMemory h = tt
  no_certificate_end (BadCertificate n) h = no_text n h refl
  no_certificate_end _ h = absurd h

pub misread_end : (x y : Bytes) (when : Option Bytes) (Of : Proc → Proc → List (List Atom) → End → Type 0) (z : Refusal) → IsMisread x y when z
    → IsRefusedBy (TextsEnd x y when Of) z
misread_end x y when Of NoMemory h = tt
misread_end x y when Of (Source at w) h = misread at w h refl
misread_end x y when Of _ h = absurd h

-- ---- files
pub over_files : (v : Visit) (files : List File) (Of : List Bytes → End → Type 0) (texts : List Bytes) (z : Refusal) → IsFetched v files texts
    → IsRefusedBy (Of texts) z → IsRefused v files Of z
over_files v files Of texts NoMemory f h = tt
over_files v files Of texts (Unread name) f h = absurd h
over_files v files Of texts Unwritten f h = h
over_files v files Of texts Usage f h = h
over_files v files Of texts _ f h = (texts, f, h)

pub unfetched : (v : Visit) (files : List File) (Of : List Bytes → End → Type 0) (z : Refusal) → IsUnfetched v files z → IsRefused v files Of z
unfetched v files Of NoMemory h = tt
unfetched v files Of (Unread name) h = h
unfetched v files Of _ h = absurd h

-- ---- words
pub for_words : (v : Visit) (words : List Bytes) (q : Reading) (z : Refusal) → IsReading words q → IsRefusedOf v q z → IsRefusedFor v words z
for_words v words q NoMemory k h = tt
for_words v words q Usage k h = absurd h
for_words v words q _ k h = (q, k, h)

pub in_range : (words : List Bytes) (q : Reading) → IsReading words q → IsInRange q
in_range words (for_analyse n o w s) (to_analyse, h) = h.asked.3.limits
in_range words (for_analyse n o w s) (to_check, h) = absurd h.asked
in_range words (for_analyse n o w s) (to_sample, h) = absurd h.asked
in_range words (for_check n o c w) h = tt
in_range words (for_sample seed n) (to_analyse, h) = absurd h.asked
in_range words (for_sample seed n) (to_check, h) = absurd h.asked
in_range words (for_sample seed n) (to_sample, h) = (h.asked.0.2, h.asked.1.1, h.asked.1.2)

pub analyse_reading : (n o : String Global) (w : Option (String Global)) (s t : Settings) (x y : Bytes) (u : Option Bytes)
    → x ≡ string_bytes n → y ≡ string_bytes o → u ≡ option_map string_bytes w → t ≡ s → for_analyse x y u t ≡ reading_of (Analyse n o w s)
analyse_reading n o w s t x y u e f g h = λ i. for_analyse (e i) (f i) (g i) (h i)

pub check_reading : (n o c : String Global) (w : Option (String Global)) (x y z : Bytes) (u : Option Bytes)
    → x ≡ string_bytes n → y ≡ string_bytes o → z ≡ string_bytes c → u ≡ option_map string_bytes w → for_check x y z u ≡ reading_of (Check n o c w)
check_reading n o c w x y z u e f g h = λ i. for_check (e i) (f i) (g i) (h i)
