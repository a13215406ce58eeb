-- The one answer of words and texts: an output with its status, or a refusal. Want of memory and
-- faults of the outside are no part of it.
use Rattle.std.specs.Prelude.{◌≡◌, ◌≢◌, ◌⊎◌, ℕ, ◌<◌, ◌≤◌, List, [], ◌∷◌, ◌++◌, length, true, false, codes, Option, Some, None}
use Rattle.std.specs.Fmt.{decimal}
use Rattle.dc_syntax.specs.declared.tree.Proc.{Proc}
use Rattle.dc_syntax.specs.declared.tree.Count.TheVariants as count
use Rattle.dc_affine.specs.declared.atom.Atom.{Atom}
use Rattle.dc_lp.specs.Meanings.{Meaning}
use Rattle.dc_lines.specs.Bytes.{Bytes}
use Rattle.dc_lines.specs.Texts.{IsBadLine}
use Rattle.dc_cert.specs.declared.certificate.Settings.{Settings}
use Rattle.dc_cert.specs.declared.certificate.Claim.{Claim}
use Rattle.dc_cert.specs.declared.certificate.Certificate.{Certificate}
use Rattle.dc_cert.specs.Claims.{claim_of}
use Rattle.dc_certtext.specs.Limits.{limit, HasText}
use Rattle.dc_certtext.specs.Text.{claim_line}
use Rattle.dc_words.specs.Reading.{Reading, for_analyse, for_check, for_sample, takes_words, IsReading}
use Rattle.dc_check.specs.declared.fault.CheckFault.{CheckFault}
use Rattle.dc_check.specs.declared.fault.CheckFault.TheVariants as check
use Rattle.dc_check.specs.Answers as checks
use Rattle.dc_session.specs.declared.fault.PastAt.TheVariants.{Pivot, Fold}
use Rattle.dc_session.specs.declared.fault.AnalyseFault.{AnalyseFault}
use Rattle.dc_session.specs.declared.fault.AnalyseFault.TheVariants as analyse
use Rattle.dc_session.specs.Session.{Input}
use Rattle.dc_session.specs.Refusals.{IsRefusal}
use Rattle.dc_session.specs.Answers.{TellsCertificate}
use Rattle.dc_sample.specs.Sample.{new_costs, old_costs, source_text}
use Rattle.dc_answers.specs.declared.refusal.Text.{Text}
use Rattle.dc_answers.specs.declared.refusal.Wrong.{Wrong}
use Rattle.dc_answers.specs.declared.refusal.Refusal.{Refusal}
use Rattle.dc_answers.specs.declared.refusal.Refusal.TheVariants as r
use Rattle.dc_answers.specs.Statuses as status
use Rattle.dc_answers.specs.Claims.{claim_status, accepted_text}
use Rattle.dc_answers.specs.Sources.{Tells, Say, is_wrong}
use Rattle.dc_answers.specs.Outside.{File, file, source_limit}

-- what is printed, with its status, and what a command that analyses leaves of the lent tableau
pub record Output : Type 0 where
  pub status : ℕ
  pub bytes : Bytes
  pub rest : Option Meaning

abbrev pub output : ℕ → Bytes → Option Meaning → Output
output n xs m = record { status = n; bytes = xs; rest = m }

pub data End : Type 0 where
  Printed : Output → End
  Refused : Refusal → End

-- ---- of texts: what is wrong with them first, else the end of what they say
pub data TextsEnd (x y : Bytes) (when : Option Bytes)
    (Of : Proc → Proc → List (List Atom) → End → Type 0) (end : End)
    : Type 0 where
  misread : (at : Text) (w : Wrong) → Tells x y when (is_wrong at w) → end ≡ Refused (r.Source at w)
      → TextsEnd x y when Of end
  understood : (new old : Proc) (cases : List (List Atom)) → Say x y when new old cases
      → Of new old cases end
      → TextsEnd x y when Of end

-- ---- an analysis: its first refusal, or what is shown of its certificate
abbrev pub of_analysis : AnalyseFault → Refusal
of_analysis (analyse.TooLarge side what n) = r.TooLarge side what n
of_analysis (analyse.Past128 (Pivot q n)) = r.PastPivot q n
of_analysis (analyse.Past128 (Fold clause index)) = r.PastFold clause index
of_analysis (analyse.Budget q) = r.Spent q
of_analysis analyse.NoMemory = r.NoMemory

pub data InputEnds (i : Input) (Shows : Meaning → Certificate → End → Type 0) (end : End) : Type 0 where
  stops : (f : AnalyseFault) → IsRefusal i f → end ≡ Refused (of_analysis f) → InputEnds i Shows end
  shows : (left : Meaning) (c : Certificate) → TellsCertificate i left c → Shows left c end
      → InputEnds i Shows end

abbrev pub input_of : Settings → Proc → Proc → List (List Atom) → Input
input_of s new old cases = record { new = new; old = old; cases = cases; settings = s }

abbrev pub AnalysisEnds : Bytes → Bytes → Option Bytes → Settings
    → (Meaning → Certificate → End → Type 0) → End → Type 0
AnalysisEnds x y when s Shows end =
    TextsEnd x y when (λ new old cases e. InputEnds (input_of s new old cases) Shows e) end

-- ---- analyse NEW OLD: the certificate's text, unless it is too long
pub data IsWritten (left : Meaning) (c : Certificate) (end : End) : Type 0 where
  short : (text : Bytes) → HasText c text → length text ≤ limit
      → end ≡ Printed (output (claim_status (claim_of c.body)) text (Some left)) → IsWritten left c end
  long : (text : Bytes) → HasText c text → limit < length text
      → end ≡ Refused (r.TooLarge None count.Certificate (length text)) → IsWritten left c end

abbrev pub AnalyseEnds : Bytes → Bytes → Option Bytes → Settings → End → Type 0
AnalyseEnds x y when s end = AnalysisEnds x y when s IsWritten end

-- ---- check NEW OLD CERT: what is accepted, or the first step that does not hold
abbrev pub of_check : CheckFault → Refusal
of_check (check.Rejected clause index) = r.Rejected clause index
of_check (check.Past128 clause index) = r.PastFold clause index
of_check (check.TooLarge side what n) = r.TooLarge side what n
of_check check.NoMemory = r.NoMemory

pub data CertificateEnds (c : Certificate) (new old : Proc) (cases : List (List Atom))
    (end : End) : Type 0 where
  fails : (f : CheckFault) → f ≢ check.NoMemory → checks.IsFault new old cases c f
      → end ≡ Refused (of_check f)
      → CertificateEnds c new old cases end
  holds : checks.Accepts new old cases c (claim_of c.body)
      → end ≡ Printed (output status.accepted (accepted_text (claim_of c.body)) None)
      → CertificateEnds c new old cases end

pub data CheckEnds (x y z : Bytes) (when : Option Bytes) (end : End) : Type 0 where
  no_text : (line : ℕ) → IsBadLine HasText limit z line → end ≡ Refused (r.BadCertificate line)
      → CheckEnds x y z when end
  has_text : (c : Certificate) → HasText c z → length z ≤ limit
      → TextsEnd x y when (CertificateEnds c) end
      → CheckEnds x y z when end

-- ---- sample SEED COUNT: four lines on the analysis of a generated pair
-- the length of the certificate's text is not judged
abbrev pub new_source : ℕ → ℕ → Bytes
new_source seed n = source_text (new_costs seed n)

abbrev pub old_source : ℕ → ℕ → Bytes
old_source seed n = source_text (old_costs seed n)

abbrev pub sample_condition : Bytes
sample_condition = codes "0 <= n && n <= 50"

abbrev pub sample_settings : Settings
sample_settings = record { degree = 1; products = 1; pairs = true; pivots = 100000 }

abbrev pub sample_text : ℕ → ℕ → Claim → Bytes
sample_text seed n k =
    codes "sample " ++ (decimal seed ++ (codes " " ++ (decimal n
    ++ (codes "\nnew bytes " ++ (decimal (length (new_source seed n))
    ++ (codes "\nold bytes " ++ (decimal (length (old_source seed n))
    ++ (codes "\n" ++ (claim_line k ++ codes "\n")))))))))

abbrev pub IsSummed : ℕ → ℕ → Meaning → Certificate → End → Type 0
IsSummed seed n left c end =
    end ≡ Printed (output (claim_status (claim_of c.body)) (sample_text seed n (claim_of c.body))
    (Some left))

abbrev pub SampleEnds : ℕ → ℕ → End → Type 0
SampleEnds seed n end =
    AnalysisEnds (new_source seed n) (old_source seed n) (Some sample_condition) sample_settings
    (IsSummed seed n) end

-- ---- of what words ask for: a new command adds a line to each of these
abbrev pub ReadingEnds : Reading → List Bytes → End → Type 0
ReadingEnds (for_analyse new old when s) (x ∷ y ∷ []) end = AnalyseEnds x y when s end
ReadingEnds (for_check new old cert when) (x ∷ y ∷ z ∷ []) end = CheckEnds x y z when end
ReadingEnds (for_sample seed n) [] end = SampleEnds seed n end
ReadingEnds read texts end = ⊥

-- the files whose texts are wanted, in order
abbrev pub files_of : Reading → List File
files_of (for_analyse new old when s) = file new source_limit ∷ file old source_limit ∷ []
files_of (for_check new old cert when) =
    file new source_limit ∷ file old source_limit ∷ file cert limit ∷ []
files_of (for_sample seed n) = []

-- ---- of words
-- words that are no command name no file
abbrev pub Names : List Bytes → List File → Type 0
Names words files =
    ((takes_words words ≡ false) × (files ≡ []))
    ⊎ ((read : Reading) × IsReading words read × (files ≡ files_of read))

-- the answer of words, and of the texts of the files that they name
pub data Answers (words texts : List Bytes) (end : End) : Type 0 where
  usage : takes_words words ≡ false → texts ≡ [] → end ≡ Refused r.Usage → Answers words texts end
  asked : (read : Reading) → IsReading words read → ReadingEnds read texts end → Answers words texts end
