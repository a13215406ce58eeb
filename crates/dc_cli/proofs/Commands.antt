-- What a command's last step comes to, as what the command comes to.
use Rattle.std.proofs.Common.{◌≡◌, refl, sym, ◌∙◌, ap, subst, lit≤, ℕ, ◌≤◌, ◌<◌, List, [], ◌∷◌, ◌++◌, length, append_assoc, Option, Some, None}
use Rattle.std.specs.Prelude.{Ok, Err, IfOk, IfErr, codes}
use Rattle.std.specs.Fmt.{decimal}
use Rattle.std.specs.declared.alloc.AllocError.{AllocError}
use Rattle.std.specs.declared.result.Result.{Result}
use Rattle.std.specs.declared.vec.Vec.{Vec}
use Rattle.std.specs.declared.alloc.Global.{Global}
use Rattle.dc_syntax.specs.declared.tree.Proc.{Proc}
use Rattle.dc_syntax.specs.declared.tree.Count.TheVariants as count
use Rattle.dc_affine.specs.declared.atom.Atom.{Atom}
use Rattle.dc_lines.specs.Bytes.{Bytes}
use Rattle.dc_lp.specs.Meanings.{Meaning}
use Rattle.dc_cert.specs.declared.certificate.Settings.{Settings}
use Rattle.dc_cert.specs.declared.certificate.Claim.{Claim}
use Rattle.dc_cert.specs.declared.certificate.Certificate.{Certificate}
use Rattle.dc_cert.specs.Ranges.{IsCertificate}
use Rattle.dc_cert.specs.Claims.{claim_of}
use Rattle.dc_certtext.specs.Text.{text_of, claim_line}
use Rattle.dc_certtext.specs.Limits.{limit, HasText}
use Rattle.dc_certtext.specs.declared.write.WriteFault.{WriteFault}
use Rattle.dc_certtext.specs.declared.write.WriteFault.TheVariants as write
use Rattle.dc_certtext.specs.WriteFaults.{IsWriteFault}
use Rattle.dc_certtext.specs.declared.from_text.ReadFault.{ReadFault}
use Rattle.dc_certtext.specs.declared.from_text.ReadFault.TheVariants as read
use Rattle.dc_certtext.specs.ReadFaults.{IsReadFault}
use Rattle.dc_lines.specs.Texts.{IsBadLine}
use Rattle.dc_words.specs.Reading.{Reading, for_analyse, for_check, for_sample, IsReading}
use Rattle.dc_session.specs.declared.fault.AnalyseFault.{AnalyseFault}
use Rattle.dc_cert.specs.Settings.{AreSettings}
use Rattle.dc_session.specs.Answers.{IsInput, TellsCertificate, IsFault}
use Rattle.dc_acceptance.proofs.Certificates.{made_are_certificates}
use Rattle.dc_check.specs.declared.fault.CheckFault.{CheckFault}
use Rattle.dc_check.specs.Answers as checks
use Rattle.dc_answers.specs.declared.refusal.Refusal.{Refusal}
use Rattle.dc_answers.specs.declared.refusal.Refusal.TheVariants as r
use Rattle.dc_answers.specs.Claims.{claim_status, accepted_text}
use Rattle.dc_answers.specs.Sources.{Say}
use Rattle.dc_answers.specs.Outside.{file, source_limit, Visit}
use Rattle.dc_answers.specs.Ends.{output, End, Printed, Refused, understood, input_of, of_analysis, IsWritten, short, long, AnalyseEnds, CertificateEnds, holds, of_check, CheckEnds, has_text, new_source, old_source, sample_condition, sample_settings, sample_text, IsSummed, SampleEnds, ReadingEnds, files_of}
use Rattle.dc_cli.specs.declared.output.Output.{Output as Made}
use Rattle.dc_cli.specs.Fetched.{IsFetched}
use Rattle.dc_cli.specs.Texts.{AreRead, IsMisread}
use Rattle.dc_cli.specs.Analysed.{IsAnalysed, IsHalted, IsUnanalysed}
use Rattle.dc_cli.specs.Steps.{IsRefusedBy, IsOutputOf, IsRefusedOf, IsOutputFor, IsRefusedFor}
use Rattle.dc_cli.proofs.Refused.{refused_map, halted, unanalysed_halted, unanalysed_end, analysed_end, certificate_end, misread_end, over_files, for_words}

-- ---- the certificate of two programs
module _ (s : Settings) (new old : Proc) (cases xs : List (List Atom)) (same : xs ≡ cases) where
  pub is_input : AreRead new old cases → AreSettings s → IsInput (input_of s new old xs)
  is_input h k =
      subst (λ z. IsInput (input_of s new old z)) (sym same)
      (record { new = h.new_program; old = h.old_program; params = h.params; condition = h.condition; settings = k })

  pub told : (left : Meaning) (c : Certificate) → TellsCertificate (input_of s new old xs) left c → TellsCertificate (input_of s new old cases) left c
  told left c t = subst (λ z. TellsCertificate (input_of s new old z) left c) same t

  pub in_ranges : (left : Meaning) (c : Certificate) → AreRead new old cases → AreSettings s → TellsCertificate (input_of s new old xs) left c → IsCertificate c
  in_ranges left c h k t =
      made_are_certificates (input_of s new old xs) t.analysis t.table c (record { input = is_input h k; through = t.through; made = t.made })

  pub is_halted : (f : AnalyseFault) (z : Refusal) → z ≡ of_analysis f → IsFault (input_of s new old xs) f → IsHalted (input_of s new old cases) z
  is_halted f z e h =
      subst (IsHalted (input_of s new old cases)) (sym e)
      (halted (input_of s new old cases) f (subst (λ a. IsFault (input_of s new old a) f) same h))

-- ---- of what texts say
module _ (x y : Bytes) (when : Option Bytes) (s : Settings) where
  pub analysed : (new old : Proc) (cases : List (List Atom)) (left : Meaning) (o : Result Certificate Refusal) → Say x y when new old cases
      → IfOk o (TellsCertificate (input_of s new old cases) left) → IfOk o IsCertificate → IfOk o (IsAnalysed x y when s left)
  analysed new old cases left (Ok c) say t k = record { new = new; old = old; cases = cases; said = say; tells = t; ranges = k }
  analysed new old cases left (Err z) say t k = tt

  pub unanalysed : (new old : Proc) (cases : List (List Atom)) (o : Result Certificate Refusal) → Say x y when new old cases
      → IfErr o (IsHalted (input_of s new old cases)) → IfErr o (IsUnanalysed x y when s)
  unanalysed new old cases (Ok c) say h = tt
  unanalysed new old cases (Err z) say h = unanalysed_halted x y when s new old cases z say h

  module _ (left : Meaning) (c : Certificate) (a : IsAnalysed x y when s left c) where
    pub analyse_ends : (o : Result Made Refusal) → IfOk o (λ v. (l : Meaning) → IsWritten l c (Printed (output v.status v.bytes.items (Some l))))
        → IfOk o (λ v. AnalyseEnds x y when s (Printed (output v.status v.bytes.items (Some left))))
    analyse_ends (Ok v) h = analysed_end x y when s IsWritten left c _ a (h left)
    analyse_ends (Err z) h = tt

    pub analyse_refused : (o : Result Made Refusal) → IfErr o (λ z. (l : Meaning) → IsRefusedBy (IsWritten l c) z) → IfErr o (IsRefusedBy (AnalyseEnds x y when s))
    analyse_refused (Ok v) h = tt
    analyse_refused (Err z) h = refused_map (IsWritten left c) (AnalyseEnds x y when s) (λ e w. analysed_end x y when s IsWritten left c e a w) z (h left)

-- ---- the text of a certificate
pub is_short : (c : Certificate) (n : ℕ) (k : Claim) (xs : Bytes) → IsCertificate c → n ≡ claim_status k → k ≡ claim_of c.body → xs ≡ text_of c → length (text_of c) ≤ limit
    → (left : Meaning) → IsWritten left c (Printed (output n xs (Some left)))
is_short c n k xs h e f g l = λ left.
    short xs (record { ranges = h; whole = sym g }) (subst (λ (z : Bytes). length z ≤ limit) (sym g) l)
    (ap (λ m. Printed (output m xs (Some left))) (e ∙ ap claim_status f))

pub too_large : (c : Certificate) (o : Result (Vec ℕ Global) WriteFault) (n : ℕ) → o ≡ Err (write.TooLarge n) → IfErr o (IsWriteFault c)
    → (limit < length (text_of c)) × (n ≡ length (text_of c))
too_large c o n e h = subst (λ z. IfErr z (IsWriteFault c)) e h

pub is_long : (c : Certificate) (n : ℕ) → IsCertificate c → (limit < length (text_of c)) × (n ≡ length (text_of c))
    → (left : Meaning) → IsWritten left c (Refused (r.TooLarge None count.Certificate n))
is_long c n h k = λ left. long (text_of c) (record { ranges = h; whole = refl }) k.0 (ap (λ m. Refused (r.TooLarge None count.Certificate m)) k.1)

pub bad_text : (z : Bytes) (o : Result Certificate ReadFault) (n : ℕ) → o ≡ Err (read.BadText n) → IfErr o (IsReadFault z) → IsBadLine HasText limit z n
bad_text z o n e h = subst (λ q. IfErr q (IsReadFault z)) e h

-- ---- over the files of two sources
module _ (v : Visit) (new old : Bytes) (when : Option Bytes) (s : Settings) (x y a b : Bytes) (e : a ≡ x) (f : b ≡ y)
    (h : IsFetched v (file new source_limit ∷ file old source_limit ∷ []) (x ∷ y ∷ [])) where
  moved_ends : (z : End) → AnalyseEnds a b when s z → AnalyseEnds x y when s z
  moved_ends z k = subst (λ p. AnalyseEnds p y when s z) e (subst (λ q. AnalyseEnds a q when s z) f k)

  pub analyse_output : (left : Meaning) (o : Result Made Refusal) → IfOk o (λ w. AnalyseEnds a b when s (Printed (output w.status w.bytes.items (Some left))))
      → IfOk o (λ w. IsOutputOf v (for_analyse new old when s) left w.status w.bytes.items)
  analyse_output left (Ok w) k = record { texts = x ∷ y ∷ []; fetched = h; rest = Some left; due = moved_ends _ k; is_left = refl }
  analyse_output left (Err z) k = tt

  pub analyse_unput : (o : Result Made Refusal) → IfErr o (IsRefusedBy (AnalyseEnds a b when s)) → IfErr o (IsRefusedOf v (for_analyse new old when s))
  analyse_unput (Ok w) k = tt
  analyse_unput (Err z) k =
      over_files v (files_of (for_analyse new old when s)) (ReadingEnds (for_analyse new old when s)) (x ∷ y ∷ []) z h
      (refused_map (AnalyseEnds a b when s) (AnalyseEnds x y when s) moved_ends z k)

-- ---- a check
module _ (c : Certificate) (new old : Proc) (cases xs : List (List Atom)) (same : xs ≡ cases) where
  pub is_accepted : (k : Claim) (o : Result Made Refusal) → checks.Accepts new old xs c k → IfOk o (λ v. (v.status ≡ 0) × (v.bytes.items ≡ accepted_text k))
      → IfOk o (λ v. CertificateEnds c new old cases (Printed (output v.status v.bytes.items None)))
  is_accepted k (Ok v) h e =
      holds (subst (λ z. checks.Accepts new old z c (claim_of c.body)) same (subst (λ z. checks.Accepts new old xs c z) h.claim h))
      (ap (λ n. Printed (output n v.bytes.items None)) e.0 ∙ ap (λ b. Printed (output 0 b None)) (e.1 ∙ ap accepted_text h.claim))
  is_accepted k (Err z) h e = tt

  pub is_rejected : (f : CheckFault) (z : Refusal) → z ≡ of_check f → checks.IsFault new old xs c f → IsRefusedBy (CertificateEnds c new old cases) z
  is_rejected f z e h =
      subst (IsRefusedBy (CertificateEnds c new old cases)) (sym e)
      (certificate_end c new old cases f (subst (λ a. checks.IsFault new old a c f) same h))

pub wants_memory : (Of : End → Type 0) (o : Result Made Refusal) → IfErr o (λ z. z ≡ r.NoMemory) → IfErr o (IsRefusedBy Of)
wants_memory Of (Ok v) h = tt
wants_memory Of (Err z) h = subst (IsRefusedBy Of) (sym h) tt

module _ (x y z : Bytes) (when : Option Bytes) (c : Certificate) (t : HasText c z) (l : length z ≤ limit) where
  pub check_misread : (q : Refusal) → IsMisread x y when q → IsRefusedBy (CheckEnds x y z when) q
  check_misread q h =
      refused_map _ (CheckEnds x y z when) (λ e d. has_text c t l d) q (misread_end x y when (CertificateEnds c) q h)

  module _ (new old : Proc) (cases : List (List Atom)) (say : Say x y when new old cases) where
    pub check_ends : (o : Result Made Refusal) → IfOk o (λ v. CertificateEnds c new old cases (Printed (output v.status v.bytes.items None)))
        → IfOk o (λ v. CheckEnds x y z when (Printed (output v.status v.bytes.items None)))
    check_ends (Ok v) h = has_text c t l (understood new old cases say h)
    check_ends (Err q) h = tt

    pub check_refused : (o : Result Made Refusal) → IfErr o (IsRefusedBy (CertificateEnds c new old cases)) → IfErr o (IsRefusedBy (CheckEnds x y z when))
    check_refused (Ok v) h = tt
    check_refused (Err q) h =
        refused_map (CertificateEnds c new old cases) (CheckEnds x y z when) (λ e d. has_text c t l (understood new old cases say d)) q h

-- ---- over the files of a check
module _ (v : Visit) (new old cert : Bytes) (when : Option Bytes) (x y z a b d : Bytes) (e : a ≡ x) (f : b ≡ y) (g : d ≡ z)
    (h : IsFetched v (file new source_limit ∷ file old source_limit ∷ file cert limit ∷ []) (x ∷ y ∷ z ∷ [])) where
  moved_check : (q : End) → CheckEnds a b d when q → CheckEnds x y z when q
  moved_check q k =
      subst (λ p. CheckEnds p y z when q) e (subst (λ p. CheckEnds a p z when q) f (subst (λ p. CheckEnds a b p when q) g k))

  pub check_output : (o : Result Made Refusal) → IfOk o (λ w. CheckEnds a b d when (Printed (output w.status w.bytes.items None)))
      → IfOk o (λ w. (left : Meaning) → IsOutputOf v (for_check new old cert when) left w.status w.bytes.items)
  check_output (Ok w) k = λ left. record { texts = x ∷ y ∷ z ∷ []; fetched = h; rest = None; due = moved_check _ k; is_left = tt }
  check_output (Err q) k = tt

  pub check_unput : (o : Result Made Refusal) → IfErr o (IsRefusedBy (CheckEnds a b d when)) → IfErr o (IsRefusedOf v (for_check new old cert when))
  check_unput (Ok w) k = tt
  check_unput (Err q) k =
      over_files v (files_of (for_check new old cert when)) (ReadingEnds (for_check new old cert when)) (x ∷ y ∷ z ∷ []) q h
      (refused_map (CheckEnds a b d when) (CheckEnds x y z when) moved_check q k)

-- ---- a sample
module _ (seed n : ℕ) where
  pub sample_end : (x y : Bytes) (u : Option Bytes) (s : Settings) (left : Meaning) (c : Certificate) (m : ℕ) (k : Claim) (bytes : Bytes)
      → x ≡ new_source seed n → y ≡ old_source seed n → u ≡ Some sample_condition → s ≡ sample_settings → IsAnalysed x y u s left c
      → m ≡ claim_status k → k ≡ claim_of c.body → bytes ≡ sample_text seed n k
      → SampleEnds seed n (Printed (output m bytes (Some left)))
  sample_end x y u s left c m k bytes e f g i a p q t =
      analysed_end (new_source seed n) (old_source seed n) (Some sample_condition) sample_settings (IsSummed seed n) left c _ (at x y u s e f g i a)
      (ap (λ z. Printed (output z bytes (Some left))) (p ∙ ap claim_status q)
      ∙ ap (λ z. Printed (output (claim_status (claim_of c.body)) z (Some left))) (t ∙ ap (sample_text seed n) q))
    where
      at : (x y : Bytes) (u : Option Bytes) (s : Settings) → x ≡ new_source seed n → y ≡ old_source seed n → u ≡ Some sample_condition → s ≡ sample_settings
          → IsAnalysed x y u s left c → IsAnalysed (new_source seed n) (old_source seed n) (Some sample_condition) sample_settings left c
      at x y u s e f g i a =
          subst (λ z. IsAnalysed z (old_source seed n) (Some sample_condition) sample_settings left c) e
          (subst (λ z. IsAnalysed x z (Some sample_condition) sample_settings left c) f
          (subst (λ z. IsAnalysed x y z sample_settings left c) g (subst (λ z. IsAnalysed x y u z left c) i a)))

  pub sample_refused : (x y : Bytes) (u : Option Bytes) (s : Settings) (z : Refusal)
      → x ≡ new_source seed n → y ≡ old_source seed n → u ≡ Some sample_condition → s ≡ sample_settings → IsUnanalysed x y u s z
      → IsRefusedBy (SampleEnds seed n) z
  sample_refused x y u s z e f g i a =
      unanalysed_end (new_source seed n) (old_source seed n) (Some sample_condition) sample_settings (IsSummed seed n) z
      (subst (λ p. IsUnanalysed p (old_source seed n) (Some sample_condition) sample_settings z) e
      (subst (λ p. IsUnanalysed x p (Some sample_condition) sample_settings z) f
      (subst (λ p. IsUnanalysed x y p sample_settings z) g (subst (λ p. IsUnanalysed x y u p z) i a))))

  pub sample_output : (v : Visit) (left : Meaning) (o : Result Made Refusal) → v.HandedOut [] [] → IfOk o (λ w. SampleEnds seed n (Printed (output w.status w.bytes.items (Some left))))
      → IfOk o (λ w. IsOutputOf v (for_sample seed n) left w.status w.bytes.items)
  sample_output v left (Ok w) g k = record { texts = []; fetched = record { given = g; theirs = tt }; rest = Some left; due = k; is_left = refl }
  sample_output v left (Err z) g k = tt

  pub sample_unput : (v : Visit) (o : Result Made Refusal) → v.HandedOut [] [] → IfErr o (IsRefusedBy (SampleEnds seed n)) → IfErr o (IsRefusedOf v (for_sample seed n))
  sample_unput v (Ok w) g k = tt
  sample_unput v (Err z) g k = over_files v [] (ReadingEnds (for_sample seed n)) [] z (record { given = g; theirs = tt }) k

-- ---- what words ask for
module _ (v : Visit) (p q : Reading) (e : p ≡ q) where
  pub same_output : (left : Meaning) (o : Result Made Refusal) → IfOk o (λ w. IsOutputOf v p left w.status w.bytes.items) → IfOk o (λ w. IsOutputOf v q left w.status w.bytes.items)
  same_output left (Ok w) h = subst (λ z. IsOutputOf v z left w.status w.bytes.items) e h
  same_output left (Err z) h = tt

  pub same_check : (left : Meaning) (o : Result Made Refusal) → IfOk o (λ w. (l : Meaning) → IsOutputOf v p l w.status w.bytes.items) → IfOk o (λ w. IsOutputOf v q left w.status w.bytes.items)
  same_check left (Ok w) h = subst (λ z. IsOutputOf v z left w.status w.bytes.items) e (h left)
  same_check left (Err z) h = tt

  pub same_refused : (o : Result Made Refusal) → IfErr o (IsRefusedOf v p) → IfErr o (IsRefusedOf v q)
  same_refused (Ok w) h = tt
  same_refused (Err z) h = subst (λ k. IsRefusedOf v k z) e h

module _ (v : Visit) (words : List Bytes) (q : Reading) (k : IsReading words q) where
  pub words_output : (left : Meaning) (o : Result Made Refusal) → IfOk o (λ w. IsOutputOf v q left w.status w.bytes.items) → IfOk o (λ w. IsOutputFor v words left w.status w.bytes.items)
  words_output left (Ok w) h = (q, k, h)
  words_output left (Err z) h = tt

  pub words_refused : (o : Result Made Refusal) → IfErr o (IsRefusedOf v q) → IfErr o (IsRefusedFor v words)
  words_refused (Ok w) h = tt
  words_refused (Err z) h = for_words v words q z k h

-- ---- the settings of a sample are within their limits
pub is_settings : (s : Settings) → s ≡ sample_settings → AreSettings s
is_settings s e = subst AreSettings (sym e) (record {
  degree = lit≤ tt;
  some_products = lit≤ tt;
  few_products = lit≤ tt;
  some_pivots = lit≤ tt;
  few_pivots = lit≤ tt;
})

-- ---- the four lines of a sample
regroup : (a b c d e f g h z l : Bytes) → (a ++ (b ++ (c ++ (d ++ (e ++ (f ++ (g ++ (h ++ z)))))))) ++ l ≡ a ++ (b ++ (c ++ (d ++ (e ++ (f ++ (g ++ (h ++ (z ++ l))))))))
regroup a b c d e f g h z l =
    append_assoc a _ l ∙ ap (λ x. a ++ x) (append_assoc b _ l ∙ ap (λ x. b ++ x) (append_assoc c _ l ∙ ap (λ x. c ++ x)
    (append_assoc d _ l ∙ ap (λ x. d ++ x) (append_assoc e _ l ∙ ap (λ x. e ++ x) (append_assoc f _ l ∙ ap (λ x. f ++ x)
    (append_assoc g _ l ∙ ap (λ x. g ++ x) (append_assoc h z l)))))))

before_claim : ℕ → ℕ → ℕ → ℕ → Bytes
before_claim seed n a b =
    codes "sample " ++ (decimal seed ++ (codes " " ++ (decimal n ++ (codes "\nnew bytes " ++ (decimal a ++ (codes "\nold bytes " ++ (decimal b ++ codes "\n")))))))

pub is_summary : (seed n a b : ℕ) (k : Claim) (xs : Bytes) (o : Result (Vec ℕ Global) AllocError)
    → xs ≡ codes "sample " ++ (decimal seed ++ (codes " " ++ (decimal n ++ (codes "\nnew bytes " ++ (decimal a ++ (codes "\nold bytes " ++ (decimal b ++ codes "\n")))))))
    → a ≡ length (new_source seed n) → b ≡ length (old_source seed n) → IfOk o (λ v. v.items ≡ xs ++ (claim_line k ++ codes "\n"))
    → IfOk o (λ v. v.items ≡ sample_text seed n k)
unfolding before_claim
is_summary seed n a b k xs (Ok v) e f g h =
    h ∙ ap (λ z. z ++ (claim_line k ++ codes "\n")) (e ∙ ap (λ z. before_claim seed n z b) f ∙ ap (λ z. before_claim seed n (length (new_source seed n)) z) g)
    ∙ regroup (codes "sample ") (decimal seed) (codes " ") (decimal n) (codes "\nnew bytes ") (decimal (length (new_source seed n))) (codes "\nold bytes ")
    (decimal (length (old_source seed n))) (codes "\n") (claim_line k ++ codes "\n")
is_summary seed n a b k xs (Err z) e f g h = tt
