-- From what was printed or refused to what is promised.
use Rattle.std.proofs.Common.{◌≡◌, ◌≢◌, refl, sym, ◌∙◌, ap, subst, inl, inr, arith, lit≤, ℕ, ◌≤◌, ◌<◌, List, [], ◌∷◌, length, take, Option, Some, None}
use Rattle.std.specs.String.{string_bytes}
use Rattle.dc_host.specs.Outside.{Files, Rose, IsTextOf, IsAbsent}
use Rattle.dc_lines.specs.Bytes.{Bytes}
use Rattle.dc_lp.specs.Meanings.{Meaning}
use Rattle.dc_cert.specs.declared.certificate.Claim.{Claim}
use Rattle.dc_cert.specs.declared.certificate.Claim.TheVariants.{Threshold, Nothing, Vacuous}
use Rattle.dc_words.specs.Reading.{Reading, for_analyse, for_check, for_sample, IsReading}
use Rattle.dc_answers.specs.declared.refusal.Refusal.{Refusal}
use Rattle.dc_answers.specs.declared.refusal.Refusal.TheVariants as r
use Rattle.dc_answers.specs.Statuses as status
use Rattle.dc_answers.specs.Lines.{status_of}
use Rattle.dc_answers.specs.Claims.{claim_status}
use Rattle.dc_answers.specs.Ends.{Output, output, End, Printed, Refused, files_of, ReadingEnds, Names, Answers, usage, asked}
use Rattle.dc_answers.specs.Outside.{File, Outside, Visit, Stream, Gains, GainsPart, AreTexts, AreTold, IsMissing, IsFirstUnread}
use Rattle.dc_answers.specs.Headline.{Means}
use Rattle.dc_answers.specs.Promise.{AreHandedOut, SaysHeadline, IsAnswered, Prints, IsUnread, IsCut, IsDue, HasCause, Refuses, IsCalm, IsEnd, Completes, FindsMissing}
use Rattle.dc_answers.proofs.One.{one_list, one_answer}
use Rattle.dc_answers.proofs.Meanings.{outputs_mean}
use Rattle.dc_cli.specs.Reports.{IsReported}
use Rattle.dc_cli.specs.Fetched.{IsFetched}
use Rattle.dc_cli.specs.Steps.{IsOutputFor, IsRefusedFor}
use Rattle.dc_cli.specs.Written.{IsPrinted, IsUnprinted, IsEarly}

-- ---- what was printed
handed_of : (o : Outside) (left : Meaning) (n : ℕ) (bytes : Bytes) → (d : IsOutputFor o.store o.words left n bytes) → AreHandedOut o d.2.texts
handed_of o left n bytes d = record {
  files = files_of d.0;
  named = inr (d.0, d.1, refl);
  given = d.2.fetched.given;
  theirs = d.2.fetched.theirs;
}

pub prints : (o : Outside) (left : Meaning) (n : ℕ) → IsPrinted o.words o.store o.out left n → Prints o left n
prints o left n p = record {
  texts = p.due.2.texts;
  handed = handed_of o left n p.bytes p.due;
  output = output n p.bytes p.due.2.rest;
  due = asked p.due.0 p.due.1 p.due.2.due;
  status_is = refl;
  added = p.added;
  rest = p.due.2.is_left;
}

pub says_headline : (o : Outside) (left : Meaning) (n : ℕ) → Prints o left n → SaysHeadline o n
says_headline o left n p =
    let m = outputs_mean o.words p.texts p.output p.due in
    record {
      read = m.read;
      asked = m.asked;
      texts = p.texts;
      handed = p.handed;
      bytes = p.output.bytes;
      added = p.added;
      means = subst (λ k. Means m.read p.texts k p.output.bytes) (sym p.status_is) m.means;
    }

claim_low : (k : Claim) → claim_status k ≤ 2
claim_low (Threshold t) = lit≤ tt
claim_low Nothing = lit≤ tt
claim_low Vacuous = lit≤ tt

means_low : (q : Reading) (texts : List Bytes) (n : ℕ) (bytes : Bytes) → Means q texts n bytes → n ≤ 2
means_low (for_analyse a b w s) [] n bytes h = absurd h
means_low (for_analyse a b w s) (x ∷ []) n bytes h = absurd h
means_low (for_analyse a b w s) (x ∷ y ∷ []) n bytes h = subst (λ k. k ≤ 2) (sym h.status_is) (claim_low _)
means_low (for_analyse a b w s) (x ∷ y ∷ z ∷ more) n bytes h = absurd h
means_low (for_check a b c w) [] n bytes h = absurd h
means_low (for_check a b c w) (x ∷ []) n bytes h = absurd h
means_low (for_check a b c w) (x ∷ y ∷ []) n bytes h = absurd h
means_low (for_check a b c w) (x ∷ y ∷ z ∷ []) n bytes h = subst (λ k. k ≤ 2) (sym h.status_is) (lit≤ tt)
means_low (for_check a b c w) (x ∷ y ∷ z ∷ v ∷ more) n bytes h = absurd h
means_low (for_sample seed m) [] n bytes h = subst (λ k. k ≤ 2) (sym h.status_is) (claim_low _)
means_low (for_sample seed m) (x ∷ more) n bytes h = absurd h

pub is_answered : (o : Outside) (left : Meaning) (n : ℕ) → Prints o left n → IsAnswered n
is_answered o left n p = let h = says_headline o left n p in means_low h.read h.texts n h.bytes h.means

-- ---- what was refused
refusal_high : (z : Refusal) → 3 ≤ status_of z
refusal_high r.Usage = lit≤ tt
refusal_high (r.Unread name) = lit≤ tt
refusal_high (r.BadCertificate line) = lit≤ tt
refusal_high (r.Source at w) = lit≤ tt
refusal_high (r.TooLarge s w n) = lit≤ tt
refusal_high (r.PastPivot p n) = lit≤ tt
refusal_high (r.PastFold c i) = lit≤ tt
refusal_high (r.Spent p) = lit≤ tt
refusal_high (r.Rejected c i) = lit≤ tt
refusal_high r.Unwritten = lit≤ tt
refusal_high r.NoMemory = lit≤ tt

pub not_answered : (z : Refusal) (err : Stream) (n : ℕ) → IsReported z err n → IsAnswered n → ⊥
not_answered z err n (inl (e, s)) l = let h : 3 ≤ status_of z = refusal_high z in omega arith
not_answered z err n (inr (b, e, s)) l = omega arith

pub early : (z : Refusal) (err : Stream) (n : ℕ) → IsReported z err n → n ≢ status.write_fault → IsEarly z
early r.Unwritten err n (inl (e, s)) h = h e
early r.Unwritten err n (inr (b, e, s)) h = b
early _ err n k h = tt

module _ (o : Outside) where
  -- texts that were handed out for what is asked
  pub handed_for : (q : Reading) (texts : List Bytes) → IsReading o.words q → IsFetched o.store (files_of q) texts → AreHandedOut o texts
  handed_for q texts k f = record { files = files_of q; named = inr (q, k, refl); given = f.given; theirs = f.theirs }

  due_of : (z : Refusal) (q : Reading) → IsReading o.words q → (texts : List Bytes) × IsFetched o.store (files_of q) texts × ReadingEnds q texts (Refused z) → IsDue o z
  due_of z q k (texts, f, d) = record { texts = texts; handed = handed_for q texts k f; due = asked q k d }

  pub cause_of : (z : Refusal) → IsUnprinted o.words o.store o.out z → HasCause o z
  cause_of r.Usage h = record {
    texts = [];
    handed = record { files = []; named = inl (h.0, refl); given = h.1; theirs = tt };
    due = usage h.0 refl refl;
  }
  cause_of (r.Unread name) h = record { files = files_of h.0; named = inr (h.0, h.1, refl); stopped = h.2.stopped; first = h.2.first }
  cause_of r.Unwritten h = record {
    texts = h.due.2.texts;
    handed = handed_for h.due.0 h.due.2.texts h.due.1 h.due.2.fetched;
    output = output h.status h.bytes h.due.2.rest;
    due = asked h.due.0 h.due.1 h.due.2.due;
    part = h.part;
  }
  cause_of r.NoMemory h = tt
  cause_of (r.BadCertificate n) h = due_of (r.BadCertificate n) h.0 h.1 h.2
  cause_of (r.Source at w) h = due_of (r.Source at w) h.0 h.1 h.2
  cause_of (r.TooLarge s w n) h = due_of (r.TooLarge s w n) h.0 h.1 h.2
  cause_of (r.PastPivot p n) h = due_of (r.PastPivot p n) h.0 h.1 h.2
  cause_of (r.PastFold c n) h = due_of (r.PastFold c n) h.0 h.1 h.2
  cause_of (r.Spent p) h = due_of (r.Spent p) h.0 h.1 h.2
  cause_of (r.Rejected c n) h = due_of (r.Rejected c n) h.0 h.1 h.2

  pub refuses : (z : Refusal) (n : ℕ) → IsUnprinted o.words o.store o.out z → IsReported z o.err n → Refuses o n
  refuses z n h (inl (e, s)) = record { refusal = z; status_is = e; cause = cause_of z h; line = s }
  refuses z n h (inr (b, e, s)) = record { refusal = r.NoMemory; status_is = e; cause = tt; line = s }

-- ---- completeness: of files that are told and a store that counted no fault
told_same : (told : Option Files) (fs : List File) (xs ys : List Bytes) → AreTold told fs xs → AreTexts told fs ys → xs ≡ ys
told_same told [] [] [] h k = refl
told_same told [] [] (y ∷ ys) h k = absurd k
told_same told [] (x ∷ xs) ys h k = absurd h
told_same None (f ∷ fs) xs ys h k = absurd h
told_same (Some files) (f ∷ fs) [] ys h k = absurd h
told_same (Some files) (f ∷ fs) (x ∷ xs) [] h k = absurd k
told_same (Some files) (f ∷ fs) (x ∷ xs) (y ∷ ys) h k =
    let e : x ≡ y = one_text h.0 k.0 in
    let g : xs ≡ ys = told_same (Some files) fs xs ys h.1 k.1 in
    λ i. e i ∷ g i
  where
    one_text : {o : Option Bytes} {a b : Bytes} → o ≡ Some a → o ≡ Some b → a ≡ b
    one_text p q = cc

absent_or_text : (told : Option Files) (f : File) (x : Bytes) → IsAbsent told f.name → IsTextOf told f.name f.limit x → ⊥
absent_or_text None f x a t = absurd a
absent_or_text (Some files) f x a t = let e : _ = rw a at t in cc

unread_or_told : (told : Option Files) (C : Type 0) (fs : List File) (xs : List Bytes) (name : Bytes) → ¬ C → AreTold told fs xs → IsFirstUnread told C fs name → ⊥
unread_or_told told C [] xs name n h k = k
unread_or_told None C (f ∷ fs) xs name n h k = absurd h
unread_or_told (Some files) C (f ∷ fs) [] name n h k = absurd h
unread_or_told (Some files) C (f ∷ fs) (x ∷ xs) name n h (inl (e, inl c)) = n c
unread_or_told (Some files) C (f ∷ fs) (x ∷ xs) name n h (inl (e, inr a)) = absent_or_text (Some files) f x a h.0
unread_or_told (Some files) C (f ∷ fs) (x ∷ xs) name n h (inr k) = unread_or_told (Some files) C fs xs name n h.1 k.2

missing_or_texts : (told : Option Files) (fs : List File) (xs : List Bytes) → IsMissing told fs → AreTexts told fs xs → ⊥
missing_or_texts told [] xs h k = h
missing_or_texts told (f ∷ fs) [] h k = absurd k
missing_or_texts told (f ∷ fs) (x ∷ xs) (inl a) k = absent_or_text told f x a k.0
missing_or_texts told (f ∷ fs) (x ∷ xs) (inr h) k = missing_or_texts told fs xs h k.1

printed_same : (p q : Output) → ◌≡◌ {A = End} (Printed p) (Printed q) → p ≡ q
printed_same p q e = cc

refused_same : (p q : Refusal) → ◌≡◌ {A = End} (Refused p) (Refused q) → p ≡ q
refused_same p q e = cc

printed_or_refused : (p : Output) (q : Refusal) → ◌≡◌ {A = End} (Printed p) (Refused q) → ⊥
printed_or_refused p q e = cc

module _ (o : Outside) (n : ℕ) where
  -- the answer over told files is the one over the texts that were handed out
  same_end : (texts more : List Bytes) (files : List File) (a b : End) → AreHandedOut o texts → Names o.words files → AreTold o.store.files files more
      → Answers o.words texts a → Answers o.words more b → a ≡ b
  same_end texts more files a b h k t d e =
      let f : h.files ≡ files = one_list o.words h.files files h.named k in
      let s : more ≡ texts = told_same o.store.files files more texts t (subst (λ z. AreTexts o.store.files z texts) f h.theirs) in
      one_answer o.words texts a b d (subst (λ z. Answers o.words z b) s e)

  printed_end : (p : Output) (e : End) → Printed p ≡ e → n ≡ p.status → Gains o.out p.bytes → IsEnd o n e
  printed_end p (Refused z) d s g = absurd (printed_or_refused p z d)
  printed_end p (Printed q) d s g = λ c.
      let f = printed_same p q d in
      (s ∙ ap (λ (v : Output). v.status) f, subst (Gains o.out) (ap (λ (v : Output). v.bytes) f) g)

  refused_end : (z : Refusal) (e : End) → Refused z ≡ e → n ≡ status_of z → IsEnd o n e
  refused_end z (Refused q) d s = s ∙ ap status_of (refused_same z q d)
  refused_end z (Printed p) d s = absurd (printed_or_refused p z (sym d))

  cut_end : (p : Output) (e : End) → Printed p ≡ e → Rose o.out.faults o.out.later → IsEnd o n e
  cut_end p (Refused z) d s = absurd (printed_or_refused p z d)
  cut_end p (Printed q) d s = λ c. absurd (c s)

  pub prints_complete : (left : Meaning) → Prints o left n → Completes o n
  prints_complete left p files texts e k t c d =
      inl (printed_end p.output e (same_end p.texts texts files (Printed p.output) e p.handed k t p.due d) p.status_is p.added)

  due_complete : (z : Refusal) → n ≡ status_of z → IsDue o z → Completes o n
  due_complete z s h files texts e k t c d =
      inl (refused_end z e (same_end h.texts texts files (Refused z) e h.handed k t h.due d) s)

  unread_complete : (name : Bytes) → IsUnread o name → Completes o n
  unread_complete name h files texts e k t c d = absurd (go files c t (subst (λ z. IsFirstUnread o.store.files _ z name) (one_list o.words h.files files h.named k) h.first))
    where
      go : (files : List File) → IsCalm o.store files → AreTold o.store.files files texts → IsFirstUnread o.store.files (Rose o.store.faults o.store.later) files name → ⊥
      go [] c t f = f
      go (g ∷ gs) c t f = unread_or_told o.store.files (Rose o.store.faults o.store.later) (g ∷ gs) texts name c t f

  cut_complete : IsCut o → Completes o n
  cut_complete h files texts e k t c d =
      inl (cut_end h.output e (same_end h.texts texts files (Printed h.output) e h.handed k t h.due d) h.part.0)

  complete_by : (z : Refusal) → n ≡ status_of z → HasCause o z → Completes o n
  complete_by r.Usage s h = due_complete r.Usage s h
  complete_by (r.Unread name) s h = unread_complete (string_bytes name) h
  complete_by (r.BadCertificate l) s h = due_complete (r.BadCertificate l) s h
  complete_by (r.Source at w) s h = due_complete (r.Source at w) s h
  complete_by (r.TooLarge d w m) s h = due_complete (r.TooLarge d w m) s h
  complete_by (r.PastPivot p m) s h = due_complete (r.PastPivot p m) s h
  complete_by (r.PastFold c m) s h = due_complete (r.PastFold c m) s h
  complete_by (r.Spent p) s h = due_complete (r.Spent p) s h
  complete_by (r.Rejected c m) s h = due_complete (r.Rejected c m) s h
  complete_by r.Unwritten s h = cut_complete h
  complete_by r.NoMemory s h = λ files texts e k t c d. inr s

  pub refuses_complete : Refuses o n → Completes o n
  refuses_complete h = complete_by h.refusal h.status_is h.cause

  -- ---- a file that isn't there
  handed_or_missing : (texts : List Bytes) (files : List File) → AreHandedOut o texts → Names o.words files → IsMissing o.store.files files → ⊥
  handed_or_missing texts files h k m =
      missing_or_texts o.store.files files texts m (subst (λ z. AreTexts o.store.files z texts) (one_list o.words h.files files h.named k) h.theirs)

  pub prints_found : (left : Meaning) → Prints o left n → FindsMissing o n
  prints_found left p files k m = absurd (handed_or_missing p.texts files p.handed k m)

  due_found : (z : Refusal) → IsDue o z → FindsMissing o n
  due_found z h files k m = absurd (handed_or_missing h.texts files h.handed k m)

  found_by : (z : Refusal) → n ≡ status_of z → HasCause o z → FindsMissing o n
  found_by r.Usage s h = due_found r.Usage h
  found_by (r.Unread name) s h = λ files k m. inl s
  found_by (r.BadCertificate l) s h = due_found (r.BadCertificate l) h
  found_by (r.Source at w) s h = due_found (r.Source at w) h
  found_by (r.TooLarge d w l) s h = due_found (r.TooLarge d w l) h
  found_by (r.PastPivot p l) s h = due_found (r.PastPivot p l) h
  found_by (r.PastFold c l) s h = due_found (r.PastFold c l) h
  found_by (r.Spent p) s h = due_found (r.Spent p) h
  found_by (r.Rejected c l) s h = due_found (r.Rejected c l) h
  found_by r.Unwritten s h = λ files k m. absurd (handed_or_missing h.texts files h.handed k m)
  found_by r.NoMemory s h = λ files k m. inr s

  pub refuses_found : Refuses o n → FindsMissing o n
  refuses_found h = found_by h.refusal h.status_is h.cause

-- ---- what an attempt to print refuses
pub unprinted : (words : List Bytes) (v : Visit) (out : Stream) (z : Refusal) → IsRefusedFor v words z → IsUnprinted words v out z
unprinted words v out r.Unwritten h = absurd h.2
unprinted words v out _ h = h

pub gained : (s : Stream) (xs ys : Bytes) → xs ≡ ys → Gains s xs → Gains s ys
gained s xs ys e h = subst (Gains s) e h

pub gained_part : (s : Stream) (xs ys : Bytes) → xs ≡ ys → Rose s.faults s.later → (k : ℕ) × (k < length xs) × Gains s (take k xs) → GainsPart s ys
gained_part s xs ys e c (k, l, h) = subst (GainsPart s) e (c, k, l, h)
