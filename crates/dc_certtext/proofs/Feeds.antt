-- No line that is read has a line feed.
use Rattle.std.specs.Prelude.{ℕ, suc, Bool, true, false, cond, eqb, List, [], ◌∷◌, ◌++◌, length, codes, refl}
use Rattle.std.proofs.Common.{subst, arith, inl, inr}
use Rattle.std.specs.Fmt.{decimal}
use Rattle.dc_cert.specs.declared.sparse.Item.{Item}
use Rattle.dc_cert.specs.declared.certificate.Liveness.{Liveness}
use Rattle.dc_cert.specs.declared.certificate.Liveness.TheVariants.{Dead, Live}
use Rattle.dc_cert.specs.Vectors.{AreItems}
use Rattle.dc_cert.specs.Ranges.{IsShown}
use Rattle.dc_certtext.specs.declared.stage.Found.{Found}
use Rattle.dc_certtext.specs.declared.stage.Found.TheVariants as F
use Rattle.dc_certtext.specs.declared.stage.Stage.{Stage}
use Rattle.dc_certtext.specs.declared.stage.Stage.TheVariants.{Start, Whole, Version, Sizes, Cases, Heads, Opened, Locations, Entries, Edges, Between, Closed, Main, End, Done}
use Rattle.dc_lines.specs.Bytes.{Bytes, spaced}
use Rattle.dc_certtext.specs.Words.{item_text, vector_text, atom_text, frac_text}
use Rattle.dc_lines.specs.Cuts.{Lacks}
use Rattle.dc_lines.proofs.Cutting.{lacks, lacks-append, word-lacks}
use Rattle.dc_lines.proofs.Numerals.{number-lacks, signed-lacks, numbers-lack}
use Rattle.dc_certtext.proofs.Fractions.{frac_lacks}
use Rattle.dc_certtext.specs.Text.{shown_text, numbered, entry_line}
use Rattle.dc_certtext.specs.Offers.{Then, plain, vector, shown, atom, fraction, number, sizes, Offer, Takes, Any}
use Rattle.dc_certtext.specs.Stages.{offers}
use Rattle.dc_certtext.specs.Due.{due}

-- ---- words and numbers
items-lack : (low : ℕ) (is : List Item) → AreItems low is → Lacks 10 (spaced item_text is)
items-lack low [] h = tt
items-lack low (i ∷ is) h = (
  (λ e. omega arith),
  lacks-append 10 (item_text i) (spaced item_text is)
      (lacks-append 10 (decimal i.index) (58 ∷ frac_text i.value) (number-lacks i.index) ((λ e. omega arith), frac_lacks 10 i.value (inl (omega arith)) h.1.small)) (items-lack (suc i.index) is h.2),
)

shown-lacks : (l : Liveness) → IsShown l → Lacks 10 (shown_text l)
unfolding lacks
shown-lacks (Dead s) h = lacks-append 10 (codes " dead") (vector_text s) (word-lacks (codes " dead") refl) (items-lack 0 s.items h)
shown-lacks (Live s) h = lacks-append 10 (codes " live") (vector_text s) (word-lacks (codes " live") refl) (items-lack 0 s.items h)

-- ---- lines
taken-lacks : (k : Bytes) (n : Then) (b : Bytes) (t : Stage) → Lacks 10 k → Takes k n b t → Lacks 10 b
unfolding lacks
taken-lacks k (plain f) b t l h = subst (Lacks 10) h.0 l
taken-lacks k (vector f) b t l h = subst (Lacks 10) h.2 (lacks-append 10 k (vector_text h.0) l (items-lack 0 h.0.items h.1))
taken-lacks k (shown f) b t l h = subst (Lacks 10) h.2 (lacks-append 10 k (shown_text h.0) l (shown-lacks h.0 h.1))
taken-lacks k (atom f) b t l h = subst (Lacks 10) h.2 (lacks-append 10 k (atom_text h.0) l (numbers-lack (h.0.c0 ∷ h.0.coefs)))
taken-lacks k (fraction f) b t l h = subst (Lacks 10) h.2 (lacks-append 10 k (frac_text h.0) l (frac_lacks 10 h.0 (inl (omega arith)) h.1))
taken-lacks k (number low high f) b t l h = subst (Lacks 10) h.2 (lacks-append 10 k (decimal h.0) l (number-lacks h.0))
taken-lacks k (sizes f) b t l h =
    subst (Lacks 10) h.3
    (lacks-append 10 k (decimal h.0 ++ (codes " products " ++ decimal h.1)) l
    (lacks-append 10 (decimal h.0) (codes " products " ++ decimal h.1) (number-lacks h.0) (lacks-append 10 (codes " products ") (decimal h.1) (word-lacks (codes " products ") refl) (number-lacks h.1))))

abbrev pub Words : List Offer → Type 0
Words [] = Unit {0}
Words (o ∷ os) = Lacks 10 o.key × Words os

any-lacks : (os : List Offer) (b : Bytes) (t : Stage) → Words os → Any os b t → Lacks 10 b
any-lacks [] b t w h = absurd h
any-lacks (o ∷ os) b t w (inl h) = taken-lacks o.key o.next b t w.0 h.1
any-lacks (o ∷ os) b t w (inr h) = any-lacks os b t w.1 h

numbered-lacks : (w : Bytes) (n : ℕ) → Lacks 10 w → Lacks 10 (numbered w n)
numbered-lacks w n h = lacks-append 10 w (decimal n) h (number-lacks n)

entry-lacks : (v n : ℕ) → Lacks 10 (entry_line v n)
unfolding lacks
entry-lacks v n = lacks-append 10 (codes "entry") (cond (eqb v 1) [] (32 ∷ decimal n)) (word-lacks (codes "entry") refl) (by (eqb v 1))
  where
    by : (t : Bool) → Lacks 10 (cond t [] (32 ∷ decimal n))
    by true = tt
    by false = ((λ e. omega arith), number-lacks n)

due-lacks : (f : Found) → Lacks 10 (due f)
unfolding lacks
due-lacks (F.Threshold t) = word-lacks (codes "unknown") refl
due-lacks (F.ThresholdUnknown t u) = word-lacks (codes "lambda") refl
due-lacks (F.ThresholdLambda t u l) = word-lacks (codes "dual") refl
due-lacks F.Nothing = word-lacks (codes "dual") refl
due-lacks F.Vacuous = word-lacks (codes "unknown") refl
due-lacks (F.VacuousUnknown u) = word-lacks (codes "lambda") refl
due-lacks (F.VacuousLambda u l) = word-lacks (codes "ray unknown") refl
due-lacks (F.VacuousRay u l r) = word-lacks (codes "ray lambda") refl

words : (s : Stage) → Words (offers s)
unfolding lacks
words Start = (word-lacks (codes "threshold ") refl, (word-lacks (codes "none") refl, (word-lacks (codes "vacuous") refl, tt)))
words (Whole t) = (lacks-append 10 (codes "whole ") _ (word-lacks (codes "whole ") refl) (signed-lacks _), tt)
words (Version c) = (word-lacks (codes "diffcost ") refl, tt)
words (Sizes c v) = (word-lacks (codes "degree ") refl, tt)
words (Cases c d k) = (word-lacks (codes "cases ") refl, tt)
words (Heads h) = (word-lacks (codes "when") refl, (word-lacks (codes "side new") refl, tt))
words (Opened f) = (numbered-lacks (codes "location ") 0 (word-lacks (codes "location ") refl), tt)
words (Locations f done last) = (word-lacks (codes "atom") refl, (numbered-lacks (codes "location ") (suc (length done)) (word-lacks (codes "location ") refl), (entry-lacks f.head.version 0, tt)))
words (Entries f fam done last) = (word-lacks (codes "keep") refl, (entry-lacks f.head.version (suc (length done)), (numbered-lacks (codes "edge ") 0 (word-lacks (codes "edge ") refl), (word-lacks (codes "exit") refl, tt))))
words (Edges f fam ents done live last) = (word-lacks (codes "keep") refl, (numbered-lacks (codes "edge ") (suc (length done)) (word-lacks (codes "edge ") refl), (word-lacks (codes "exit") refl, tt)))
words (Between h n) = (word-lacks (codes "side old") refl, tt)
words (Closed h n o) = (word-lacks (codes "main") refl, tt)
words (Main h n o found) = (due-lacks found, tt)
words (End c) = (word-lacks (codes "end") refl, tt)
words (Done c) = tt

pub line-lacks : (s : Stage) (b : Bytes) (t : Stage) → Any (offers s) b t → Lacks 10 b
line-lacks s b t a = any-lacks (offers s) b t (words s) a
