-- Words have one reading at most: a further command is a case more in `same_asked` and in `by`.
use Rattle.std.proofs.Common.{◌≡◌, ◌∙◌, ℕ, Bool, true, false, List, [], ◌∷◌, Option, Some, None, refl, sym, ap, subst, arith, length, codes}
use Rattle.std.specs.Prelude.{option_map, slice_get}
use Rattle.clap.specs.Walk.{Row, Text, first_of, one_of}
use Rattle.dc_cert.specs.declared.certificate.Settings.{Settings}
use Rattle.dc_words.specs.Taken.{line_rows, number_of}
use Rattle.dc_words.specs.Reading.{Reading, for_analyse, for_check, for_sample, Command, to_analyse, to_check, to_sample, name_of, clap_of, command_of, IsNumberIn, row_name, IsSettings, IsAnalyse, IsCheck, IsSample, IsAsked, IsLine, IsReading}

same_text : {o : Option Text} {x y : Text} → o ≡ Some x → o ≡ Some y → x ≡ y
same_text {o} {x} {y} h k = let e : Some x ≡ Some y = sym h ∙ k in cc

same_number : {o : Option ℕ} {x y : ℕ} → o ≡ Some x → o ≡ Some y → x ≡ y
same_number {o} {x} {y} h k = let e : Some x ≡ Some y = sym h ∙ k in cc

longer : (x y : Text) → length x ≡ 5 → length y ≡ 9 → x ≡ y → ⊥
longer x y h k e = let l : length x ≡ length y = ap length e in absurd (omega arith)

same_row : (p q : Bool) → row_name p ≡ row_name q → p ≡ q
same_row true true e = refl
same_row false false e = refl
same_row true false e = absurd (longer (codes "pairs") (codes "intervals") refl refl e)
same_row false true e = absurd (longer (codes "pairs") (codes "intervals") refl refl (sym e))

same_settings : (rows : List Row) (s t : Settings) → IsSettings rows s → IsSettings rows t → s ≡ t
same_settings rows s t h k =
    let a : s.degree ≡ t.degree = same_number h.degree_is k.degree_is in
    let b : s.products ≡ t.products = same_number h.products_is k.products_is in
    let c : s.pairs ≡ t.pairs = same_row s.pairs t.pairs (same_text h.pairs_is k.pairs_is) in
    let d : s.pivots ≡ t.pivots = same_number h.pivots_is k.pivots_is in
    λ i. record { degree = a i; products = b i; pairs = c i; pivots = d i }

same_analyse : (rows : List Row) (a b : Reading) → IsAnalyse rows a → IsAnalyse rows b → a ≡ b
same_analyse rows (for_analyse n o w s) (for_analyse m p v t) h k =
    let a : n ≡ m = same_text h.0 k.0 in
    let b : o ≡ p = same_text h.1 k.1 in
    let c : w ≡ v = sym h.2 ∙ k.2 in
    let d : s ≡ t = same_settings rows s t h.3 k.3 in
    λ i. for_analyse (a i) (b i) (c i) (d i)
same_analyse rows (for_analyse n o w s) _ h k = absurd k
same_analyse rows _ b h k = absurd h

same_check : (rows : List Row) (a b : Reading) → IsCheck rows a → IsCheck rows b → a ≡ b
same_check rows (for_check n o c w) (for_check m p d v) h k =
    let e : n ≡ m = same_text h.0 k.0 in
    let f : o ≡ p = same_text h.1 k.1 in
    let g : c ≡ d = same_text h.2 k.2 in
    let j : w ≡ v = sym h.3 ∙ k.3 in
    λ i. for_check (e i) (f i) (g i) (j i)
same_check rows (for_check n o c w) _ h k = absurd k
same_check rows _ b h k = absurd h

same_sample : (rows : List Row) (a b : Reading) → IsSample rows a → IsSample rows b → a ≡ b
same_sample rows (for_sample s c) (for_sample t d) h k =
    let e : s ≡ t = same_number h.0.0 k.0.0 in
    let f : c ≡ d = same_number h.1.0 k.1.0 in
    λ i. for_sample (e i) (f i)
same_sample rows (for_sample s c) _ h k = absurd k
same_sample rows _ b h k = absurd h

same_asked : (command : Command) (rows : List Row) (a b : Reading) → IsAsked command rows a → IsAsked command rows b → a ≡ b
same_asked to_analyse = same_analyse
same_asked to_check = same_check
same_asked to_sample = same_sample

-- the first word names one command at most
pub named_command : (command : Command) (words : List Text) → slice_get words 0 ≡ Some (name_of command) → command_of words ≡ Some command
named_command command [] h = absurd (let e : ◌≡◌ {A = Option Text} None (Some (name_of command)) = h in cc)
named_command command (word ∷ rest) h =
    let e : word ≡ name_of command = (let f : ◌≡◌ {A = Option Text} (Some word) (Some (name_of command)) = h in cc) in
    subst (λ w. command_of (w ∷ rest) ≡ Some command) (sym e) (by command)
  where
    by : (command : Command) → command_of (name_of command ∷ rest) ≡ Some command
    by to_analyse = refl
    by to_check = refl
    by to_sample = refl

same_command : {o : Option Command} {x y : Command} → o ≡ Some x → o ≡ Some y → x ≡ y
same_command {o} {x} {y} h k = let e : Some x ≡ Some y = sym h ∙ k in cc

pub one_reading : (words : List Text) (a b : Reading) → IsReading words a → IsReading words b → a ≡ b
one_reading words a b (c, h) (d, k) =
    let e : d ≡ c = same_command (named_command d words k.named) (named_command c words h.named) in
    let l : IsLine c words b = subst (λ x. IsLine x words b) e k in
    same_asked c (line_rows (clap_of c) words) a b h.asked l.asked
