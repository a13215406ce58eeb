-- What a command's matches hold, where it takes the words.
use Rattle.std.proofs.Common.{◌≡◌, ◌⊎◌, inl, inr, refl, sym, ap, ◌∙◌, subst, ℕ, Bool, true, false, true≢false, not, ◌&&◌, ◌||◌, List, [], ◌∷◌, Option, Some, None, is_some}
use Rattle.std.specs.Prelude.{find, pos, slice_get, option_map, option_and_then}
use Rattle.std.specs.List.{list_any, AllByRecursion}
use Rattle.std.specs.Str.{bytes_eq}
use Rattle.std.proofs.lemmas.Slice.Eq.{bytes_eq-Decides}
use Rattle.clap.specs.Lexer.{without_minus}
use Rattle.clap.specs.Values.{read_as, IsSignedIn, IsUnsignedIn}
use Rattle.clap.specs.Kinds.{check_kinds}
use Rattle.clap.specs.Takes.{is_given}
use Rattle.clap.specs.Walk.{Held, Row, Rule, Text, first_of, one_of, row_text, reading_by, finished, settled, walk, walk_from, nothing_held, is_empty}
use Rattle.clap.specs.Simple.{Shape, entered}
use Rattle.clap.specs.Faults.{walk_fault, settle_fault, defaults_fault, check_fault, level_fault, built_fault, entered_fault}
use Rattle.clap.proofs.WalkLemmas.{both}
use Rattle.clap.proofs.SimpleLemmas.{is_false}
use Rattle.dc_words.specs.Rules.{has_distinct_ids}
use Rattle.dc_words.specs.Taken.{number_of}
use Rattle.dc_words.specs.Reading.{IsNumberIn}
use Rattle.dc_words.proofs.Numbers.{signed_range, unsigned_range}
use Rattle.dc_words.proofs.Steps.{first_none, then_none, settled_good, walk_good}
use Rattle.dc_words.proofs.Held.{IsRow, Good, found_row, IsIn, IsPlain, each_keeps, defaults_good, default_there, required_there}

-- ---- no two arguments have one id
abbrev IsOnly : Rule → Rule → Type 0
IsOnly a b = bytes_eq b.id a.id ≡ true → b ≡ a

none_at : (x : Text) (a : Rule) (c : List Rule) → list_any (λ q. bytes_eq q.id x) c ≡ false → IsIn a c → bytes_eq a.id x ≡ false
none_at x a [] e i = absurd i
none_at x a (b ∷ c) e i = by (none_at x a c) (bytes_eq b.id x) refl e i
  where
    by : (list_any (λ q. bytes_eq q.id x) c ≡ false → IsIn a c → bytes_eq a.id x ≡ false) → (t : Bool) → bytes_eq b.id x ≡ t → (t || list_any (λ q. bytes_eq q.id x) c) ≡ false → (b ≡ a) ⊎ IsIn a c → bytes_eq a.id x ≡ false
    by more true f e i = absurd (true≢false e)
    by more false f e (inl s) = subst (λ (z : Rule). bytes_eq z.id x ≡ false) s f
    by more false f e (inr i) = more e i

none_same : (a : Rule) (c : List Rule) → list_any (λ q. bytes_eq q.id a.id) c ≡ false → AllByRecursion (IsOnly a) c
none_same a [] e = tt
none_same a (b ∷ c) e = by (none_same a c) (bytes_eq b.id a.id) refl e
  where
    by : (list_any (λ q. bytes_eq q.id a.id) c ≡ false → AllByRecursion (IsOnly a) c) → (t : Bool) → bytes_eq b.id a.id ≡ t → (t || list_any (λ q. bytes_eq q.id a.id) c) ≡ false → IsOnly a b × AllByRecursion (IsOnly a) c
    by more true f e = absurd (true≢false e)
    by more false f e = (λ g. absurd (true≢false (sym g ∙ f)), more e)

only : (c : List Rule) → has_distinct_ids c ≡ true → (a : Rule) → IsIn a c → AllByRecursion (IsOnly a) c
only [] h a i = tt
only (b ∷ c) h a (inl e) = (λ g. e, subst (λ z. AllByRecursion (IsOnly z) c) e (none_same b c (is_false _ (both _ _ h).0)))
only (b ∷ c) h a (inr i) =
    let apart : bytes_eq a.id b.id ≡ false = none_at b.id a c (is_false _ (both _ _ h).0) i in
    (λ g. absurd (true≢false (sym ((bytes_eq-Decides a.id b.id).1 (sym ((bytes_eq-Decides b.id a.id).0 g))) ∙ apart)), only c (both _ _ h).1 a i)

-- ---- the tests
last_none : (x y z : Bool) → check_kinds x y z ≡ [] → z ≡ false
last_none true y z e = absurd cc
last_none false true z e = absurd cc
last_none false false true e = absurd cc
last_none false false false e = refl

free : (b x : Bool) → (not (b && false) && x) ≡ false → x ≡ false
free true x e = e
free false x e = e

-- a command without subcommands
pub plain_level : (s : Shape) (words : List Text) → built_fault (record { top = s; subs = [] }) nothing_held words ≡ [] → level_fault s [] nothing_held words false [] ≡ []
plain_level s words e = go (walk s.rules [] nothing_held words).stopped e
  where
    go : (o : Option (Text × List Text)) → level_fault s [] nothing_held words (is_some (entered (record { top = s; subs = [] }) o)) (entered_fault (record { top = s; subs = [] }) o) ≡ []
        → level_fault s [] nothing_held words false [] ≡ []
    go None e = e
    go (Some p) e = e

-- ---- what is held
-- the row of an argument
abbrev pub HasRow : Rule → List Row → Type 0
HasRow a rows = (r : Row) × (find (λ q. bytes_eq q.id a.id) rows ≡ Some r) × IsRow a r

module _ (s : Shape) (distinct : has_distinct_ids s.rules ≡ true) (plain : AllByRecursion IsPlain s.rules) (words : List Text) (e : level_fault s [] nothing_held words false [] ≡ []) where
  abbrev before : List Row
  before = (settled s.rules (walk s.rules [] nothing_held words).held).rows

  abbrev matches : List Row
  matches = finished s.rules (walk s.rules [] nothing_held words).held

  abbrev last : Held
  last = (walk s.rules [] nothing_held words).held

  walked_well : walk_fault s [] (walk_from nothing_held) words ≡ []
  walked_well = first_none (walk_fault s [] (walk_from nothing_held) words) _ e

  settled_well : settle_fault s.rules s.args_override_self last ≡ []
  settled_well = first_none (settle_fault s.rules s.args_override_self last) _ (then_none (walk_fault s [] (walk_from nothing_held) words) _ e)

  defaults_well : defaults_fault before s.rules ≡ []
  defaults_well =
      first_none (defaults_fault before s.rules) _ (then_none (settle_fault s.rules s.args_override_self last) _ (then_none (walk_fault s [] (walk_from nothing_held) words) _ e))

  check_well : check_fault s matches false ≡ []
  check_well =
      then_none (defaults_fault before s.rules) _ (then_none (settle_fault s.rules s.args_override_self last) _ (then_none (walk_fault s [] (walk_from nothing_held) words) _ e))

  rows_good : (a : Rule) → IsIn a s.rules → Good a matches
  rows_good a i =
      let one = only s.rules distinct a i in
      let keeps = each_keeps a s.rules one plain in
      defaults_good a s.rules one before defaults_well
      (settled_good (Good a) s.rules keeps s.args_override_self last settled_well (walk_good (Good a) s keeps [] (walk_from nothing_held) words walked_well tt))

  none_missing : list_any (λ b. b.required && not (is_given b.id matches)) s.rules ≡ false
  none_missing = free s.subcommand_negates_reqs _ (last_none _ _ _ check_well)

  pub required_row : (a : Rule) → IsIn a s.rules → a.required ≡ true → HasRow a matches
  required_row a i q = found_row a matches (rows_good a i) (required_there a s.rules matches i q none_missing)

  pub default_row : (a : Rule) → IsIn a s.rules → is_empty a.defaults ≡ false → HasRow a matches
  default_row a i some = found_row a matches (rows_good a i) (default_there a s.rules i some before)

-- ---- its values
pub first_row : (a : Rule) (rows : List Row) (h : HasRow a rows) → first_of a.id rows ≡ Some h.2.value
first_row a rows h = ap (option_and_then (λ (q : Row). slice_get q.values 0)) h.1 ∙ h.2.first

pub one_row : (a : Rule) (rows : List Row) (h : HasRow a rows) → one_of a.id rows ≡ Some (read_as (reading_by a) h.2.value)
one_row a rows h =
    let r = h.0 in
    let read : row_text r ≡ Some (read_as r.reading h.2.value) = ap (option_map (read_as r.reading)) h.2.first in
    ap (option_and_then row_text) h.1 ∙ (read ∙ ap (λ m. Some (read_as m h.2.value)) h.2.reading)

pub signed_number : (low high : ℕ) (id : Text) (rows : List Row) (v : Text) → IsSignedIn (pos low) (pos high) v → one_of id rows ≡ Some (without_minus v)
    → (n : ℕ) × IsNumberIn low high id rows n
signed_number low high id rows v k e =
    let g = signed_range low high v k in
    (number_of (without_minus v), (ap (option_map number_of) e, g.least, g.most))

pub unsigned_number : (low high : ℕ) (id : Text) (rows : List Row) (v : Text) → IsUnsignedIn low high v → one_of id rows ≡ Some v
    → (n : ℕ) × IsNumberIn low high id rows n
unsigned_number low high id rows v k e =
    let g = unsigned_range low high v k in
    (number_of v, (ap (option_map number_of) e, g.least, g.most))
