-- A parser of names looks at the names alone, and not at where they lie: the walk over the words.
use Rattle.std.proofs.Common.{◌≡◌, ◌∙◌, ◌&&◌, ◌||◌, ℕ, Bool, false, zero, suc, List, [], ◌∷◌, map, length, drop, Option, Some, None, is_some, refl, sym, ap, ap₂}
use Rattle.std.specs.Option.{option_map_or}
use Rattle.std.specs.Prelude.{not, ◌==◌, fold, option_map, encode_utf8, slice_get, if◌then◌else◌}
use Rattle.std.specs.List.{list_any}
use Rattle.std.specs.Str.{bytes_eq, chars}
use Rattle.std.specs.Borrow.{Bor}
use Rattle.clap.specs.Lexer.{long_of, short_of}
use Rattle.clap.specs.Facts.{parser_of_value}
use Rattle.clap.specs.Values.{reading_of, refused_kind, same_text}
use Rattle.clap.specs.ValueTests.{accepts}
use Rattle.clap.specs.Walk.{Held, Names, Outcome, done, waits, plain, Row, Rule, Step, next, trailing, value, Text, Waiting, idle, option, positional, Walk}
use Rattle.clap.specs.Walk.{action_of, arg_by_id, arg_by_index, arg_by_long, arg_by_short, attached_value, has_long, has_row, has_short, is_pending, option_word, pushed, takes_several, takes_values, values_or_missing}
use Rattle.clap.specs.Walk.{used, used_as, used_by_id, settled_rows, settled, reacted, reading_by, option_met, flag_met, long_met, short_met, bundle_step, bundle_met, bundle, plain_word, after_flag, long_word, short_word, short_or_plain, long_or_other}
use Rattle.clap.specs.Walk.{subcommand_or_other, subcommand_met, word_met, positional_held, to_positional, after_step, walked_from, walked, walk, walk_from, with_default, default_rows, finished, rows_after, nothing_held, is_multiple, next_position}
use Rattle.clap.specs.declared.builder.value_parser.ValueParser.{ValueParser}
use Rattle.clap.specs.declared.builder.value_parser.ValueParser.TheVariants as vp
use Rattle.clap.proofs.WalkLemmas.{find-map, list_any-map}
use Rattle.dc_words.specs.Rules.{Lent, lent, texts_of}

-- the same parser, whose names lie at one address
abbrev pub settled_parser : ValueParser → ValueParser
settled_parser (vp.Names names) = vp.Names (lent (texts_of names))
settled_parser parser = parser

abbrev pub at_one_address : Rule → Rule
at_one_address a = record a { parser = option_map settled_parser a.parser }

abbrev f : Rule → Rule
f = at_one_address

texts_of-lent : (ts : List Text) → map (λ (s : Bor Text). s.now) (map (λ (t : Text). record { ref_ptr = (0, 0); now = t }) ts) ≡ ts
texts_of-lent [] = refl
texts_of-lent (t ∷ ts) = ap (λ rest. t ∷ rest) (texts_of-lent ts)

same_names : (b : Bool) (t : Text) (names : Lent) → list_any (λ name. same_text b name.now t) (lent (texts_of names)).now ≡ list_any (λ name. same_text b name.now t) names.now
same_names b t names =
    list_any-map (λ n. same_text b n t) (λ (s : Bor Text). s.now) (lent (texts_of names)).now
    ∙ (ap (list_any (λ n. same_text b n t)) (texts_of-lent (texts_of names)) ∙ sym (list_any-map (λ n. same_text b n t) (λ (s : Bor Text). s.now) names.now))

accepts-settled : (b : Bool) (p : ValueParser) (t : Text) → accepts b (settled_parser p) t ≡ accepts b p t
accepts-settled b (vp.Names names) t = same_names b t names
accepts-settled b _ t = refl

kind-settled : (p : ValueParser) → refused_kind (settled_parser p) ≡ refused_kind p
kind-settled (vp.Names names) = refl
kind-settled _ = refl

reading-settled : (p : ValueParser) → reading_of (settled_parser p) ≡ reading_of p
reading-settled (vp.Names names) = refl
reading-settled _ = refl

parser-settled : (o : Option ValueParser) → parser_of_value (option_map settled_parser o) ≡ settled_parser (parser_of_value o)
parser-settled None = refl
parser-settled (Some p) = refl

pub passes-f : (a : Rule) (t : Text) → accepts a.ignore_case (parser_of_value (f a).parser) t ≡ accepts a.ignore_case (parser_of_value a.parser) t
passes-f a t = ap (λ p. accepts a.ignore_case p t) (parser-settled a.parser) ∙ accepts-settled a.ignore_case (parser_of_value a.parser) t

pub kind-f : (a : Rule) → refused_kind (parser_of_value (f a).parser) ≡ refused_kind (parser_of_value a.parser)
kind-f a = ap refused_kind (parser-settled a.parser) ∙ kind-settled (parser_of_value a.parser)

reading-f : (a : Rule) → reading_by (f a) ≡ reading_by a
reading-f a = ap reading_of (parser-settled a.parser) ∙ reading-settled (parser_of_value a.parser)

-- ---- the argument that a word means

pub arg_by_id-f : (c : List Rule) (id : Text) → arg_by_id (map f c) id ≡ option_map f (arg_by_id c id)
arg_by_id-f c id = sym (find-map (λ a. bytes_eq a.id id) f c)

pub arg_by_long-f : (c : List Rule) (name : Text) → arg_by_long (map f c) name ≡ option_map f (arg_by_long c name)
arg_by_long-f c name = sym (find-map (λ a. not (is_some a.index) && has_long a name) f c)

pub arg_by_short-f : (c : List Rule) (x : ℕ) → arg_by_short (map f c) x ≡ option_map f (arg_by_short c x)
arg_by_short-f c x = sym (find-map (λ a. not (is_some a.index) && has_short a x) f c)

pub arg_by_index-f : (c : List Rule) (i : ℕ) → arg_by_index (map f c) i ≡ option_map f (arg_by_index c i)
arg_by_index-f c i = sym (find-map (λ a. option_map_or (λ k. k == i) a.index false) f c)

-- ---- uses

used-f : (a : Rule) (vs : List Text) (rows : List Row) → used (f a) vs rows ≡ used a vs rows
used-f a vs rows = ap (λ how. used_as (action_of a) a.id how (values_or_missing a vs) rows) (reading-f a)

used_by_id-f : (o : Option Rule) (vs : List Text) (rows : List Row) → used_by_id (option_map f o) vs rows ≡ used_by_id o vs rows
used_by_id-f None vs rows = refl
used_by_id-f (Some a) vs rows = used-f a vs rows

settled_rows-f : (c : List Rule) (p : Option (Text × List Text)) (rows : List Row) → settled_rows (map f c) p rows ≡ settled_rows c p rows
settled_rows-f c None rows = refl
settled_rows-f c (Some p) rows = ap (λ o. used_by_id o p.1 rows) (arg_by_id-f c p.0) ∙ used_by_id-f (arg_by_id c p.0) p.1 rows

pub settled-f : (c : List Rule) (h : Held) → settled (map f c) h ≡ settled c h
settled-f c h = ap (λ rows. record h { rows = rows; pending = None }) (settled_rows-f c h.pending h.rows)

pub reacted-f : (c : List Rule) (a : Rule) (vs : List Text) (h : Held) → reacted (map f c) (f a) vs h ≡ reacted c a vs h
reacted-f c a vs h = ap (λ (s : Held). record h { rows = used (f a) vs s.rows; pending = None }) (settled-f c h)
    ∙ ap (λ rows. record h { rows = rows; pending = None }) (used-f a vs (settled c h).rows)

-- ---- flags

option_met-f : (c : List Rule) (a : Rule) (v : Option Text) (h : Held) → option_met (map f c) (f a) v h ≡ option_met c a v h
option_met-f c a (Some v) h = ap (λ (s : Held). (s, done)) (reacted-f c a (v ∷ []) h)
option_met-f c a None h = ap (λ (s : Held). (record s { pending = Some (a.id, []) }, waits a.id)) (settled-f c h)

flag_met-f : (c : List Rule) (a : Rule) (v : Option Text) (h : Held) → flag_met (map f c) (f a) v h ≡ flag_met c a v h
flag_met-f c a (Some v) h = refl
flag_met-f c a None h = ap (λ (s : Held). (s, done)) (reacted-f c a [] h)

long_met-f : (c : List Rule) (o : Option Rule) (v : Option Text) (h : Held) → long_met (map f c) (option_map f o) v h ≡ long_met c o v h
long_met-f c None v h = refl
long_met-f c (Some a) v h = ap₂ (λ x y. if takes_values a then x else y) (option_met-f c a v h) (flag_met-f c a v h)

short_met-f : (c : List Rule) (o : Option Rule) (rest : Text) (h : Held) (go go' : Held → Held × Outcome) → ((g : Held) → go' g ≡ go g)
    → short_met (map f c) (option_map f o) rest h go' ≡ short_met c o rest h go
short_met-f c None rest h go go' same = refl
short_met-f c (Some a) rest h go go' same =
    ap₂ (λ x y. if takes_values a then x else y) (option_met-f c a (attached_value rest) h) (ap go' (reacted-f c a [] h) ∙ same (reacted c a [] h))

bundle_step-f : (c : List Rule) (o : Option ℕ) (flags : Text) (skip : ℕ) (so_far : Outcome) (h : Held) (go go' : Text → ℕ → Outcome → Held → Held × Outcome)
    → ((t : Text) (k : ℕ) (s : Outcome) (g : Held) → go' t k s g ≡ go t k s g)
    → bundle_step (map f c) o flags skip so_far h go' ≡ bundle_step c o flags skip so_far h go
bundle_step-f c None flags skip so_far h go go' same = refl
bundle_step-f c (Some x) flags zero so_far h go go' same =
    let rest = drop (length (encode_utf8 x)) flags in
    ap (λ o. short_met (map f c) o rest h (go' rest 0 done)) (arg_by_short-f c x)
    ∙ short_met-f c (arg_by_short c x) rest h (go rest 0 done) (go' rest 0 done) (λ g. same rest 0 done g)
bundle_step-f c (Some x) flags (suc skip) so_far h go go' same = same (drop (length (encode_utf8 x)) flags) skip so_far h

bundle_met-f : (c : List Rule) (k : ℕ) (flags : Text) (skip : ℕ) (so_far : Outcome) (h : Held) → bundle_met (map f c) k flags skip so_far h ≡ bundle_met c k flags skip so_far h
unfolding bundle_met
bundle_met-f c zero flags skip so_far h = refl
bundle_met-f c (suc k) flags skip so_far h =
    bundle_step-f c (slice_get (chars flags) 0) flags skip so_far h (bundle_met c k) (bundle_met (map f c) k) (λ t j s g. bundle_met-f c k t j s g)

bundle-f : (c : List Rule) (flags : Text) (h : Held) → bundle (map f c) flags h ≡ bundle c flags h
bundle-f c flags h = bundle_met-f c (length flags) flags h.skip plain (record h { skip = 0 })

-- ---- words

option_word-f : (o : Option Rule) (id word : Text) (h : Held) → option_word (option_map f o) id word h ≡ option_word o id word h
option_word-f None id word h = refl
option_word-f (Some a) id word h = refl

plain_word-f : (c : List Rule) (w : Waiting) (word : Text) (h : Held) → plain_word (map f c) w word h ≡ plain_word c w word h
plain_word-f c (option id) word h =
    ap (λ (r : Held × Waiting). (r.0, next r.1)) (ap (λ o. option_word o id word h) (arg_by_id-f c id) ∙ option_word-f (arg_by_id c id) id word h)
plain_word-f c _ word h = refl

after_flag-f : (c : List Rule) (w : Waiting) (word : Text) (h : Held) (o : Outcome) → after_flag (map f c) w word h o ≡ after_flag c w word h o
after_flag-f c w word h done = refl
after_flag-f c w word h (waits id) = refl
after_flag-f c w word h _ = plain_word-f c w word h

long_word-f : (c : List Rule) (w : Waiting) (word name : Text) (v : Option Text) (h : Held) → long_word (map f c) w word name v h ≡ long_word c w word name v h
long_word-f c w word name v h =
    let met = ap (λ o. long_met (map f c) o v h) (arg_by_long-f c name) ∙ long_met-f c (arg_by_long c name) v h in
    ap (λ (r : Held × Outcome). after_flag (map f c) w word r.0 r.1) met
    ∙ after_flag-f c w word (long_met c (arg_by_long c name) v h).0 (long_met c (arg_by_long c name) v h).1

short_word-f : (c : List Rule) (w : Waiting) (word flags : Text) (h : Held) → short_word (map f c) w word flags h ≡ short_word c w word flags h
short_word-f c w word flags h = ap (λ (r : Held × Outcome). after_flag (map f c) w word r.0 r.1) (bundle-f c flags h)
    ∙ after_flag-f c w word (bundle c flags h).0 (bundle c flags h).1

short_or_plain-f : (c : List Rule) (w : Waiting) (word : Text) (o : Option Text) (h : Held) → short_or_plain (map f c) w word o h ≡ short_or_plain c w word o h
short_or_plain-f c w word (Some flags) h = short_word-f c w word flags h
short_or_plain-f c w word None h = plain_word-f c w word h

long_or_other-f : (c : List Rule) (w : Waiting) (word : Text) (o : Option (Text × Option Text)) (h : Held) → long_or_other (map f c) w word o h ≡ long_or_other c w word o h
long_or_other-f c w word (Some p) h = long_word-f c w word p.0 p.1 h
long_or_other-f c w word None h = short_or_plain-f c w word (short_of word) h

subcommand_or_other-f : (c : List Rule) (o : Option Text) (w : Waiting) (position : ℕ) (word : Text) (h : Held)
    → subcommand_or_other (map f c) o w position word h ≡ subcommand_or_other c o w position word h
subcommand_or_other-f c (Some name) w position word h = refl
subcommand_or_other-f c None w position word h = ap (λ x. if bytes_eq word (45 ∷ 45 ∷ []) then (h, trailing position) else x) (long_or_other-f c w word (long_of word) h)

pub word_met-f : (c : List Rule) (names : Names) (t : Bool) (w : Waiting) (position : ℕ) (word : Text) (h : Held)
    → word_met (map f c) names t w position word h ≡ word_met c names t w position word h
word_met-f c names t w position word h = ap (λ x. if t then (h, value) else x) (subcommand_or_other-f c (subcommand_met names w word) w position word h)

positional_held-f : (c : List Rule) (a : Rule) (word : Text) (h : Held) → positional_held (map f c) (f a) word h ≡ positional_held c a word h
positional_held-f c a word h = ap (λ (s : Held). pushed a.id word (if is_pending a h.pending && takes_several a then h else s)) (settled-f c h)

to_positional-f : (c : List Rule) (o : Option Rule) (word : Text) (w : Walk) (h : Held) → to_positional (map f c) (option_map f o) word w h ≡ to_positional c o word w h
to_positional-f c None word w h = refl
to_positional-f c (Some a) word w h =
    let after : Held → Walk = λ s. record {
      held = s;
      waiting = if is_multiple a then positional else idle;
      position = next_position a w.position;
      is_trailing = w.is_trailing || a.trailing_var_arg;
      stopped = None;
    } in
    ap after (positional_held-f c a word h)

after_step-f : (c : List Rule) (word : Text) (w : Walk) (h : Held) (s : Step) → after_step (map f c) word w h s ≡ after_step c word w h s
after_step-f c word w h value = ap (λ o. to_positional (map f c) o word w h) (arg_by_index-f c w.position) ∙ to_positional-f c (arg_by_index c w.position) word w h
after_step-f c word w h _ = refl

walked_from-f : (c : List Rule) (names : Names) (o : Option (Text × List Text)) (w : Walk) (word : Text) → walked_from (map f c) names o w word ≡ walked_from c names o w word
walked_from-f c names (Some p) w word = refl
walked_from-f c names None w word =
    let met = word_met c names w.is_trailing w.waiting w.position word w.held in
    ap (λ (m : Held × Step). after_step (map f c) word w m.0 m.1) (word_met-f c names w.is_trailing w.waiting w.position word w.held) ∙ after_step-f c word w met.0 met.1

pub walked-f : (c : List Rule) (names : Names) (w : Walk) (word : Text) → walked (map f c) names w word ≡ walked c names w word
unfolding walked
walked-f c names w word = walked_from-f c names w.stopped w word

walks-f : (c : List Rule) (names : Names) (w : Walk) (words : List Text) → fold (walked (map f c) names) w words ≡ fold (walked c names) w words
walks-f c names w [] = refl
walks-f c names w (word ∷ words) = ap (λ v. fold (walked (map f c) names) v words) (walked-f c names w word) ∙ walks-f c names (walked c names w word) words

pub walk-f : (c : List Rule) (names : Names) (h : Held) (words : List Text) → walk (map f c) names h words ≡ walk c names h words
walk-f c names h words = walks-f c names (walk_from h) words

-- ---- defaults

pub with_default-f : (rows : List Row) (a : Rule) → with_default rows (f a) ≡ with_default rows a
with_default-f rows a = ap (λ how. if has_row a.id rows then rows else default_rows a.id how a.defaults rows) (reading-f a)

defaults-f : (c : List Rule) (rows : List Row) → fold with_default rows (map f c) ≡ fold with_default rows c
defaults-f [] rows = refl
defaults-f (a ∷ c) rows = ap (λ r. fold with_default r (map f c)) (with_default-f rows a) ∙ defaults-f c (with_default rows a)

pub finished-f : (c : List Rule) (h : Held) → finished (map f c) h ≡ finished c h
finished-f c h = ap (λ (s : Held). fold with_default s.rows (map f c)) (settled-f c h) ∙ defaults-f c (settled c h).rows

pub rows_after-f : (c : List Rule) (names : Names) (words : List Text) → rows_after (map f c) names words ≡ rows_after c names words
rows_after-f c names words = ap (λ (w : Walk). finished (map f c) w.held) (walk-f c names nothing_held words) ∙ finished-f c (walk c names nothing_held words).held
