-- A parser of names looks at the names alone, and not at where they lie: the faults of the words.
use Rattle.std.proofs.Common.{◌≡◌, ◌+◌, ◌∙◌, ◌&&◌, ◌||◌, ℕ, Bool, not, zero, suc, List, [], ◌∷◌, map, length, drop, Option, Some, None, is_some, refl, sym, ap, ap₂}
use Rattle.std.specs.Prelude.{min, option_map, encode_utf8, slice_get, if◌then◌else◌}
use Rattle.std.specs.Option.{option_map_or}
use Rattle.std.specs.List.{list_any}
use Rattle.std.specs.Str.{bytes_eq, chars}
use Rattle.clap.specs.Lexer.{long_of, short_of}
use Rattle.clap.specs.Matches.{count_text}
use Rattle.clap.specs.Facts.{explicit_source, parser_of_value, unwrap_or_range}
use Rattle.clap.specs.Kinds.{Kinds, check_kinds, or_else, range_kinds, request_kinds, value_kinds}
use Rattle.clap.specs.Walk.{Held, Names, Row, Rule, Step, value, Text, Waiting, Walk, action_of, arg_by_id, arg_by_index, arg_by_long, arg_by_short, attached_value, count_of, finished, has_row, is_empty, is_pending, most_values, reacted, settled, subcommand_met, takes_several, takes_values, values_or_missing, walk, walk_from, walked, with_default, word_met}
use Rattle.clap.specs.Simple.{App, Shape, entered, names_of, on_top}
use Rattle.clap.specs.Takes.{is_given}
use Rattle.clap.specs.Faults.{values_fault, count_fault, repeat_fault, set_fault, action_fault, use_fault, settle_fault, react_fault, option_fault, long_fault, short_fault, bundle_step_fault, flags_fault, bundle_fault, flag_word_fault, other_fault, word_fault, positional_fault, stray_fault, step_fault, turn_fault, walk_fault, default_fault, defaults_fault, check_fault, level_fault, entered_fault, built_fault}
use Rattle.clap.specs.declared.builder.action.ArgAction.{ArgAction}
use Rattle.clap.specs.declared.builder.action.ArgAction.TheVariants.{Set, Append, SetTrue, SetFalse, Count}
use Rattle.clap.specs.declared.error.kind.ErrorKind.TheVariants as kind
use Rattle.clap.proofs.WalkLemmas.{list_any-map}
use Rattle.dc_words.proofs.Walks.{at_one_address, passes-f, kind-f, arg_by_id-f, arg_by_long-f, arg_by_short-f, arg_by_index-f, settled-f, reacted-f, word_met-f, walked-f, walk-f, with_default-f, finished-f}

abbrev f : Rule → Rule
f = at_one_address

abbrev pub shape_at_one_address : Shape → Shape
shape_at_one_address s = record s { rules = map at_one_address s.rules }

abbrev m : Shape → Shape
m = shape_at_one_address

-- ---- one use of an argument

value_kinds-f : (a : Rule) (v : Text) → value_kinds a.ignore_case (parser_of_value (f a).parser) v ≡ value_kinds a.ignore_case (parser_of_value a.parser) v
value_kinds-f a v = ap₂ (λ b k. if b then [] else k ∷ []) (passes-f a v) (kind-f a)

values_fault-f : (a : Rule) (vs : List Text) → values_fault (f a) vs ≡ values_fault a vs
values_fault-f a [] = refl
values_fault-f a (v ∷ vs) = ap₂ or_else (value_kinds-f a v) (values_fault-f a vs)

count_fault-f : (a : Rule) (vs : List Text) (rows : List Row) → count_fault (f a) vs rows ≡ count_fault a vs rows
count_fault-f a [] rows = value_kinds-f a (count_text (min (count_of a.id rows + 1) 255))
count_fault-f a (v ∷ vs) rows = values_fault-f a (v ∷ vs)

set_fault-f : (again : Bool) (a : Rule) (vs : List Text) (rows : List Row) → set_fault again (f a) vs rows ≡ set_fault again a vs rows
set_fault-f again a vs rows = ap (or_else (repeat_fault again a.id rows)) (values_fault-f a vs)

action_fault-f : (act : ArgAction) (again : Bool) (a : Rule) (vs : List Text) (rows : List Row) → action_fault act again (f a) vs rows ≡ action_fault act again a vs rows
action_fault-f Set again a vs rows = set_fault-f again a vs rows
action_fault-f SetTrue again a vs rows = set_fault-f again a vs rows
action_fault-f SetFalse again a vs rows = set_fault-f again a vs rows
action_fault-f Append again a vs rows = values_fault-f a vs
action_fault-f Count again a vs rows = count_fault-f a vs rows
action_fault-f _ again a vs rows = refl

use_fault-f : (again : Bool) (a : Rule) (vs : List Text) (rows : List Row) → use_fault again (f a) vs rows ≡ use_fault again a vs rows
use_fault-f again a vs rows = ap (or_else (range_kinds (unwrap_or_range a.range).start_inclusive (most_values a) (length vs)))
    (action_fault-f (action_of a) again a (values_or_missing a vs) rows)

-- ---- the walk

found_fault-f : (o : Option Rule) (again : Bool) (vs : List Text) (rows : List Row)
    → option_map_or (λ a. use_fault again a vs rows) (option_map f o) [] ≡ option_map_or (λ a. use_fault again a vs rows) o []
found_fault-f None again vs rows = refl
found_fault-f (Some a) again vs rows = use_fault-f again a vs rows

pending_fault-f : (c : List Rule) (again : Bool) (p : Option (Text × List Text)) (rows : List Row)
    → option_map_or (λ p. option_map_or (λ a. use_fault again a p.1 rows) (arg_by_id (map f c) p.0) []) p []
    ≡ option_map_or (λ p. option_map_or (λ a. use_fault again a p.1 rows) (arg_by_id c p.0) []) p []
pending_fault-f c again None rows = refl
pending_fault-f c again (Some p) rows = ap (λ o. option_map_or (λ a. use_fault again a p.1 rows) o []) (arg_by_id-f c p.0) ∙ found_fault-f (arg_by_id c p.0) again p.1 rows

settle_fault-f : (c : List Rule) (again : Bool) (h : Held) → settle_fault (map f c) again h ≡ settle_fault c again h
settle_fault-f c again h = pending_fault-f c again h.pending h.rows

react_fault-f : (c : List Rule) (again : Bool) (a : Rule) (vs : List Text) (h : Held) → react_fault (map f c) again (f a) vs h ≡ react_fault c again a vs h
react_fault-f c again a vs h =
    ap₂ or_else (settle_fault-f c again h) (ap (λ (s : Held). use_fault again (f a) vs s.rows) (settled-f c h) ∙ use_fault-f again a vs (settled c h).rows)

option_fault-f : (c : List Rule) (again : Bool) (a : Rule) (v : Option Text) (h : Held) → option_fault (map f c) again (f a) v h ≡ option_fault c again a v h
option_fault-f c again a (Some v) h = react_fault-f c again a (v ∷ []) h
option_fault-f c again a None h = settle_fault-f c again h

long_fault-f : (c : List Rule) (again : Bool) (o : Option Rule) (v : Option Text) (h : Held) → long_fault (map f c) again (option_map f o) v h ≡ long_fault c again o v h
long_fault-f c again None v h = refl
long_fault-f c again (Some a) v h =
    ap₂ (λ x y. if takes_values a then x else (if is_some v then kind.TooManyValues ∷ [] else y)) (option_fault-f c again a v h) (react_fault-f c again a [] h)

short_fault-f : (c : List Rule) (again : Bool) (o : Option Rule) (rest : Text) (h : Held) (go go' : Held → Kinds) → ((g : Held) → go' g ≡ go g)
    → short_fault (map f c) again (option_map f o) rest h go' ≡ short_fault c again o rest h go
short_fault-f c again None rest h go go' same = refl
short_fault-f c again (Some a) rest h go go' same =
    ap₂ (λ x y. if takes_values a then x else y) (option_fault-f c again a (attached_value rest) h)
    (ap₂ or_else (react_fault-f c again a [] h) (ap go' (reacted-f c a [] h) ∙ same (reacted c a [] h)))

bundle_step_fault-f : (c : List Rule) (again : Bool) (o : Option ℕ) (flags : Text) (skip : ℕ) (h : Held) (go go' : Text → ℕ → Held → Kinds)
    → ((t : Text) (k : ℕ) (g : Held) → go' t k g ≡ go t k g)
    → bundle_step_fault (map f c) again o flags skip h go' ≡ bundle_step_fault c again o flags skip h go
bundle_step_fault-f c again None flags skip h go go' same = refl
bundle_step_fault-f c again (Some x) flags zero h go go' same =
    let rest = drop (length (encode_utf8 x)) flags in
    ap (λ o. short_fault (map f c) again o rest h (go' rest 0)) (arg_by_short-f c x)
    ∙ short_fault-f c again (arg_by_short c x) rest h (go rest 0) (go' rest 0) (λ g. same rest 0 g)
bundle_step_fault-f c again (Some x) flags (suc skip) h go go' same = same (drop (length (encode_utf8 x)) flags) skip h

flags_fault-f : (c : List Rule) (again : Bool) (k : ℕ) (flags : Text) (skip : ℕ) (h : Held) → flags_fault (map f c) again k flags skip h ≡ flags_fault c again k flags skip h
unfolding flags_fault
flags_fault-f c again zero flags skip h = refl
flags_fault-f c again (suc k) flags skip h =
    bundle_step_fault-f c again (slice_get (chars flags) 0) flags skip h (flags_fault c again k) (flags_fault (map f c) again k) (λ t j g. flags_fault-f c again k t j g)

bundle_fault-f : (c : List Rule) (again : Bool) (flags : Text) (h : Held) → bundle_fault (map f c) again flags h ≡ bundle_fault c again flags h
bundle_fault-f c again flags h = flags_fault-f c again (length flags) flags h.skip (record h { skip = 0 })

short_word_fault-f : (c : List Rule) (again : Bool) (o : Option Text) (h : Held)
    → option_map_or (λ flags. bundle_fault (map f c) again flags h) o [] ≡ option_map_or (λ flags. bundle_fault c again flags h) o []
short_word_fault-f c again None h = refl
short_word_fault-f c again (Some flags) h = bundle_fault-f c again flags h

flag_word_fault-f : (c : List Rule) (again : Bool) (o : Option (Text × Option Text)) (word : Text) (h : Held) → flag_word_fault (map f c) again o word h ≡ flag_word_fault c again o word h
flag_word_fault-f c again (Some p) word h = ap (λ o. long_fault (map f c) again o p.1 h) (arg_by_long-f c p.0) ∙ long_fault-f c again (arg_by_long c p.0) p.1 h
flag_word_fault-f c again None word h = short_word_fault-f c again (short_of word) h

other_fault-f : (s : Shape) (o : Option Text) (word : Text) (h : Held) → other_fault (m s) o word h ≡ other_fault s o word h
other_fault-f s (Some name) word h = refl
other_fault-f s None word h = ap (λ x. if bytes_eq word (45 ∷ 45 ∷ []) then [] else x) (flag_word_fault-f s.rules s.args_override_self (long_of word) word h)

word_fault-f : (s : Shape) (names : Names) (t : Bool) (w : Waiting) (word : Text) (h : Held) → word_fault (m s) names t w word h ≡ word_fault s names t w word h
word_fault-f s names t w word h = ap (λ x. if t then [] else x) (other_fault-f s (subcommand_met names w word) word h)

positional_fault-f : (c : List Rule) (again : Bool) (a : Rule) (h : Held) → positional_fault (map f c) again (f a) h ≡ positional_fault c again a h
positional_fault-f c again a h = ap (λ x. if is_pending a h.pending && takes_several a then [] else x) (settle_fault-f c again h)

positional_or_stray-f : (s : Shape) (o : Option Rule) (h : Held)
    → option_map_or (λ a. positional_fault (map f s.rules) s.args_override_self a h) (option_map f o) (stray_fault s)
    ≡ option_map_or (λ a. positional_fault s.rules s.args_override_self a h) o (stray_fault s)
positional_or_stray-f s None h = refl
positional_or_stray-f s (Some a) h = positional_fault-f s.rules s.args_override_self a h

step_fault-f : (s : Shape) (position : ℕ) (h : Held) (step : Step) → step_fault (m s) position h step ≡ step_fault s position h step
step_fault-f s position h value =
    ap (λ o. option_map_or (λ a. positional_fault (map f s.rules) s.args_override_self a h) o (stray_fault s)) (arg_by_index-f s.rules position)
    ∙ positional_or_stray-f s (arg_by_index s.rules position) h
step_fault-f s position h _ = refl

turn_fault-f : (s : Shape) (names : Names) (w : Walk) (word : Text) → turn_fault (m s) names w word ≡ turn_fault s names w word
turn_fault-f s names w word =
    let met = word_met s.rules names w.is_trailing w.waiting w.position word w.held in
    ap₂ (λ x y. if is_some w.stopped then [] else or_else x y) (word_fault-f s names w.is_trailing w.waiting word w.held)
    (ap (λ (t : Held × Step). step_fault (m s) w.position t.0 t.1) (word_met-f s.rules names w.is_trailing w.waiting w.position word w.held)
    ∙ step_fault-f s w.position met.0 met.1)

walk_fault-f : (s : Shape) (names : Names) (w : Walk) (words : List Text) → walk_fault (m s) names w words ≡ walk_fault s names w words
unfolding walk_fault
walk_fault-f s names w [] = refl
walk_fault-f s names w (word ∷ rest) =
    ap₂ or_else (turn_fault-f s names w word)
    (ap (λ v. walk_fault (m s) names v rest) (walked-f s.rules names w word) ∙ walk_fault-f s names (walked s.rules names w word) rest)

-- ---- after the walk

default_fault-f : (rows : List Row) (a : Rule) → default_fault rows (f a) ≡ default_fault rows a
default_fault-f rows a = ap (λ x. if has_row a.id rows || is_empty a.defaults then [] else or_else (request_kinds (action_of a)) x) (values_fault-f a a.defaults)

defaults_fault-f : (rows : List Row) (c : List Rule) → defaults_fault rows (map f c) ≡ defaults_fault rows c
unfolding defaults_fault
defaults_fault-f rows [] = refl
defaults_fault-f rows (a ∷ c) =
    ap₂ or_else (default_fault-f rows a) (ap (λ r. defaults_fault r (map f c)) (with_default-f rows a) ∙ defaults_fault-f (with_default rows a) c)

check_fault-f : (s : Shape) (rows : List Row) (b : Bool) → check_fault (m s) rows b ≡ check_fault s rows b
check_fault-f s rows b = ap (λ wants. check_kinds (not b && (s.arg_required_else_help && not (list_any (λ r. explicit_source r.source) rows)))
    (not b && s.subcommand_required) (not (s.subcommand_negates_reqs && b) && wants)) (sym (list_any-map (λ a. a.required && not (is_given a.id rows)) f s.rules))

level_fault-f : (s : Shape) (names : Names) (h : Held) (words : List Text) (b : Bool) (below : Kinds) → level_fault (m s) names h words b below ≡ level_fault s names h words b below
level_fault-f s names h words b below =
    let again = s.args_override_self in
    let ends = walk-f s.rules names h words in
    let end = (walk s.rules names h words).held in
    ap (λ (w : Walk). or_else (walk_fault (m s) names (walk_from h) words) (or_else below (or_else (settle_fault (map f s.rules) again w.held)
    (or_else (defaults_fault (settled (map f s.rules) w.held).rows (map f s.rules)) (check_fault (m s) (finished (map f s.rules) w.held) b))))) ends
    ∙ ap₂ or_else (walk_fault-f s names (walk_from h) words) (ap (or_else below) (ap₂ or_else (settle_fault-f s.rules again end)
    (ap₂ or_else (ap (λ (x : Held). defaults_fault x.rows (map f s.rules)) (settled-f s.rules end) ∙ defaults_fault-f (settled s.rules end).rows s.rules)
    (ap (λ rows. check_fault (m s) rows b) (finished-f s.rules end) ∙ check_fault-f s (finished s.rules end) b))))

pub built_fault-f : (a : App) (h : Held) (words : List Text) → built_fault (on_top shape_at_one_address a) h words ≡ built_fault a h words
built_fault-f a h words =
    let stop = (walk a.top.rules (names_of a) h words).stopped in
    let stops = ap (λ (w : Walk). w.stopped) (walk-f a.top.rules (names_of a) h words) in
    ap (λ at. level_fault (m a.top) (names_of a) h words (is_some (entered a at)) (entered_fault a at)) stops
    ∙ level_fault-f a.top (names_of a) h words (is_some (entered a stop)) (entered_fault a stop)
