-- What each use of an argument keeps of the rows, a walk over words keeps where nothing is wrong with it.
use Rattle.std.proofs.Common.{◌≡◌, refl, ℕ, Bool, true, false, cond, zero, suc, ◌&&◌, List, [], ◌∷◌, length, drop, Option, Some, None, is_some}
use Rattle.std.specs.Prelude.{find, fold, encode_utf8, slice_get}
use Rattle.std.specs.Option.{option_map_or}
use Rattle.std.specs.Str.{bytes_eq, chars}
use Rattle.clap.specs.Lexer.{long_of, short_of}
use Rattle.clap.specs.Kinds.{Kinds, or_else}
use Rattle.clap.specs.Walk.{Held, Names, Outcome, done, waits, plain, refused, Row, Rule, Step, next, trailing, subcommand, value, Text, Waiting, idle, option, positional, Walk}
use Rattle.clap.specs.Walk.{arg_by_id, arg_by_index, arg_by_long, arg_by_short, attached_value, is_pending, option_word, takes_several, takes_values, used, used_by_id, settled_rows, settled, reacted}
use Rattle.clap.specs.Walk.{option_met, flag_met, long_met, short_met, bundle_step, bundle_met, bundle, plain_word, after_flag, short_or_plain, long_or_other, subcommand_or_other, subcommand_met, word_met}
use Rattle.clap.specs.Walk.{positional_held, to_positional, after_step, walked_from, walked}
use Rattle.clap.specs.Simple.{Shape}
use Rattle.clap.specs.declared.error.kind.ErrorKind.TheVariants as kind
use Rattle.clap.specs.Faults.{use_fault, settle_fault, react_fault, option_fault, long_fault, short_fault, bundle_step_fault, flags_fault, bundle_fault, flag_word_fault, other_fault, word_fault, positional_fault, stray_fault, step_fault, turn_fault, walk_fault}

pub first_none : (a b : Kinds) → or_else a b ≡ [] → a ≡ []
first_none [] b e = refl
first_none (k ∷ ks) b e = absurd cc

pub then_none : (a b : Kinds) → or_else a b ≡ [] → b ≡ []
then_none [] b e = e
then_none (k ∷ ks) b e = absurd cc

module _ (Good : List Row → Type 0) where
  -- a use in which nothing is wrong keeps it
  abbrev pub Keeps : Rule → Type 0
  Keeps a = (again : Bool) (vs : List Text) (rows : List Row) → use_fault again a vs rows ≡ [] → Good rows → Good (used a vs rows)

  abbrev pub EachKeeps : List Rule → Type 0
  EachKeeps [] = Unit {0}
  EachKeeps (a ∷ c) = Keeps a × EachKeeps c

  abbrev FoundKeeps : Option Rule → Type 0
  FoundKeeps None = Unit {0}
  FoundKeeps (Some a) = Keeps a

  found : (p : Rule → Bool) (c : List Rule) → EachKeeps c → FoundKeeps (find p c)
  found p [] h = tt
  found p (a ∷ c) h = go (p a) (found p c h.1)
    where
      go : (b : Bool) → FoundKeeps (find p c) → FoundKeeps (cond b (Some a) (find p c))
      go true k = h.0
      go false k = k

  module _ (c : List Rule) (each : EachKeeps c) (again : Bool) where
    by_id : (o : Option Rule) → FoundKeeps o → (vs : List Text) (rows : List Row) → option_map_or (λ a. use_fault again a vs rows) o [] ≡ [] → Good rows
        → Good (used_by_id o vs rows)
    by_id None k vs rows e g = g
    by_id (Some a) k vs rows e g = k again vs rows e g

    rows_settled : (p : Option (Text × List Text)) (rows : List Row) → option_map_or (λ q. option_map_or (λ a. use_fault again a q.1 rows) (arg_by_id c q.0) []) p [] ≡ []
        → Good rows → Good (settled_rows c p rows)
    rows_settled None rows e g = g
    rows_settled (Some p) rows e g = by_id (arg_by_id c p.0) (found (λ a. bytes_eq a.id p.0) c each) p.1 rows e g

    pub settled_good : (h : Held) → settle_fault c again h ≡ [] → Good h.rows → Good (settled c h).rows
    settled_good h e g = rows_settled h.pending h.rows e g

    reacted_good : (a : Rule) → Keeps a → (vs : List Text) (h : Held) → react_fault c again a vs h ≡ [] → Good h.rows → Good (reacted c a vs h).rows
    reacted_good a k vs h e g =
        k again vs (settled c h).rows (then_none (settle_fault c again h) _ e) (settled_good h (first_none (settle_fault c again h) _ e) g)

    option_good : (a : Rule) → Keeps a → (v : Option Text) (h : Held) → option_fault c again a v h ≡ [] → Good h.rows → Good (option_met c a v h).0.rows
    option_good a k (Some v) h e g = reacted_good a k (v ∷ []) h e g
    option_good a k None h e g = settled_good h e g

    long_good : (o : Option Rule) → FoundKeeps o → (v : Option Text) (h : Held) → long_fault c again o v h ≡ [] → Good h.rows → Good (long_met c o v h).0.rows
    long_good None k v h e g = g
    long_good (Some a) k v h e g = go (takes_values a) v e
      where
        go : (b : Bool) (v : Option Text) → cond b (option_fault c again a v h) (cond (is_some v) (kind.TooManyValues ∷ []) (react_fault c again a [] h)) ≡ []
            → Good (cond b (option_met c a v h) (flag_met c a v h)).0.rows
        go true v e = option_good a k v h e g
        go false (Some v) e = g
        go false None e = reacted_good a k [] h e g

    -- a function of what is held, with what is wrong then
    abbrev IsKept : (Held → Held × Outcome) → (Held → Kinds) → Type 0
    IsKept go wrong = (h : Held) → wrong h ≡ [] → Good h.rows → Good (go h).0.rows

    short_good : (o : Option Rule) → FoundKeeps o → (rest : Text) (h : Held) (go : Held → Held × Outcome) (wrong : Held → Kinds) → IsKept go wrong
        → short_fault c again o rest h wrong ≡ [] → Good h.rows → Good (short_met c o rest h go).0.rows
    short_good None k rest h go wrong kept e g = g
    short_good (Some a) k rest h go wrong kept e g = by (takes_values a) e
      where
        by : (b : Bool) → cond b (option_fault c again a (attached_value rest) h) (or_else (react_fault c again a [] h) (wrong (reacted c a [] h))) ≡ []
            → Good (cond b (option_met c a (attached_value rest) h) (go (reacted c a [] h))).0.rows
        by true e = option_good a k (attached_value rest) h e g
        by false e =
            kept (reacted c a [] h) (then_none (react_fault c again a [] h) _ e) (reacted_good a k [] h (first_none (react_fault c again a [] h) _ e) g)

    bundle_good : (k : ℕ) (flags : Text) (skip : ℕ) (so_far : Outcome) (h : Held) → flags_fault c again k flags skip h ≡ [] → Good h.rows
        → Good (bundle_met c k flags skip so_far h).0.rows
    unfolding flags_fault bundle_met
    bundle_good zero flags skip so_far h e g = g
    bundle_good (suc k) flags skip so_far h e g = by (λ rest n o q. bundle_good k rest n o q) (slice_get (chars flags) 0) skip e
      where
        by : ((rest : Text) (n : ℕ) (o : Outcome) (q : Held) → flags_fault c again k rest n q ≡ [] → Good q.rows → Good (bundle_met c k rest n o q).0.rows)
            → (o : Option ℕ) (skip : ℕ) → bundle_step_fault c again o flags skip h (flags_fault c again k) ≡ [] → Good (bundle_step c o flags skip so_far h (bundle_met c k)).0.rows
        by more None skip e = g
        by more (Some x) zero e =
            let rest = drop (length (encode_utf8 x)) flags in
            short_good (arg_by_short c x) (found _ c each) rest h (bundle_met c k rest 0 done) (flags_fault c again k rest 0) (λ q. more rest 0 done q) e g
        by more (Some x) (suc skip) e = more (drop (length (encode_utf8 x)) flags) skip so_far h e g

    -- ---- words
    plain_rows : (w : Waiting) (word : Text) (h : Held) → Good h.rows → Good (plain_word c w word h).0.rows
    plain_rows idle word h g = g
    plain_rows positional word h g = g
    plain_rows (option id) word h g = by (arg_by_id c id)
      where
        by : (o : Option Rule) → Good (option_word o id word h).0.rows
        by None = g
        by (Some a) = g

    after_rows : (w : Waiting) (word : Text) (h : Held) (o : Outcome) → Good h.rows → Good (after_flag c w word h o).0.rows
    after_rows w word h done g = g
    after_rows w word h (waits id) g = g
    after_rows w word h plain g = plain_rows w word h g
    after_rows w word h refused g = plain_rows w word h g

    short_or_good : (w : Waiting) (word : Text) (o : Option Text) (h : Held) → option_map_or (λ flags. bundle_fault c again flags h) o [] ≡ [] → Good h.rows
        → Good (short_or_plain c w word o h).0.rows
    short_or_good w word None h e g = plain_rows w word h g
    short_or_good w word (Some flags) h e g =
        let met = bundle c flags h in
        after_rows w word met.0 met.1 (bundle_good (length flags) flags h.skip plain (record h { skip = 0 }) e g)

    long_or_good : (w : Waiting) (word : Text) (o : Option (Text × Option Text)) (h : Held) → flag_word_fault c again o word h ≡ [] → Good h.rows
        → Good (long_or_other c w word o h).0.rows
    long_or_good w word None h e g = short_or_good w word (short_of word) h e g
    long_or_good w word (Some p) h e g =
        let met = long_met c (arg_by_long c p.0) p.1 h in
        after_rows w word met.0 met.1 (long_good (arg_by_long c p.0) (found _ c each) p.1 h e g)

  module _ (s : Shape) (each : EachKeeps s.rules) where
    abbrev c : List Rule
    c = s.rules

    abbrev again : Bool
    again = s.args_override_self

    other_good : (o : Option Text) (w : Waiting) (position : ℕ) (word : Text) (h : Held) → other_fault s o word h ≡ [] → Good h.rows
        → Good (subcommand_or_other c o w position word h).0.rows
    other_good (Some name) w position word h e g = g
    other_good None w position word h e g = by (bytes_eq word (45 ∷ 45 ∷ [])) e
      where
        by : (b : Bool) → cond b [] (flag_word_fault c again (long_of word) word h) ≡ [] → Good (cond b (h, trailing position) (long_or_other c w word (long_of word) h)).0.rows
        by true e = g
        by false e = long_or_good c each again w word (long_of word) h e g

    word_good : (names : Names) (t : Bool) (w : Waiting) (position : ℕ) (word : Text) (h : Held) → word_fault s names t w word h ≡ [] → Good h.rows
        → Good (word_met c names t w position word h).0.rows
    word_good names true w position word h e g = g
    word_good names false w position word h e g = other_good (subcommand_met names w word) w position word h e g

    positional_good : (a : Rule) (word : Text) (h : Held) → positional_fault c again a h ≡ [] → Good h.rows → Good (positional_held c a word h).rows
    positional_good a word h e g = by (is_pending a h.pending && takes_several a) e
      where
        by : (b : Bool) → cond b [] (settle_fault c again h) ≡ [] → Good (cond b h (settled c h)).rows
        by true e = g
        by false e = settled_good c each again h e g

    step_good : (word : Text) (w : Walk) (h : Held) (q : Step) → step_fault s w.position h q ≡ [] → Good h.rows → Good (after_step c word w h q).held.rows
    step_good word w h (next x) e g = g
    step_good word w h (trailing p) e g = g
    step_good word w h (subcommand x) e g = g
    step_good word w h value e g = by (arg_by_index c w.position) e
      where
        by : (o : Option Rule) → option_map_or (λ a. positional_fault c again a h) o (stray_fault s) ≡ [] → Good (to_positional c o word w h).held.rows
        by None e = g
        by (Some a) e = positional_good a word h e g

    turn_good : (names : Names) (w : Walk) (word : Text) → turn_fault s names w word ≡ [] → Good w.held.rows → Good (walked c names w word).held.rows
    unfolding walked
    turn_good names w word e g = by w.stopped e
      where
        met : Held × Step
        met = word_met c names w.is_trailing w.waiting w.position word w.held

        by : (o : Option (Text × List Text)) → cond (is_some o) [] (or_else (word_fault s names w.is_trailing w.waiting word w.held) (step_fault s w.position met.0 met.1)) ≡ []
            → Good (walked_from c names o w word).held.rows
        by (Some p) e = g
        by None e =
            let first = first_none (word_fault s names w.is_trailing w.waiting word w.held) _ e in
            step_good word w met.0 met.1 (then_none (word_fault s names w.is_trailing w.waiting word w.held) _ e)
            (word_good names w.is_trailing w.waiting w.position word w.held first g)

    pub walk_good : (names : Names) (w : Walk) (words : List Text) → walk_fault s names w words ≡ [] → Good w.held.rows → Good (fold (walked c names) w words).held.rows
    unfolding walk_fault
    walk_good names w [] e g = g
    walk_good names w (word ∷ words) e g =
        walk_good names (walked c names w word) words (then_none (turn_fault s names w word) _ e)
        (turn_good names w word (first_none (turn_fault s names w word) _ e) g)
