-- The rows of one argument: what a use or a default puts there was accepted by its parser, and an argument that is required, or has a default, is there.
use Rattle.std.proofs.Common.{◌≡◌, ◌⊎◌, inl, inr, refl, sym, ap, ◌∙◌, subst, ℕ, Bool, true, false, true≢false, cond, not, ◌&&◌, ◌||◌, arith, List, [], ◌∷◌, ◌++◌, length, Some, None}
use Rattle.std.specs.Prelude.{find, fold, slice_get}
use Rattle.std.specs.List.{list_any, AllByRecursion}
use Rattle.std.specs.Option.{option_map_or}
use Rattle.std.specs.Str.{bytes_eq}
use Rattle.std.proofs.lemmas.Bool.{ne_eqb}
use Rattle.std.proofs.lemmas.Slice.Eq.{bytes_eq-Decides}
use Rattle.clap.specs.Facts.{parser_of_value, unwrap_or_range, explicit_source}
use Rattle.clap.specs.Values.{refused_kind}
use Rattle.clap.specs.ValueTests.{accepts}
use Rattle.clap.specs.Kinds.{or_else, range_kinds, value_kinds, request_kinds}
use Rattle.clap.specs.Takes.{is_given}
use Rattle.clap.specs.Walk.{Row, Rule, Text, action_of, reading_by, most_values, at_row, without, more_values, with_values, used_as, values_or_missing, has_row, default_rows, with_default, is_empty}
use Rattle.clap.specs.Faults.{values_fault, repeat_fault, action_fault, given_default_fault, default_fault, defaults_fault}
use Rattle.clap.specs.declared.builder.action.ArgAction.TheVariants.{Set, Help}
use Rattle.clap.specs.declared.builder.value_parser.ValueParser.{ValueParser}
use Rattle.clap.specs.declared.parser.matches.ValueSource.{ValueSource}
use Rattle.clap.specs.declared.parser.matches.ValueSource.TheVariants.{DefaultValue, CommandLine}
use Rattle.dc_words.proofs.Steps.{first_none, then_none, Keeps, EachKeeps}

-- a value that was accepted stands first
pub record IsRow (a : Rule) (r : Row) : Type 0 where
  pub value : Text
  pub first : slice_get r.values 0 ≡ Some value
  pub passes : accepts a.ignore_case (parser_of_value a.parser) value ≡ true
  pub reading : r.reading ≡ reading_by a

abbrev pub Good : Rule → List Row → Type 0
Good a [] = Unit {0}
Good a (r ∷ rs) = (bytes_eq r.id a.id ≡ true → IsRow a r) × Good a rs

abbrev pub Has : Rule → List Row → Type 0
Has a [] = ⊥
Has a (r ∷ rs) = (bytes_eq r.id a.id ≡ true) ⊎ Has a rs

-- ---- tests
passed : (i : Bool) (p : ValueParser) (v : Text) → value_kinds i p v ≡ [] → accepts i p v ≡ true
passed i p v e = go (accepts i p v) e
  where
    go : (b : Bool) → cond b [] (refused_kind p ∷ []) ≡ [] → b ≡ true
    go true e = refl
    go false e = absurd cc

no_values : (s m : ℕ) → s ≡ 1 → range_kinds s m 0 ≡ [] → ⊥
no_values s m e h = let k : range_kinds 1 m 0 ≡ [] = subst (λ x. range_kinds x m 0 ≡ []) e h in cc

not_empty : (v : Text) (vs : List Text) → is_empty (v ∷ vs) ≡ false
not_empty v vs = ne_eqb _ _ (λ e. omega arith)

same_text : (x : Text) → bytes_eq x x ≡ true
same_text x = (bytes_eq-Decides x x).1 refl

still_first : (xs ys : List Text) (v : Text) → slice_get xs 0 ≡ Some v → slice_get (xs ++ ys) 0 ≡ Some v
still_first [] ys v e = absurd cc
still_first (x ∷ xs) ys v e = e

module _ (a : Rule) where
  -- ---- rows that change
  both_good : (rs more : List Row) → Good a rs → Good a more → Good a (rs ++ more)
  both_good [] more g h = h
  both_good (r ∷ rs) more g h = (g.0, both_good rs more g.1 h)

  at_good : (id : Text) (change : Row → List Row) (missing : List Row) → ((r : Row) → (bytes_eq r.id a.id ≡ true → IsRow a r) → Good a (change r)) → Good a missing
      → (rows : List Row) → Good a rows → Good a (at_row id change missing rows)
  at_good id change missing h m [] g = m
  at_good id change missing h m (r ∷ rs) g = by (bytes_eq r.id id) (at_good id change missing h m rs g.1)
    where
      by : (b : Bool) → Good a (at_row id change missing rs) → Good a (cond b (change r ++ rs) (r ∷ at_row id change missing rs))
      by true k = both_good (change r) rs (h r g.0) g.1
      by false k = (g.0, k)

  values_good : (b : Rule) → (bytes_eq b.id a.id ≡ true → b ≡ a) → (s : ValueSource) (v : Text) (vs : List Text) → accepts b.ignore_case (parser_of_value b.parser) v ≡ true
      → (rows : List Row) → Good a rows → Good a (with_values b.id (reading_by b) s (v ∷ vs) rows)
  values_good b one s v vs ok rows g = at_good b.id (more_values s (v ∷ vs)) _ more (new, tt) rows g
    where
      new : bytes_eq b.id a.id ≡ true → IsRow a (record { id = b.id; values = v ∷ vs; count = None; source = Some s; reading = reading_by b })
      new e = record {
        value = v;
        first = refl;
        passes = subst (λ (z : Rule). accepts z.ignore_case (parser_of_value z.parser) v ≡ true) (one e) ok;
        reading = ap reading_by (one e);
      }

      more : (r : Row) → (bytes_eq r.id a.id ≡ true → IsRow a r) → Good a (more_values s (v ∷ vs) r)
      more r f =
          (λ e. let x = f e in record { value = x.value; first = still_first r.values (v ∷ vs) x.value x.first; passes = x.passes; reading = x.reading }, tt)

  without_good : (id : Text) (rows : List Row) → Good a rows → Good a (without id rows)
  without_good id rows g = at_good id (λ _. []) [] (λ r f. tt) tt rows g

  -- ---- uses
  set_keeps : (b : Rule) → (bytes_eq b.id a.id ≡ true → b ≡ a) → action_of b ≡ Set → (unwrap_or_range b.range).start_inclusive ≡ 1 → Keeps (Good a) b
  set_keeps b one act start again [] rows e g = absurd (no_values _ (most_values b) start (first_none _ _ e))
  set_keeps b one act start again (v ∷ vs) rows e g =
      let f : action_fault (action_of b) again b (v ∷ vs) rows ≡ [] = then_none (range_kinds (unwrap_or_range b.range).start_inclusive (most_values b) (length (v ∷ vs))) _ e in
      let h : or_else (repeat_fault again b.id rows) (values_fault b (v ∷ vs)) ≡ [] = subst (λ x. action_fault x again b (v ∷ vs) rows ≡ []) act f in
      let ok = passed b.ignore_case (parser_of_value b.parser) v (first_none _ _ (then_none (repeat_fault again b.id rows) _ h)) in
      subst (λ x. Good a (used_as x b.id (reading_by b) (v ∷ vs) rows)) (sym act) (values_good b one CommandLine v vs ok (without b.id rows) (without_good b.id rows g))

  help_keeps : (b : Rule) → action_of b ≡ Help → Keeps (Good a) b
  help_keeps b act again vs rows e g =
      let f : action_fault (action_of b) again b (values_or_missing b vs) rows ≡ [] = then_none (range_kinds (unwrap_or_range b.range).start_inclusive (most_values b) (length vs)) _ e in
      let h : request_kinds Help ≡ [] = subst (λ x. action_fault x again b (values_or_missing b vs) rows ≡ []) act f in
      absurd cc

  -- ---- defaults
  default_good : (b : Rule) → (bytes_eq b.id a.id ≡ true → b ≡ a) → (rows : List Row) → default_fault rows b ≡ [] → Good a rows → Good a (with_default rows b)
  default_good b one rows e g = go (has_row b.id rows) b.defaults e
    where
      go : (x : Bool) (ds : List Text) → cond (x || is_empty ds) [] (given_default_fault b ds) ≡ [] → Good a (cond x rows (default_rows b.id (reading_by b) ds rows))
      go true ds e = g
      go false [] e = g
      go false (v ∷ vs) e =
          let f : given_default_fault b (v ∷ vs) ≡ [] = subst (λ (y : Bool). cond (false || y) [] (given_default_fault b (v ∷ vs)) ≡ []) (not_empty v vs) e in
          let ok = passed b.ignore_case (parser_of_value b.parser) v (first_none _ _ (then_none (request_kinds (action_of b)) _ f)) in
          values_good b one DefaultValue v vs ok rows g

  values_has : (b : Rule) (s : ValueSource) (vs : List Text) (rows : List Row) → Has a rows → Has a (with_values b.id (reading_by b) s vs rows)
  values_has b s vs [] h = absurd h
  values_has b s vs (r ∷ rs) h = by (values_has b s vs rs) (bytes_eq r.id b.id) h
    where
      by : (Has a rs → Has a (with_values b.id (reading_by b) s vs rs)) → (x : Bool) → (bytes_eq r.id a.id ≡ true) ⊎ Has a rs → Has a (cond x (more_values s vs r ++ rs) (r ∷ with_values b.id (reading_by b) s vs rs))
      by more true (inl e) = inl e
      by more true (inr k) = inr k
      by more false (inl e) = inl e
      by more false (inr k) = inr (more k)

  new_has : (s : ValueSource) (vs : List Text) (rows : List Row) → Has a (with_values a.id (reading_by a) s vs rows)
  new_has s vs [] = inl (same_text a.id)
  new_has s vs (r ∷ rs) = by (new_has s vs rs) (bytes_eq r.id a.id) refl
    where
      by : Has a (with_values a.id (reading_by a) s vs rs) → (x : Bool) → bytes_eq r.id a.id ≡ x → Has a (cond x (more_values s vs r ++ rs) (r ∷ with_values a.id (reading_by a) s vs rs))
      by more true e = inl e
      by more false e = inr more

  default_has : (b : Rule) (rows : List Row) → Has a rows → Has a (with_default rows b)
  default_has b rows h = go (has_row b.id rows) b.defaults
    where
      go : (x : Bool) (ds : List Text) → Has a (cond x rows (default_rows b.id (reading_by b) ds rows))
      go true ds = h
      go false [] = h
      go false (v ∷ vs) = values_has b DefaultValue (v ∷ vs) rows h

  any_has : (rows : List Row) → has_row a.id rows ≡ true → Has a rows
  any_has [] e = absurd (true≢false (sym e))
  any_has (r ∷ rs) e = by (any_has rs) (bytes_eq r.id a.id) refl e
    where
      by : (has_row a.id rs ≡ true → Has a rs) → (x : Bool) → bytes_eq r.id a.id ≡ x → (x || has_row a.id rs) ≡ true → (bytes_eq r.id a.id ≡ true) ⊎ Has a rs
      by more true e k = inl e
      by more false e k = inr (more k)

  own_default : (rows : List Row) → is_empty a.defaults ≡ false → Has a (with_default rows a)
  own_default rows some = go (has_row a.id rows) refl a.defaults some
    where
      go : (x : Bool) → has_row a.id rows ≡ x → (ds : List Text) → is_empty ds ≡ false → Has a (cond x rows (default_rows a.id (reading_by a) ds rows))
      go true e ds k = any_has rows e
      go false e [] k = absurd (true≢false k)
      go false e (v ∷ vs) k = new_has DefaultValue (v ∷ vs) rows

  given_has : (rows : List Row) → is_given a.id rows ≡ true → Has a rows
  given_has [] e = absurd (true≢false (sym e))
  given_has (r ∷ rs) e = by (given_has rs) (bytes_eq r.id a.id) refl e
    where
      by : (is_given a.id rs ≡ true → Has a rs) → (x : Bool) → bytes_eq r.id a.id ≡ x → option_map_or (λ (q : Row). explicit_source q.source) (cond x (Some r) (find (λ q. bytes_eq q.id a.id) rs)) false ≡ true
          → (bytes_eq r.id a.id ≡ true) ⊎ Has a rs
      by more true e k = inl e
      by more false e k = inr (more k)

  -- the row that is found
  pub found_row : (rows : List Row) → Good a rows → Has a rows → (r : Row) × (find (λ q. bytes_eq q.id a.id) rows ≡ Some r) × IsRow a r
  found_row [] g h = absurd h
  found_row (r ∷ rs) g h = by (found_row rs g.1) (bytes_eq r.id a.id) refl h
    where
      by : (Has a rs → (q : Row) × (find (λ q. bytes_eq q.id a.id) rs ≡ Some q) × IsRow a q) → (x : Bool) → bytes_eq r.id a.id ≡ x → (bytes_eq r.id a.id ≡ true) ⊎ Has a rs
          → (q : Row) × (cond x (Some r) (find (λ q. bytes_eq q.id a.id) rs) ≡ Some q) × IsRow a q
      by more true e h = (r, refl, g.0 e)
      by more false e (inl k) = absurd (true≢false (sym k ∙ e))
      by more false e (inr k) = more k

-- ---- arguments of a command
abbrev pub IsIn : Rule → List Rule → Type 0
IsIn a [] = ⊥
IsIn a (b ∷ c) = (b ≡ a) ⊎ IsIn a c

-- an argument with one value at least, or a call for help
abbrev pub IsPlain : Rule → Type 0
IsPlain b = ((action_of b ≡ Set) × ((unwrap_or_range b.range).start_inclusive ≡ 1)) ⊎ (action_of b ≡ Help)

module _ (a : Rule) where
  abbrev IsOnly : Rule → Type 0
  IsOnly b = bytes_eq b.id a.id ≡ true → b ≡ a

  pub each_keeps : (c : List Rule) → AllByRecursion IsOnly c → AllByRecursion IsPlain c → EachKeeps (Good a) c
  each_keeps [] h p = tt
  each_keeps (b ∷ c) h p = (by p.0, each_keeps c h.1 p.1)
    where
      by : IsPlain b → Keeps (Good a) b
      by (inl k) = set_keeps a b h.0 k.0 k.1
      by (inr k) = help_keeps a b k

  pub defaults_good : (c : List Rule) → AllByRecursion IsOnly c → (rows : List Row) → defaults_fault rows c ≡ [] → Good a rows → Good a (fold with_default rows c)
  unfolding defaults_fault
  defaults_good [] h rows e g = g
  defaults_good (b ∷ c) h rows e g =
      defaults_good c h.1 (with_default rows b) (then_none (default_fault rows b) _ e) (default_good a b h.0 rows (first_none (default_fault rows b) _ e) g)

  defaults_has : (c : List Rule) (rows : List Row) → Has a rows → Has a (fold with_default rows c)
  defaults_has [] rows h = h
  defaults_has (b ∷ c) rows h = defaults_has c (with_default rows b) (default_has a b rows h)

  pub default_there : (c : List Rule) → IsIn a c → is_empty a.defaults ≡ false → (rows : List Row) → Has a (fold with_default rows c)
  default_there [] i some rows = absurd i
  default_there (b ∷ c) (inl e) some rows = defaults_has c (with_default rows b) (subst (λ z. Has a (with_default rows z)) (sym e) (own_default a rows some))
  default_there (b ∷ c) (inr i) some rows = default_there c i some (with_default rows b)

  -- what is asked for is given, where no argument that is required is missing
  pub required_there : (c : List Rule) (rows : List Row) → IsIn a c → a.required ≡ true → list_any (λ b. b.required && not (is_given b.id rows)) c ≡ false → Has a rows
  required_there [] rows i q e = absurd i
  required_there (b ∷ c) rows (inr i) q e = required_there c rows i q (by (b.required && not (is_given b.id rows)) e)
    where
      by : (x : Bool) → (x || list_any (λ b. b.required && not (is_given b.id rows)) c) ≡ false → list_any (λ b. b.required && not (is_given b.id rows)) c ≡ false
      by true e = absurd (true≢false e)
      by false e = e
  required_there (b ∷ c) rows (inl s) q e = given_has a rows (by a.required (is_given a.id rows) q (subst (λ z. (z.required && not (is_given z.id rows) || list_any (λ b. b.required && not (is_given b.id rows)) c) ≡ false) s e))
    where
      by : (x y : Bool) → x ≡ true → ((x && not y) || list_any (λ b. b.required && not (is_given b.id rows)) c) ≡ false → y ≡ true
      by false y q e = absurd (true≢false (sym q))
      by true true q e = refl
      by true false q e = absurd (true≢false e)
