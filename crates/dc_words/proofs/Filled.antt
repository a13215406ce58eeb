-- After a parse that succeeds each argument that is required, or has a default, has a text that passed its parser.
use Rattle.std.proofs.Common.{◌≡◌, ◌∙◌, ◌<◌, ◌≤◌, ◌||◌, ℕ, Bool, true, false, not, zero, suc, List, [], ◌∷◌, map, length, Option, Some, None, is_some, refl, sym, ap, subst, inl, inr, arith, true≢false, codes, cond}
use Rattle.std.specs.List.{All, slice_index_or, list_all, list_any}
use Rattle.std.specs.Str.{bytes_eq}
use Rattle.std.specs.Prelude.{find, option_map, unwrap_or, slice_get}
use Rattle.std.specs.Borrow.{Bor}
use Rattle.std.proofs.lemmas.List.Elements.{All-get_or}
use Rattle.std.proofs.lemmas.List.Folds.{list_any_at}
use Rattle.std.proofs.lemmas.List.{get_or-map, length-map}
use Rattle.std.proofs.lemmas.Slice.Eq.{bytes_eq-Decides}
use Rattle.clap.specs.Facts.{args_of, groups_of, unwrap_or_range, IsParsed, WantsDefault, HasId, Entry, EntryPasses, PassesArg, HasReading, least_values, parser_of, parser_of_value}
use Rattle.clap.specs.Built.{IsPlain, IsPlainArg, IsParsedFrom, IsAuto, SameRules}
use Rattle.clap.specs.Texts.{items_of}
use Rattle.clap.specs.Matches.{matched_of, found_of, has_subcommand}
use Rattle.clap.specs.Values.{Accepts, read_as, reading_of}
use Rattle.clap.specs.Walk.{Rule, Text, rule_of, is_empty, action_of, is_simple_arg, is_free_arg}
use Rattle.clap.specs.Simple.{app_of}
use Rattle.clap.specs.declared.builder.value_parser.Reading.{Reading}
use Rattle.clap.specs.declared.builder.value_parser.ValueParser.{ValueParser}
use Rattle.clap.specs.declared.builder.action.ArgAction.{ArgAction}
use Rattle.clap.specs.declared.builder.action.ArgAction.TheVariants.{Count, Set}
use Rattle.clap.specs.declared.builder.arg.Arg.{Arg}
use Rattle.clap.specs.declared.builder.command.Command.{Command}
use Rattle.clap.specs.declared.builder.command.Command.TheViews.{out-Command}
use Rattle.clap.specs.declared.parser.matches.ArgMatches.{ArgMatches}
use Rattle.clap.specs.declared.parser.matches.MatchedArg.{MatchedArg}
use Rattle.clap.specs.declared.parser.matches.Found.{Found}
use Rattle.clap.proofs.CallerLemmas.{required_present, default_present, present_has_entry, entry_by_id, same_rules_by_id}
use Rattle.clap.proofs.WalkLemmas.{both}
use Rattle.clap.proofs.SimpleLemmas.{is_nil, is_false}
use Rattle.dc_words.specs.Rules.{is_set, is_single, has_distinct_ids, is_plain_command, is_sure}
use Rattle.dc_words.specs.Held.{IsHeld, IsFilled}

-- ---- lists

element_at : {X : Type 0} (xs : List X) (k : ℕ) → k < length xs → (x : X) × ((d : X) → slice_index_or xs k d ≡ x)
element_at [] k lt = absurd (omega arith)
element_at (x ∷ xs) zero lt = (x, λ d. refl)
element_at (x ∷ xs) (suc k) lt = element_at xs k (omega arith)

entry_found : (xs : List Entry) (id : Text) (i : ℕ) → i < length xs → ((d : Entry) → bytes_eq (slice_index_or xs i d).0.now id ≡ true)
    → is_some (option_map (λ e. e.1) (find (λ e. bytes_eq e.0.now id) xs)) ≡ true
entry_found [] id i lt hit = absurd (omega arith)
entry_found (x ∷ xs) id zero lt hit = rw (hit x) refl
entry_found (x ∷ xs) id (suc i) lt hit = go (bytes_eq x.0.now id) (entry_found xs id i (omega arith) hit)
  where
    go : (b : Bool) → is_some (option_map (λ e. e.1) (find (λ e. bytes_eq e.0.now id) xs)) ≡ true
        → is_some (option_map (λ (e : Entry). e.1) (cond b (Some x) (find (λ e. bytes_eq e.0.now id) xs))) ≡ true
    go true rest = refl
    go false rest = rest

id_has_entry : (f : Found) (id : Text) → HasId f id → is_some (matched_of f id) ≡ true
id_has_entry f id h = entry_found f.entries.items id h.0 h.1 h.2

-- ---- tests

some_is : {X : Type 0} (o : Option X) → is_some o ≡ true → (x : X) × (o ≡ Some x)
some_is None e = absurd (true≢false (sym e))
some_is (Some x) e = (x, refl)

none_is : {X : Type 0} (o : Option X) → not (is_some o) ≡ true → o ≡ None
none_is None e = refl
none_is (Some x) e = absurd (true≢false (sym e))

set_is : (a : ArgAction) → is_set a ≡ true → a ≡ Set
set_is Set e = refl
set_is _ e = absurd (true≢false (sym e))

no_other : (xs : List Arg) (id : Text) → not (list_any (λ q. bytes_eq q.id id) (map rule_of xs)) ≡ true
    → (k : ℕ) (d : Arg) → k < length xs → bytes_eq (slice_index_or xs k d).id.now id ≡ true → ⊥
no_other xs id none k d lt same =
    let in_map : k < length (map rule_of xs) = rw length-map lt in
    let at = get_or-map rule_of xs k d (rule_of d) lt in
    let there : bytes_eq (slice_index_or (map rule_of xs) k (rule_of d)).id id ≡ true = rw at same in
    let any = list_any_at (λ q. bytes_eq q.id id) (map rule_of xs) k (rule_of d) in_map there in
    true≢false (sym any ∙ is_false _ none)

equal_texts : (a b : Text) → bytes_eq a b ≡ true → bytes_eq b a ≡ true
equal_texts a b e = subst (λ (t : Text). bytes_eq b t ≡ true) (sym ((bytes_eq-Decides a b).0 e)) ((bytes_eq-Decides b b).1 refl)

-- no two arguments have one id
distinct : (args : List Arg) → has_distinct_ids (map rule_of args) ≡ true → (j k : ℕ) (e d : Arg) → j < length args → k < length args
    → bytes_eq (slice_index_or args j e).id.now (slice_index_or args k d).id.now ≡ true → j ≡ k
distinct [] h j k e d lj lk same = absurd (omega arith)
distinct (x ∷ xs) h zero zero e d lj lk same = refl
distinct (x ∷ xs) h zero (suc k) e d lj lk same = absurd (no_other xs x.id.now (both _ _ h).0 k d (omega arith) (equal_texts x.id.now (slice_index_or xs k d).id.now same))
distinct (x ∷ xs) h (suc j) zero e d lj lk same = absurd (no_other xs x.id.now (both _ _ h).0 j e (omega arith) same)
distinct (x ∷ xs) h (suc j) (suc k) e d lj lk same = ap suc (distinct xs (both _ _ h).1 j k e d (omega arith) (omega arith) same)

-- ---- what the tests say of a command

record Fits (c : Command) : Type 0 where
  plain : IsPlain c
  globals : (out-Command c).has_globals ≡ false
  negates : (out-Command c).subcommand_negates_reqs ≡ false
  distinct : has_distinct_ids (map rule_of (args_of c)) ≡ true
  single : (k : ℕ) (d : Arg) → k < length (args_of c) → is_single (rule_of (slice_index_or (args_of c) k d)) ≡ true
  simple : (k : ℕ) (d : Arg) → k < length (args_of c) → is_simple_arg (slice_index_or (args_of c) k d) ≡ true

passes_at : {X : Type 0} (p : X → Bool) (xs : List X) → list_all p xs ≡ true → (k : ℕ) (d : X) → k < length xs → p (slice_index_or xs k d) ≡ true
passes_at p [] all k d lt = absurd (omega arith)
passes_at p (x ∷ xs) all zero d lt = (both _ _ all).0
passes_at p (x ∷ xs) all (suc k) d lt = passes_at p xs (both _ _ all).1 k d (omega arith)

rules_pass : (p : Rule → Bool) (args : List Arg) → list_all p (map rule_of args) ≡ true → (k : ℕ) (d : Arg) → k < length args
    → p (rule_of (slice_index_or args k d)) ≡ true
rules_pass p args all k d lt =
    let in_map : k < length (map rule_of args) = rw length-map lt in
    let got = passes_at p (map rule_of args) all k (rule_of d) in_map in
    rw (get_or-map rule_of args k d (rule_of d) lt) at got

plain_arg : (a : Arg) → is_simple_arg a ≡ true → is_free_arg a ≡ true → IsPlainArg a
plain_arg a simple free =
    let s = both _ _ simple in
    let f = both _ _ free in (
      is_false _ f.0,
      is_nil _ (both _ _ f.1).0,
      is_nil _ s.0,
      is_nil _ (both _ _ (both _ _ s.1).1).0,
    )

fits : (c : Command) → is_plain_command (app_of c) ≡ true → Fits c
fits c h =
    let tests = both _ _ h in
    let single = both _ _ tests.1 in
    let free = both _ _ single.1 in
    let last = both _ _ free.1 in
    let simple = both _ _ tests.0 in
    let buildable = both _ _ (both _ _ simple.0).0 in
    let shape = both _ _ buildable.0 in
    let fields = both _ _ shape.0 in
    let simple_at = rules_pass (λ r. r.is_simple) (args_of c) shape.1 in
    let free_at = rules_pass (λ r. r.is_free) (args_of c) free.0 in
    record {
      plain = (λ k d lt. plain_arg (slice_index_or (args_of c) k d) (simple_at k d lt) (free_at k d lt), is_nil _ fields.0);
      globals = is_false _ (both _ _ (both _ _ fields.1).1).0;
      negates = is_false _ last.1;
      distinct = last.0;
      single = rules_pass is_single (args_of c) single.0;
      simple = simple_at;
    }

-- ---- one argument

head_of : (how : Reading) (vs : List (Bor Text)) → 0 < length vs
    → (v : Bor Text) × (option_map (λ s. s.now) (slice_get vs 0) ≡ Some v.now) × (option_map (λ s. read_as how s.now) (slice_get vs 0) ≡ Some (read_as how v.now))
    × ((P : Bor Text → Type 0) → All P vs → P v)
head_of how [] lt = absurd (omega arith)
head_of how (v ∷ vs) lt = (v, refl, refl, λ P all. All-get_or P (v ∷ vs) 0 v (omega arith) all)

module _ (c : Command) (m : ArgMatches) (p : IsParsedFrom c m) (ok : Fits c) (k : ℕ) (d : Arg) (lt : k < length (args_of c)) where
  abbrev a : Arg
  a = slice_index_or (args_of c) k d

  abbrev f : Found
  f = found_of m

  one_id : (j : ℕ) (e : Arg) → j < length (args_of c) → bytes_eq (slice_index_or (args_of c) j e).id.now a.id.now ≡ true → j ≡ k
  one_id j e lj same = distinct (args_of c) ok.distinct j k e d lj lt same

  action_is : a.action ≡ Some Set
  action_is =
      let s = both _ _ (ok.single k d lt) in
      let some = some_is a.action s.0 in
      let set : is_set (unwrap_or a.action Set) ≡ true = (both _ _ s.1).0 in
      some.1 ∙ ap Some (set_is some.0 (rw some.1 at set))

  range_is : a.num_vals ≡ None
  range_is = none_is a.num_vals (both _ _ (both _ _ (both _ _ (ok.single k d lt)).1).1).0

  names_are : (not (is_empty a.id.now) ≡ true) × (not (bytes_eq a.id.now (codes "help")) ≡ true) × (not (bytes_eq a.id.now (codes "version")) ≡ true)
  names_are =
      let of_action = both _ _ (ok.single k d lt) in
      let of_set = both (is_set (action_of (rule_of a))) _ of_action.1 in
      let of_range = both (not (is_some a.num_vals)) _ of_set.1 in
      let s = both (not (is_empty a.id.now)) _ of_range.1 in
      let t = both (not (bytes_eq a.id.now (codes "help"))) _ s.1 in
      (s.0, t.0, t.1)

  named : a.id.now ≡ [] → ⊥
  named e =
      let bad : false ≡ true = rw e at names_are.0 in
      true≢false (sym bad)

  own : IsAuto a → ⊥
  own (inl e) =
      let bad : false ≡ true = rw e at names_are.1 in
      true≢false (sym bad)
  own (inr e) =
      let bad : false ≡ true = rw e at names_are.2 in
      true≢false (sym bad)

  wants_default : not (is_empty (rule_of a).defaults) ≡ true → WantsDefault a
  wants_default h = (
    is_nil _ (both _ _ (both _ _ (ok.simple k d lt)).1).0,
    filled_defaults (items_of a.default_vals) h,
  )
    where
      filled_defaults : (vs : List (Bor Text)) → not (is_empty (map (λ (s : Bor Text). s.now) vs)) ≡ true → 0 < length vs
      filled_defaults [] e = absurd (true≢false (sym e))
      filled_defaults (v ∷ vs) e = omega arith

  has_entry : is_sure (rule_of a) ≡ true → is_some (matched_of f a.id.now) ≡ true
  has_entry sure = go a.required refl sure
    where
      go : (b : Bool) → a.required ≡ b → (b || not (is_empty (rule_of a).defaults)) ≡ true → is_some (matched_of f a.id.now) ≡ true
      go true e h = present_has_entry f a.id.now (required_present c m p ok.plain ok.globals ok.negates k d lt e)
      go false e h = id_has_entry f a.id.now (default_present c m p ok.globals k d lt (wants_default h))

  parsed : IsParsed p.built f (has_subcommand m)
  parsed = p.parsed (p.from.globals ∙ ok.globals)

  no_groups : groups_of p.built ≡ []
  no_groups = (p.from.plain ok.plain).1

  same_rules : (j : ℕ) (x : Arg) → j < length (args_of p.built) → slice_index_or (args_of p.built) j x ≡ x → bytes_eq x.id.now a.id.now ≡ true → SameRules a x
  same_rules = same_rules_by_id c m p k d lt one_id own

  no_group : (e : Entry) → e.0.now ≡ a.id.now → EntryPasses p.built e → e.1.is_group ≡ true → ⊥
  no_group e key pass g = elim (pass.3 g) [
    | inl empty ↦ named (sym key ∙ empty)
    | inr lots ↦
        let bad : 0 < 0 = rw no_groups at lots in
        absurd (omega arith)
  ]

  has_values : (e : Entry) → e.0.now ≡ a.id.now → EntryPasses p.built e → 0 < length e.1.vals.items
  has_values e key pass = elim pass.1 [
    | inl g ↦ absurd (no_group e key pass g.0)
    | inr (inl v) ↦ v
    | inr (inr (inl h)) ↦
        let any = h.1 in
        let s = same_rules any.0 any.1 any.2 any.3 (rw key at any.4.0) in
        let set : any.1.action ≡ Some Set = s.action Set action_is in
        let bad : Set ≡ Count = rw set at any.4.1 in
        cc
    | inr (inr (inr h)) ↦
        let s = same_rules h.0 h.1 h.2 h.3 (rw key at h.4.0) in
        elim h.4.1 [
          | inl none ↦
              let least : 1 ≤ least_values a = subst (λ o. 1 ≤ (unwrap_or_range o).start_inclusive) (sym range_is) (omega arith) in
              let one = s.least action_is least in
              absurd (omega arith)
          | inr has ↦
              let of_overrides = both (is_empty a.overrides.items) _ (ok.simple k d lt) in
              let of_ifs = both (is_empty a.default_vals_ifs.items) _ of_overrides.1 in
              let of_groups = both (is_empty a.groups.items) _ of_ifs.1 in
              let of_delim = both (not (is_some a.val_delim)) _ of_groups.1 in
              let no_delim : a.val_delim ≡ None = none_is a.val_delim of_delim.0 in
              let bad : false ≡ true = rw (s.val_delim, no_delim) at has in
              cc
        ]
  ]

  only_reading : (q : ValueParser) → a.value_parser ≡ Some q → (r : Reading) → HasReading p.built a.id.now r → r ≡ reading_of q
  only_reading q parser r any =
      let s = same_rules any.0 any.1 any.2 any.3 any.4.0 in
      let is_q : parser_of any.1 ≡ q = ap parser_of_value (s.parser q parser) in
      sym any.4.1 ∙ ap reading_of is_q

  value_passes : (q : ValueParser) → a.value_parser ≡ Some q → (v : Bor Text) → PassesArg p.built a.id.now v.now → Accepts a.ignore_case q v.now
  value_passes q parser v pass =
      let s = same_rules pass.0 pass.1 pass.2 pass.3 pass.4.0 in
      let is_q : parser_of pass.1 ≡ q = ap parser_of_value (s.parser q parser) in
      let as_q : Accepts pass.1.ignore_case q v.now = subst (λ (w : ValueParser). Accepts pass.1.ignore_case w v.now) is_q pass.4.1 in
      subst (λ (b : Bool). Accepts b q v.now) s.ignore_case as_q

  held_by : (x : MatchedArg) → matched_of f a.id.now ≡ Some x → (e : Entry) → e.1 ≡ x → e.0.now ≡ a.id.now → EntryPasses p.built e → IsHeld f (rule_of a)
  held_by x found e same key pass =
      let how = x.reading in
      let some : 0 < length x.vals.items = rw same at (has_values e key pass) in
      let head = head_of how x.vals.items some in
      let all : All (λ v. PassesArg p.built a.id.now v.now) x.vals.items = elim pass.0 [
        | inl g ↦ absurd (no_group e key pass g)
        | inr vals ↦ subst (λ (w : Text). All (λ v. PassesArg p.built w v.now) x.vals.items) key (rw same at vals)
      ] in
      let has_reading : HasReading p.built a.id.now how = elim pass.4 [
        | inl g ↦ absurd (no_group e key pass g)
        | inr h ↦ subst (λ (w : Text). HasReading p.built w how) key (rw same at h)
      ] in
      record {
        text = head.0.now;
        first = rw found head.1;
        one = λ q parser. rw (found, ← only_reading q parser how has_reading) head.2;
        passes = λ q parser. value_passes q parser head.0 (head.3 (λ v. PassesArg p.built a.id.now v.now) all);
      }

  held : is_sure (rule_of a) ≡ true → IsHeld f (rule_of a)
  held sure =
      let some = some_is (matched_of f a.id.now) (has_entry sure) in
      let got = entry_by_id (EntryPasses p.built) f.entries.items a.id.now some.0 parsed.values some.1 in
      held_by some.0 some.1 got.0 got.1 ((bytes_eq-Decides _ _).0 got.2) got.3

filled_by : (f : Found) (rs : List Rule) → ((k : ℕ) (d : Rule) → k < length rs → is_sure (slice_index_or rs k d) ≡ true → IsHeld f (slice_index_or rs k d)) → IsFilled f rs
filled_by f [] at = tt
filled_by f (r ∷ rs) at = (at 0 r (omega arith), filled_by f rs (λ k d lt. at (suc k) d (omega arith)))

filled_at : (c : Command) (m : ArgMatches) → IsParsedFrom c m → Fits c → (k : ℕ) (d : Rule) → k < length (map rule_of (args_of c))
    → is_sure (slice_index_or (map rule_of (args_of c)) k d) ≡ true → IsHeld (found_of m) (slice_index_or (map rule_of (args_of c)) k d)
filled_at c m p ok k d lt =
    let in_args : k < length (args_of c) = rw length-map at lt in
    let x = (element_at (args_of c) k in_args).0 in
    rw (get_or-map rule_of (args_of c) k x d in_args) (held c m p ok k x in_args)

-- each argument that is required, or has a default, has a text that passed its parser
pub filled : (c : Command) (m : ArgMatches) → is_plain_command (app_of c) ≡ true → IsParsedFrom c m → IsFilled (found_of m) (app_of c).top.rules
filled c m plain p = filled_by (found_of m) (map rule_of (args_of c)) (filled_at c m p (fits c plain))
