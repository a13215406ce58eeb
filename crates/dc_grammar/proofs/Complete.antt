-- A text of a rule is read whole, where what comes next may stand after the rule.
use Rattle.std.proofs.Common.{◌≡◌, Bool, true, false, not, ◌||◌, ◌&&◌, List, [], ◌∷◌, ◌++◌, refl, sym, subst, append_assoc}
use Rattle.std.proofs.lemmas.Bool.{or_left}
use Rattle.dc_grammar.specs.Grammar.{Rule, ref, seq, alt, many, Tree, pair, Derives, token, nothing, name, both, first, second, no_more, one_more, has}
use Rattle.dc_grammar.specs.Reading.{Reader, nullable, firsts, begins, Out, ok, Parses, one-ok, nil-ok, name-of, seq-ok, left-ok, right-ok, many-end, many-ok}
use Rattle.dc_grammar.specs.Lookahead.{every, implies, then_, ll1, LooksAhead}
use Rattle.dc_grammar.proofs.Tests.{and_both, or_right, implies_true, not_both, not_true}
use Rattle.dc_tokens.proofs.Front.{and_left, and_right}

name_begins : {K N T : Type 0} {R : Reader K N T} → LooksAhead R → (x : N) (j : K) → firsts R (R.grammar.rules x) j ≡ true → firsts R (ref x) j ≡ true
name_begins {R = R} each x j h = implies_true _ _ (each.all_kinds (λ k. implies (firsts R (R.grammar.rules x) k) (firsts R (ref x) k)) (each.begins_right x) j) h

-- ---- with what a text of a rule begins

abbrev pub Starts : {K N T : Type 0} → Reader K N T → Rule K N → List T → Type 0
Starts R r [] = nullable R r ≡ true
Starts R r (t ∷ u) = firsts R r (R.grammar.kind t) ≡ true

name_starts : {K N T : Type 0} {R : Reader K N T} → LooksAhead R → (x : N) (u : List T) → Starts R (R.grammar.rules x) u → Starts R (ref x) u
name_starts each x [] h = implies_true _ _ (each.empty_right x) h
name_starts {R = R} each x (t ∷ u) h = name_begins each x (R.grammar.kind t) h

both_start : {K N T : Type 0} (R : Reader K N T) (r s : Rule K N) (u v : List T) → Starts R r u → Starts R s v → Starts R (seq r s) (u ++ v)
both_start R r s [] [] g h = and_both _ _ g h
both_start R r s [] (t ∷ v) g h = or_right (firsts R r (R.grammar.kind t)) (nullable R r && firsts R s (R.grammar.kind t)) (and_both _ _ g h)
both_start R r s (t ∷ u) v g h = or_left _ _ g

first_start : {K N T : Type 0} (R : Reader K N T) (r s : Rule K N) (u : List T) → Starts R r u → Starts R (alt r s) u
first_start R r s [] h = or_left _ _ h
first_start R r s (t ∷ u) h = or_left _ _ h

second_start : {K N T : Type 0} (R : Reader K N T) (r s : Rule K N) (u : List T) → Starts R s u → Starts R (alt r s) u
second_start R r s [] h = or_right _ _ h
second_start R r s (t ∷ u) h = or_right _ _ h

more_start : {K N T : Type 0} (R : Reader K N T) (r : Rule K N) (u v : List T) → Starts R r u → Starts R (many r) v → Starts R (many r) (u ++ v)
more_start R r [] [] g h = refl
more_start R r [] (t ∷ v) g h = h
more_start R r (t ∷ u) v g h = g

pub starts : {K N T : Type 0} {R : Reader K N T} → LooksAhead R → {r : Rule K N} {u : List T} {a : Tree T} → Derives R.grammar r u a → Starts R r u
starts {R = R} each (token h) = h
starts {R = R} each nothing = refl
starts {R = R} each (name {x} {u} d) = name_starts each x u (starts each d)
starts {R = R} each (both {r} {s} {u} {v} d e) = both_start R r s u v (starts each d) (starts each e)
starts {R = R} each (first {r} {s} {u} d) = first_start R r s u (starts each d)
starts {R = R} each (second {r} {s} {u} d) = second_start R r s u (starts each d)
starts {R = R} each no_more = refl
starts {R = R} each (one_more {r} {u} {v} d e) = more_start R r u v (starts each d) (starts each e)

-- ---- a text of a rule is read whole, where what comes next may stand after the rule

abbrev pub Fits : {K N T : Type 0} → Reader K N T → (K → Bool) → List T → Type 0
Fits R f [] = Unit {0}
Fits R f (t ∷ ts) = f (R.grammar.kind t) ≡ true

fits_then : {K N T : Type 0} (R : Reader K N T) (s : Rule K N) (f : K → Bool) (v ts : List T) → Starts R s v → Fits R f ts → Fits R (then_ R s f) (v ++ ts)
unfolding then_
fits_then R s f [] [] h g = tt
fits_then R s f [] (t ∷ ts) h g = or_right (firsts R s (R.grammar.kind t)) (nullable R s && f (R.grammar.kind t)) (and_both _ _ h g)
fits_then R s f (t ∷ v) ts h g = or_left _ _ h

fits_more : {K N T : Type 0} (R : Reader K N T) (r : Rule K N) (f : K → Bool) (v ts : List T) → Starts R (many r) v → Fits R f ts → Fits R (λ k. firsts R r k || f k) (v ++ ts)
fits_more R r f [] [] h g = tt
fits_more R r f [] (t ∷ ts) h g = or_right _ _ g
fits_more R r f (t ∷ v) ts h g = or_left _ _ h

fits_name : {K N T : Type 0} {R : Reader K N T} → (each : LooksAhead R) → (x : N) (f : K → Bool) (ts : List T) → ll1 R each.kinds (ref x) f ≡ true → Fits R f ts → Fits R (has R.grammar.same (R.follow x)) ts
unfolding ll1
fits_name each x f [] h g = tt
fits_name {R = R} each x f (t ∷ ts) h g = implies_true _ _ (each.all_kinds (λ k. implies (f k) (has R.grammar.same (R.follow x) k)) h (R.grammar.kind t)) g

goes : {K N T : Type 0} (R : Reader K N T) (r : Rule K N) (u ts : List T) → not (nullable R r) ≡ true → Starts R r u → begins R r (u ++ ts) ≡ true
goes R r [] ts n h = not_true _ n h
goes R r (t ∷ u) ts n h = h

stays : {K N T : Type 0} {R : Reader K N T} → (each : LooksAhead R) → (r s : Rule K N) (f : K → Bool) (u ts : List T) → every each.kinds (λ k. not (firsts R r k && then_ R s f k)) ≡ true → Starts R s u → Fits R f ts → begins R r (u ++ ts) ≡ false
unfolding then_
stays {R = R} each r s f [] [] n h g = refl
stays {R = R} each r s f [] (t ∷ ts) n h g = not_both _ _ (each.all_kinds (λ k. not (firsts R r k && then_ R s f k)) n (R.grammar.kind t)) (or_right (firsts R s (R.grammar.kind t)) (nullable R s && f (R.grammar.kind t)) (and_both _ _ h g))
stays {R = R} each r s f (t ∷ u) ts n h g = not_both _ _ (each.all_kinds (λ k. not (firsts R r k && then_ R s f k)) n (R.grammar.kind t)) (or_left _ _ h)

ends : {K N T : Type 0} {R : Reader K N T} → (each : LooksAhead R) → (r : Rule K N) (f : K → Bool) (ts : List T) → every each.kinds (λ k. not (firsts R r k && f k)) ≡ true → Fits R f ts → begins R r ts ≡ false
ends {R = R} each r f [] n g = refl
ends {R = R} each r f (t ∷ ts) n g = not_both _ _ (each.all_kinds (λ k. not (firsts R r k && f k)) n (R.grammar.kind t)) g

joined : {K N T : Type 0} {R : Reader K N T} (r : Rule K N) (u v ts : List T) (o : Out T) → Parses R r (u ++ (v ++ ts)) o → Parses R r ((u ++ v) ++ ts) o
joined {R = R} r u v ts o d = subst (λ x. Parses R r x o) (sym (append_assoc u v ts)) d

pub complete : {K N T : Type 0} {R : Reader K N T} → (each : LooksAhead R) → {r : Rule K N} {u : List T} {a : Tree T} → Derives R.grammar r u a → (f : K → Bool) → ll1 R each.kinds r f ≡ true → (ts : List T) → Fits R f ts → Parses R r (u ++ ts) (ok a ts)
unfolding ll1
complete {R = R} each (token h) f l ts g = one-ok h
complete {R = R} each nothing f l ts g = nil-ok
complete {R = R} each (name {x} d) f l ts g = name-of (complete each d (has R.grammar.same (R.follow x)) (each.one_way x) ts (fits_name each x f ts l g))
complete {R = R} each (both {r = r} {s = s} {u = u} {v = v} {a = a} {b = b} d e) f l ts g =
    let l1 : ll1 R each.kinds r (then_ R s f) ≡ true = and_left _ _ l in
    let l2 : ll1 R each.kinds s f ≡ true = and_right _ _ l in
    joined (seq r s) u v ts (ok (pair a b) ts) (seq-ok (complete each d (then_ R s f) l1 (v ++ ts) (fits_then R s f v ts (starts each e) g)) (complete each e f l2 ts g))
complete {R = R} each (first {r} {s} {u} d) f l ts g =
    let l0 : not (nullable R r) ≡ true = and_left _ _ l in
    let l1 : ll1 R each.kinds r f ≡ true = and_left _ _ (and_right _ _ (and_right _ _ l)) in
    left-ok (goes R r u ts l0 (starts each d)) (complete each d f l1 ts g)
complete {R = R} each (second {r} {s} {u} d) f l ts g =
    let l0 : every each.kinds (λ k. not (firsts R r k && then_ R s f k)) ≡ true = and_left _ _ (and_right _ _ l) in
    let l1 : ll1 R each.kinds s f ≡ true = and_right (ll1 R each.kinds r f) (ll1 R each.kinds s f) (and_right (every each.kinds (λ k. not (firsts R r k && then_ R s f k))) (ll1 R each.kinds r f && ll1 R each.kinds s f) (and_right (not (nullable R r)) _ l)) in
    right-ok (stays each r s f u ts l0 (starts each d) g) (complete each d f l1 ts g)
complete {R = R} each (no_more {r}) f l ts g = many-end (ends each r f ts (and_left _ _ (and_right _ _ l)) g)
complete {R = R} each (one_more {r} {u} {v} {a} {b} d e) f l ts g =
    let l0 : not (nullable R r) ≡ true = and_left _ _ l in
    let l1 : ll1 R each.kinds r (λ k. firsts R r k || f k) ≡ true = and_right _ _ (and_right _ _ l) in
    joined (many r) u v ts (ok (pair a b) ts) (many-ok (goes R r u (v ++ ts) l0 (starts each d)) (complete each d (λ k. firsts R r k || f k) l1 (v ++ ts) (fits_more R r f v ts (starts each e) g)) (complete each e f l ts g))
