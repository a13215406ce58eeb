-- A whole text that is read to its end.
use Rattle.std.proofs.Common.{◌≡◌, ◌<◌, ◌≤◌, Bool, true, false, ◌||◌, ◌&&◌, List, [], ◌∷◌, ◌++◌, length, refl, ap, sym, ◌∙◌, subst, append-nil, arith, length-append}
use Rattle.dc_grammar.specs.Grammar.{Rule, one, ref, seq, many, Tree, leaf, none, pair, Derives, has}
use Rattle.dc_grammar.specs.Reading.{Reader, nullable, firsts, begins, Out, ok, fail, rest, Parses, one-ok, one-bad, one-end, many-end, many-ok, many-bad, many-stops}
use Rattle.dc_grammar.specs.Lookahead.{every, implies, ll1, LooksAhead}
use Rattle.dc_grammar.proofs.OneAnswer.{one_answer, ok_same, fail_ok}
use Rattle.dc_grammar.proofs.Done.{Done, done}
use Rattle.dc_grammar.proofs.Complete.{Starts, starts, complete}

-- nothing may stand after the text
pub every_all : {K : Type 0} (ks : List K) (p : K → Bool) → ((k : K) → p k ≡ true) → every ks p ≡ true
unfolding every
every_all [] p h = refl
every_all (k ∷ ks) p h = both (p k) (every ks p) (h k) (every_all ks p h)
  where
    both : (a b : Bool) → a ≡ true → b ≡ true → a && b ≡ true
    both true b g h = h
    both false b g h = absurd cc

ends_here : {K N T : Type 0} {R : Reader K N T} → (each : LooksAhead R) → (x : N) → ll1 R each.kinds (ref x) (λ k. false) ≡ true
unfolding ll1 implies
ends_here {R = R} each x = every_all each.kinds (λ k. implies false (has R.grammar.same (R.follow x) k)) (λ k. so (has R.grammar.same (R.follow x) k))
  where
    so : (b : Bool) → implies false b ≡ true
    so b = refl

pub alone : {K N T : Type 0} {R : Reader K N T} → LooksAhead R → {x : N} {ts : List T} {a : Tree T} → Derives R.grammar (ref x) ts a → Parses R (ref x) ts (ok a [])
alone {R = R} each {x} {ts} {a} d = subst (λ u. Parses R (ref x) u (ok a [])) (append-nil ts) (complete each d (λ k. false) (ends_here each x) [] tt)

-- a text has at most one tree
pub one_tree : {K N T : Type 0} {R : Reader K N T} → LooksAhead R → (x : N) (ts : List T) (a b : Tree T) → Derives R.grammar (ref x) ts a → Derives R.grammar (ref x) ts b → a ≡ b
one_tree each x ts a b d e = (ok_same (one_answer (alone each d) (alone each e))).0

pub ends_whole : {K N T : Type 0} {R : Reader K N T} → LooksAhead R → (x : N) (ts : List T) (a : Tree T) → Parses R (ref x) ts (ok a []) → Derives R.grammar (ref x) ts a
ends_whole {R = R} each x ts a d =
    let i : Done R (ref x) ts (ok a []) = done each d in
    subst (λ u. Derives R.grammar (ref x) u a) (sym (i.split ∙ append-nil i.used)) i.means

-- where the reader fails, or leaves a token, the tokens are no text
pub fails_whole : {K N T : Type 0} {R : Reader K N T} → LooksAhead R → (x : N) (ts us : List T) → Parses R (ref x) ts (fail us) → (a : Tree T) → Derives R.grammar (ref x) ts a → ⊥
fails_whole each x ts us d a e = fail_ok (one_answer d (alone each e))

pub list_cons : {A T : Type 0} {t : T} {w : List T} → t ∷ w ≡ [] → A
list_cons e = absurd cc

-- ---- tokens are used up

pub no_longer : {K N T : Type 0} {R : Reader K N T} → LooksAhead R → {r : Rule K N} {ts : List T} {o : Out T} → Parses R r ts o → length (rest o) ≤ length ts
no_longer {R = R} each {r} {ts} {o} d = let i : Done R r ts o = done each d in omega (arith, ap length i.split, length-append i.used (rest o))

-- a rule that derives no empty text uses up a token
some_used : {K N T : Type 0} (R : Reader K N T) (r : Rule K N) (u us : List T) → Starts R r u → nullable R r ≡ false → length us < length (u ++ us)
some_used R r [] us h n = absurd (let e : true ≡ false = sym h ∙ n in cc)
some_used R r (t ∷ u) us h n = omega (arith, length-append u us)

pub consumes : {K N T : Type 0} {R : Reader K N T} → LooksAhead R → {r : Rule K N} {ts us : List T} {a : Tree T} → Parses R r ts (ok a us) → nullable R r ≡ false → length us < length ts
consumes {R = R} each {r} {ts} {us} {a} d n = let i : Done R r ts (ok a us) = done each d in omega (arith, ap length i.split, some_used R r i.used us (starts each i.means) n)

-- ---- the next token

or_false : (b : Bool) → b || false ≡ b
or_false true = refl
or_false false = refl

-- a sequence begins as its first part, which derives no empty text
pub begins_seq : {K N T : Type 0} (R : Reader K N T) (r s : Rule K N) (ts : List T) → nullable R r ≡ false → begins R (seq r s) ts ≡ begins R r ts
begins_seq R r s [] n = refl
begins_seq R r s (t ∷ ts) n = rw n (or_false (firsts R r (R.grammar.kind t)))

-- ---- one token

pub some_one : {K N T : Type 0} (R : Reader K N T) (j : K) (ks : List K) (ts : List T) → begins R (one j ks) ts ≡ true → 0 < length ts
some_one R j ks [] h = absurd cc
some_one R j ks (t ∷ ts) h = omega arith

pub takes_one : {K N T : Type 0} (R : Reader K N T) (j : K) (ks : List K) (ts : List T) (t : T) (w : List T) → ts ≡ t ∷ w → begins R (one j ks) ts ≡ true → Parses R (one j ks) ts (ok (leaf t) w)
takes_one R j ks ts t w e h = subst (λ v. Parses R (one j ks) v (ok (leaf t) w)) (sym e) (one-ok (ap (begins R (one j ks)) (sym e) ∙ h))

pub misses_one : {K N T : Type 0} (R : Reader K N T) (j : K) (ks : List K) (ts : List T) → begins R (one j ks) ts ≡ false → Parses R (one j ks) ts (fail ts)
misses_one R j ks [] h = one-end
misses_one R j ks (t ∷ ts) h = one-bad h

-- ---- a loop over the parts of `many`: `now` is where it is, and value what it has made of the parts so far, from the first value

pub record Going {K N T A : Type 0} (R : Reader K N T) (r : Rule K N) (fold : Tree T → A → A) (start now : List T) (first value : A) : Type 0 where
  pub whole : (b : Tree T) (vs : List T) → Parses R (many r) now (ok b vs) → (c : Tree T) × Parses R (many r) start (ok c vs) × (fold c first ≡ fold b value)
  pub stops : (vs : List T) → Parses R (many r) now (fail vs) → Parses R (many r) start (fail vs)

pub going_begin : {K N T A : Type 0} (R : Reader K N T) (r : Rule K N) (fold : Tree T → A → A) (ts : List T) (a : A) → Going R r fold ts ts a a
going_begin R r fold ts a = record { whole = λ b vs d. (b, d, refl); stops = λ vs d. d }

pub going_on : {K N T A : Type 0} {R : Reader K N T} {r : Rule K N} {fold : Tree T → A → A} {start now mid : List T} {first value next : A} (x : Tree T)
    → Going R r fold start now first value → begins R r now ≡ true → Parses R r now (ok x mid)
    → ((b : Tree T) → fold (pair x b) value ≡ fold b next) → Going R r fold start mid first next
going_on x g h p q = record {
  whole = λ b vs d. let w : _ = g.whole (pair x b) vs (many-ok h p d) in (w.0, w.1, w.2 ∙ q b);
  stops = λ vs d. g.stops vs (many-stops h p d);
}

pub going_end : {K N T A : Type 0} {R : Reader K N T} {r : Rule K N} {fold : Tree T → A → A} {start now : List T} {first value : A}
    → Going R r fold start now first value → begins R r now ≡ false → (c : Tree T) × Parses R (many r) start (ok c now) × (fold c first ≡ fold none value)
going_end {now = now} g h = g.whole none now (many-end h)

pub going_fail : {K N T A : Type 0} {R : Reader K N T} {r : Rule K N} {fold : Tree T → A → A} {start now vs : List T} {first value : A}
    → Going R r fold start now first value → begins R r now ≡ true → Parses R r now (fail vs) → Parses R (many r) start (fail vs)
going_fail {vs = vs} g h d = g.stops vs (many-bad h d)
