-- The reader answers at every list of tokens.
use Rattle.std.proofs.Common.{◌≡◌, ℕ, zero, suc, ◌<◌, ◌≤◌, ◌⊎◌, inl, inr, Bool, true, false, not, ◌||◌, ◌&&◌, List, [], ◌∷◌, length, refl, arith}
use Rattle.std.proofs.lemmas.Bool.{not-true, ltb-true}
use Rattle.dc_grammar.specs.Grammar.{Rule, one, nil, ref, seq, alt, many, Tree, leaf, none, pair, left, right, has}
use Rattle.dc_grammar.specs.Reading.{Reader, nullable, begins, Out, ok, fail, Parses, one-ok, one-bad, one-end, nil-ok, name-of, seq-ok, seq-bad, seq-stops, left-ok, left-bad, right-ok, right-bad, many-end, many-ok, many-bad, many-stops}
use Rattle.dc_grammar.specs.Lookahead.{then_, ll1, below, LooksAhead}
use Rattle.dc_grammar.proofs.Alone.{no_longer, consumes}
use Rattle.dc_tokens.proofs.Front.{and_left, and_right}

-- ---- rules whose loops take a token each time

abbrev pub Moves : {K N T : Type 0} → Reader K N T → Rule K N → Type 0
Moves R (one j ks) = Unit {0}
Moves R nil = Unit {0}
Moves R (ref x) = Unit {0}
Moves R (seq r s) = Moves R r × Moves R s
Moves R (alt r s) = Moves R r × Moves R s
Moves R (many r) = (nullable R r ≡ false) × Moves R r

pub moves : {K N T : Type 0} (R : Reader K N T) (ks : List K) (r : Rule K N) (f : K → Bool) → ll1 R ks r f ≡ true → Moves R r
unfolding ll1
moves R ks (one j js) f l = tt
moves R ks nil f l = tt
moves R ks (ref x) f l = tt
moves R ks (seq r s) f l = (moves R ks r (then_ R s f) (and_left _ _ l), moves R ks s f (and_right (ll1 R ks r (then_ R s f)) _ l))
moves R ks (alt r s) f l =
    let l2 : ll1 R ks r f && ll1 R ks s f ≡ true = and_right _ _ (and_right (not (nullable R r)) _ l) in
    (moves R ks r f (and_left _ _ l2), moves R ks s f (and_right (ll1 R ks r f) _ l2))
moves R ks (many r) f l =
    (not-true (nullable R r) (and_left _ _ l), moves R ks r _ (and_right _ _ (and_right (not (nullable R r)) _ l)))

-- ---- the names that a rule may take before it has taken a token are all so

abbrev pub Lefts : {K N T : Type 0} → Reader K N T → (N → Type 0) → Rule K N → Type 0
Lefts R Ok (one j ks) = Unit {0}
Lefts R Ok nil = Unit {0}
Lefts R Ok (ref x) = Ok x
Lefts R Ok (seq r s) = Lefts R Ok r × (nullable R r ≡ true → Lefts R Ok s)
Lefts R Ok (alt r s) = Lefts R Ok r × Lefts R Ok s
Lefts R Ok (many r) = Lefts R Ok r

or_second : (a b : Bool) → not a || b ≡ true → a ≡ true → b ≡ true
or_second true b h e = h
or_second false b h e = absurd cc

lefts_below : {K N T : Type 0} (R : Reader K N T) (rank : N → ℕ) (k : ℕ) (r : Rule K N) → below R rank k r ≡ true → Lefts R (λ x. rank x < k) r
unfolding below
lefts_below R rank k (one j ks) h = tt
lefts_below R rank k nil h = tt
lefts_below R rank k (ref x) h = ltb-true (rank x) k h
lefts_below R rank k (seq r s) h =
    (lefts_below R rank k r (and_left _ _ h), λ e. lefts_below R rank k s (or_second (nullable R r) (below R rank k s) (and_right (below R rank k r) _ h) e))
lefts_below R rank k (alt r s) h = (lefts_below R rank k r (and_left _ _ h), lefts_below R rank k s (and_right (below R rank k r) _ h))
lefts_below R rank k (many r) h = lefts_below R rank k r h

lefts_all : {K N T : Type 0} (R : Reader K N T) (Ok : N → Type 0) → ((x : N) → Ok x) → (r : Rule K N) → Lefts R Ok r
lefts_all R Ok all (one j ks) = tt
lefts_all R Ok all nil = tt
lefts_all R Ok all (ref x) = all x
lefts_all R Ok all (seq r s) = (lefts_all R Ok all r, λ e. lefts_all R Ok all s)
lefts_all R Ok all (alt r s) = (lefts_all R Ok all r, lefts_all R Ok all s)
lefts_all R Ok all (many r) = lefts_all R Ok all r

-- ---- one answer after another

pub record Answer {K N T : Type 0} (R : Reader K N T) (r : Rule K N) (ts : List T) : Type 0 where
  pub out : Out T
  pub parsed : Parses R r ts out

one_total : {K N T : Type 0} (R : Reader K N T) (j : K) (ks : List K) (ts : List T) → Answer R (one j ks) ts
one_total R j ks [] = record { out = fail []; parsed = one-end }
one_total R j ks (t ∷ ts) = go (has R.grammar.same (j ∷ ks) (R.grammar.kind t)) refl
  where
    go : (b : Bool) → has R.grammar.same (j ∷ ks) (R.grammar.kind t) ≡ b → Answer R (one j ks) (t ∷ ts)
    go true h = record { out = ok (leaf t) ts; parsed = one-ok h }
    go false h = record { out = fail (t ∷ ts); parsed = one-bad h }

seq_total : {K N T : Type 0} (R : Reader K N T) (r s : Rule K N) (ts : List T) → Answer R r ts
    → ((a : Tree T) (us : List T) → Parses R r ts (ok a us) → Answer R s us) → Answer R (seq r s) ts
seq_total {T = T} R r s ts p then = go p.out p.parsed
  where
    on : (a : Tree T) (us : List T) → Parses R r ts (ok a us) → (o : Out T) → Parses R s us o → Answer R (seq r s) ts
    on a us d (ok b vs) e = record { out = ok (pair a b) vs; parsed = seq-ok d e }
    on a us d (fail vs) e = record { out = fail vs; parsed = seq-stops d e }

    go : (o : Out T) → Parses R r ts o → Answer R (seq r s) ts
    go (ok a us) d = let q = then a us d in on a us d q.out q.parsed
    go (fail us) d = record { out = fail us; parsed = seq-bad d }

alt_total : {K N T : Type 0} (R : Reader K N T) (r s : Rule K N) (ts : List T) → Answer R r ts → Answer R s ts → Answer R (alt r s) ts
alt_total {T = T} R r s ts p q = go (begins R r ts) refl p.out p.parsed q.out q.parsed
  where
    go : (b : Bool) → begins R r ts ≡ b → (o : Out T) → Parses R r ts o → (n : Out T) → Parses R s ts n → Answer R (alt r s) ts
    go true h (ok a us) d n e = record { out = ok (left a) us; parsed = left-ok h d }
    go true h (fail us) d n e = record { out = fail us; parsed = left-bad h d }
    go false h o d (ok b us) e = record { out = ok (right b) us; parsed = right-ok h e }
    go false h o d (fail us) e = record { out = fail us; parsed = right-bad h e }

many_total : {K N T : Type 0} (R : Reader K N T) (r : Rule K N) (ts : List T) → Answer R r ts
    → ((a : Tree T) (us : List T) → Parses R r ts (ok a us) → Answer R (many r) us) → Answer R (many r) ts
many_total {T = T} R r ts p then = go (begins R r ts) refl p.out p.parsed
  where
    on : begins R r ts ≡ true → (a : Tree T) (us : List T) → Parses R r ts (ok a us) → (o : Out T) → Parses R (many r) us o → Answer R (many r) ts
    on h a us d (ok b vs) e = record { out = ok (pair a b) vs; parsed = many-ok h d e }
    on h a us d (fail vs) e = record { out = fail vs; parsed = many-stops h d e }

    go : (b : Bool) → begins R r ts ≡ b → (o : Out T) → Parses R r ts o → Answer R (many r) ts
    go false h o d = record { out = ok none ts; parsed = many-end h }
    go true h (ok a us) d = let q = then a us d in on h a us d q.out q.parsed
    go true h (fail us) d = record { out = fail us; parsed = many-bad h d }

-- ---- a rule answers at texts of at most n tokens, where its first names do, and all rules do at shorter texts

Shorter : {K N T : Type 0} → Reader K N T → ℕ → Type 0
Shorter {K} {N} {T} R n = (r : Rule K N) → Moves R r → (ts : List T) → length ts < n → Answer R r ts

Names : {K N T : Type 0} → Reader K N T → (N → Type 0) → ℕ → Type 0
Names {K} {N} {T} R Ok n = (x : N) → Ok x → (ts : List T) → length ts ≤ n → Answer R (ref x) ts

same_or_shorter : (a b : ℕ) (e : Bool) → (e ≡ false → a < b) → a ≤ b → (e ≡ true) ⊎ (a < b)
same_or_shorter a b true h l = inl refl
same_or_shorter a b false h l = inr (h refl)

rule_total : {K N T : Type 0} {R : Reader K N T} (each : LooksAhead R) (Ok : N → Type 0) (n : ℕ) → Names R Ok n → Shorter R n
    → (r : Rule K N) → Moves R r → Lefts R Ok r → (ts : List T) → length ts ≤ n → Answer R r ts
unfolding Shorter Names
rule_total {R = R} each Ok n names shorter (one j ks) m l ts b = one_total R j ks ts
rule_total each Ok n names shorter nil m l ts b = record { out = ok none ts; parsed = nil-ok }
rule_total each Ok n names shorter (ref x) m l ts b = names x l ts b
rule_total {R = R} each Ok n names shorter (seq r s) m l ts b =
    seq_total R r s ts (rule_total each Ok n names shorter r m.0 l.0 ts b)
    (λ a us d. elim (same_or_shorter (length us) (length ts) (nullable R r) (λ e. consumes each d e) (no_longer each d)) [
      | inl e ↦ rule_total each Ok n names shorter s m.1 (l.1 e) us (omega (arith, no_longer each d))
      | inr g ↦ shorter s m.1 us (omega arith)
    ])
rule_total {R = R} each Ok n names shorter (alt r s) m l ts b =
    alt_total R r s ts (rule_total each Ok n names shorter r m.0 l.0 ts b) (rule_total each Ok n names shorter s m.1 l.1 ts b)
rule_total {R = R} each Ok n names shorter (many r) m l ts b =
    many_total R r ts (rule_total each Ok n names shorter r m.1 l ts b)
    (λ a us d. let g = consumes each d m.0 in shorter (many r) m us (omega arith))

-- names by their ranks
names_total : {K N T : Type 0} {R : Reader K N T} (each : LooksAhead R) (n : ℕ) → Shorter R n → (k : ℕ) → Names R (λ x. each.rank x < k) n
unfolding Names
names_total each n shorter zero x h ts b = absurd (omega arith)
names_total {R = R} each n shorter (suc k) x h ts b =
    let p = rule_total each (λ y. each.rank y < each.rank x) n (λ y i us g. names_total each n shorter k y (omega arith) us g) shorter
    (R.grammar.rules x) (moves R each.kinds (R.grammar.rules x) _ (each.one_way x)) (lefts_below R each.rank (each.rank x) (R.grammar.rules x) (each.no_way_back x)) ts b in
    record { out = p.out; parsed = name-of p.parsed }

any_name : {K N T : Type 0} {R : Reader K N T} (each : LooksAhead R) (n : ℕ) → Shorter R n → Names R (λ x. Unit {0}) n
unfolding Names
any_name each n shorter x h ts b = names_total each n shorter (suc (each.rank x)) x (omega arith) ts b

shorter_total : {K N T : Type 0} {R : Reader K N T} (each : LooksAhead R) (n : ℕ) → Shorter R n
unfolding Shorter
shorter_total each zero r m ts b = absurd (omega arith)
shorter_total {R = R} each (suc n) r m ts b =
    rule_total each (λ x. Unit {0}) n (any_name each n (shorter_total each n)) (shorter_total each n) r m (lefts_all R (λ x. Unit {0}) (λ x. tt) r) ts (omega arith)

pub total : {K N T : Type 0} {R : Reader K N T} → LooksAhead R → (x : N) (ts : List T) → Answer R (ref x) ts
unfolding Shorter
total each x ts = shorter_total each (suc (length ts)) (ref x) tt ts (omega arith)
