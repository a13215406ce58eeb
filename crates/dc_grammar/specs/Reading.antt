-- A reader that looks one token ahead, as a relation.
use Rattle.std.specs.Prelude.{◌≡◌, Bool, true, false, ◌||◌, ◌&&◌, List, [], ◌∷◌}
use Rattle.dc_grammar.specs.Grammar.{Grammar, Rule, one, nil, ref, seq, alt, many, Tree, leaf, none, pair, left, right, has}

-- a grammar with what its reader knows of each name
pub record Reader (K N T : Type 0) : Type 0 where
  pub grammar : Grammar K N T
  -- the names that derive the empty text
  pub empty : N → Bool
  -- the kinds with which the texts of a name begin
  pub begins : N → List K
  -- the kinds that may stand after a name
  pub follow : N → List K

abbrev pub nullable : {K N T : Type 0} → Reader K N T → Rule K N → Bool
nullable R (one j ks) = false
nullable R nil = true
nullable R (ref x) = R.empty x
nullable R (seq r s) = nullable R r && nullable R s
nullable R (alt r s) = nullable R r || nullable R s
nullable R (many r) = true

-- a text of the rule may begin with this kind
abbrev pub firsts : {K N T : Type 0} → Reader K N T → Rule K N → K → Bool
firsts R (one j ks) k = has R.grammar.same (j ∷ ks) k
firsts R nil k = false
firsts R (ref x) k = has R.grammar.same (R.begins x) k
firsts R (seq r s) k = firsts R r k || (nullable R r && firsts R s k)
firsts R (alt r s) k = firsts R r k || firsts R s k
firsts R (many r) k = firsts R r k

-- the next token begins the rule
abbrev pub begins : {K N T : Type 0} → Reader K N T → Rule K N → List T → Bool
begins R r [] = false
begins R r (t ∷ ts) = firsts R r (R.grammar.kind t)

-- what a reader answers, with the tokens that it left
pub data Out (T : Type 0) : Type 0 where
  ok : Tree T → List T → Out T
  fail : List T → Out T

abbrev pub rest : {T : Type 0} → Out T → List T
rest (ok a ts) = ts
rest (fail ts) = ts

-- the same answer, with other tokens left
abbrev pub at : {T : Type 0} → Out T → List T → Out T
at (ok a ts) us = ok a us
at (fail ts) us = fail us

pub data Parses {K N T : Type 0} (R : Reader K N T) : Rule K N → List T → Out T → Type 0 where
  one-ok : {j : K} {ks : List K} {t : T} {ts : List T}
      → has R.grammar.same (j ∷ ks) (R.grammar.kind t) ≡ true
      → Parses R (one j ks) (t ∷ ts) (ok (leaf t) ts)
  one-bad : {j : K} {ks : List K} {t : T} {ts : List T}
      → has R.grammar.same (j ∷ ks) (R.grammar.kind t) ≡ false
      → Parses R (one j ks) (t ∷ ts) (fail (t ∷ ts))
  one-end : {j : K} {ks : List K} → Parses R (one j ks) [] (fail [])
  nil-ok : {ts : List T} → Parses R nil ts (ok none ts)
  name-of : {x : N} {ts : List T} {o : Out T} → Parses R (R.grammar.rules x) ts o
      → Parses R (ref x) ts o
  seq-ok : {r s : Rule K N} {ts us vs : List T} {a b : Tree T} → Parses R r ts (ok a us)
      → Parses R s us (ok b vs) → Parses R (seq r s) ts (ok (pair a b) vs)
  seq-bad : {r s : Rule K N} {ts us : List T} → Parses R r ts (fail us)
      → Parses R (seq r s) ts (fail us)
  seq-stops : {r s : Rule K N} {ts us vs : List T} {a : Tree T} → Parses R r ts (ok a us)
      → Parses R s us (fail vs) → Parses R (seq r s) ts (fail vs)
  left-ok : {r s : Rule K N} {ts us : List T} {a : Tree T} → begins R r ts ≡ true
      → Parses R r ts (ok a us) → Parses R (alt r s) ts (ok (left a) us)
  left-bad : {r s : Rule K N} {ts us : List T} → begins R r ts ≡ true → Parses R r ts (fail us)
      → Parses R (alt r s) ts (fail us)
  right-ok : {r s : Rule K N} {ts us : List T} {a : Tree T} → begins R r ts ≡ false
      → Parses R s ts (ok a us) → Parses R (alt r s) ts (ok (right a) us)
  right-bad : {r s : Rule K N} {ts us : List T} → begins R r ts ≡ false → Parses R s ts (fail us)
      → Parses R (alt r s) ts (fail us)
  many-end : {r : Rule K N} {ts : List T} → begins R r ts ≡ false → Parses R (many r) ts (ok none ts)
  many-ok : {r : Rule K N} {ts us vs : List T} {a b : Tree T} → begins R r ts ≡ true
      → Parses R r ts (ok a us) → Parses R (many r) us (ok b vs)
      → Parses R (many r) ts (ok (pair a b) vs)
  many-bad : {r : Rule K N} {ts us : List T} → begins R r ts ≡ true → Parses R r ts (fail us)
      → Parses R (many r) ts (fail us)
  many-stops : {r : Rule K N} {ts us vs : List T} {a : Tree T} → begins R r ts ≡ true
      → Parses R r ts (ok a us) → Parses R (many r) us (fail vs) → Parses R (many r) ts (fail vs)
