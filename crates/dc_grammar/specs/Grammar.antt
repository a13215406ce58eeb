-- Grammars as data, and what they derive: over any kinds K of tokens, names N of rules, and tokens T.
use Rattle.std.specs.Prelude.{◌≡◌, Bool, true, false, ◌||◌, List, [], ◌∷◌, ◌++◌}

pub data Rule (K N : Type 0) : Type 0 where
  -- a token of one of these kinds
  one : K → List K → Rule K N
  -- nothing
  nil : Rule K N
  -- what the rule of a name derives
  ref : N → Rule K N
  -- the first, then the second
  seq : Rule K N → Rule K N → Rule K N
  -- the first or the second
  alt : Rule K N → Rule K N → Rule K N
  -- any number of these
  many : Rule K N → Rule K N

abbrev pub tok : {K N : Type 0} → K → Rule K N
tok k = one k []

infixr 8 ◌▸◌
abbrev pub ◌▸◌ : {K N : Type 0} → Rule K N → Rule K N → Rule K N
r ▸ s = seq r s

infixr 7 ◌or◌
abbrev pub ◌or◌ : {K N : Type 0} → Rule K N → Rule K N → Rule K N
r or s = alt r s

abbrev pub opt : {K N : Type 0} → Rule K N → Rule K N
opt r = r or nil

pub record Grammar (K N T : Type 0) : Type 0 where
  -- the kind of a token
  pub kind : T → K
  -- whether two kinds are the same
  pub same : K → K → Bool
  pub rules : N → Rule K N

-- the kind is one of these
abbrev pub has : {K : Type 0} → (K → K → Bool) → List K → K → Bool
has same [] k = false
has same (j ∷ ks) k = same j k || has same ks k

-- how a text was derived
pub data Tree (T : Type 0) : Type 0 where
  leaf : T → Tree T
  none : Tree T
  pair : Tree T → Tree T → Tree T
  left : Tree T → Tree T
  right : Tree T → Tree T

-- the rule derives the tokens, in this way
pub data Derives {K N T : Type 0} (G : Grammar K N T) : Rule K N → List T → Tree T → Type 0 where
  token : {j : K} {ks : List K} {t : T} → has G.same (j ∷ ks) (G.kind t) ≡ true
      → Derives G (one j ks) (t ∷ []) (leaf t)
  nothing : Derives G nil [] none
  name : {x : N} {u : List T} {a : Tree T} → Derives G (G.rules x) u a → Derives G (ref x) u a
  both : {r s : Rule K N} {u v : List T} {a b : Tree T} → Derives G r u a → Derives G s v b
      → Derives G (seq r s) (u ++ v) (pair a b)
  first : {r s : Rule K N} {u : List T} {a : Tree T} → Derives G r u a → Derives G (alt r s) u (left a)
  second : {r s : Rule K N} {u : List T} {a : Tree T} → Derives G s u a
      → Derives G (alt r s) u (right a)
  no_more : {r : Rule K N} → Derives G (many r) [] none
  one_more : {r : Rule K N} {u v : List T} {a b : Tree T} → Derives G r u a → Derives G (many r) v b
      → Derives G (many r) (u ++ v) (pair a b)

-- some text of the name begins with these tokens
abbrev pub Viable : {K N T : Type 0} → Grammar K N T → N → List T → Type 0
Viable {T = T} G x u = (more : List T) × (a : Tree T) × Derives G (ref x) (u ++ more) a
