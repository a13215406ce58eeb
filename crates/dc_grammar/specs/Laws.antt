-- What a reader that looks one token ahead does.
use Rattle.std.specs.Prelude.{◌≡◌, true, List, [], ◌∷◌, ◌++◌}
use Rattle.dc_grammar.specs.Grammar.{Rule, ref, Tree, Derives, Viable, has}
use Rattle.dc_grammar.specs.Reading.{Reader, Out, ok, fail, Parses}

-- what comes next may stand after the name, or nothing comes
abbrev pub MayFollow : {K N T : Type 0} → Reader K N T → N → List T → Type 0
MayFollow R x [] = Unit {0}
MayFollow R x (t ∷ ts) = has R.grammar.same (R.follow x) (R.grammar.kind t) ≡ true

pub record ReadsRight {K N T : Type 0} (R : Reader K N T) : Type 0 where
  -- it answers once
  pub some : (x : N) (ts : List T) → (o : Out T) × Parses R (ref x) ts o
  pub one : (r : Rule K N) (ts : List T) (o p : Out T) → Parses R r ts o → Parses R r ts p → o ≡ p
  -- what it has read is a text of the name
  pub sound : (x : N) (ts us : List T) (a : Tree T) → Parses R (ref x) ts (ok a us) → (u : List T)
      × (ts ≡ u ++ us) × Derives R.grammar (ref x) u a
  -- a text of the name is read whole, where what comes next may stand after it
  pub complete : (x : N) (u ts : List T) (a : Tree T) → Derives R.grammar (ref x) u a
      → MayFollow R x ts → Parses R (ref x) (u ++ ts) (ok a ts)
  -- it saw no more than the token at which it stopped: with other tokens after that one it answers
  -- the same
  pub local : (x : N) (ts w : List T) (a : Tree T) (t : T) → Parses R (ref x) ts (ok a (t ∷ w))
      → (u : List T) × (ts ≡ u ++ t ∷ w) × ((v : List T) → Parses R (ref x) (u ++ t ∷ v) (ok a (t ∷ v)))
  -- where it fails at a token, a text begins with those before it, and none with those up to it
  pub first_wrong : (x : N) (ts w : List T) (t : T) → Parses R (ref x) ts (fail (t ∷ w))
      → (u : List T) × (ts ≡ u ++ t ∷ w) × Viable R.grammar x u × (Viable R.grammar x (u ++ t ∷ []) → ⊥)
  -- where it fails at the end, the tokens begin a text and are none
  pub ends_soon : (x : N) (ts : List T) → Parses R (ref x) ts (fail []) → Viable R.grammar x ts
      × ((a : Tree T) → Derives R.grammar (ref x) ts a → ⊥)
