-- What stands first in the tokens of a text: its tree, or what is wrong.
use Rattle.std.specs.Prelude.{◌≡◌, ℕ, suc, ◌<◌, ◌≤◌, List, length, take}
use Rattle.dc_grammar.specs.Grammar.{Grammar, ref, Tree, Derives, Viable}

pub data Verdict (T : Type 0) : Type 0 where
  -- the tokens are a text with this tree
  whole : Tree T → Verdict T
  -- no text begins with the tokens up to the one with this number, counted from 0
  unexpected : ℕ → Verdict T
  -- the tokens end too soon
  unclosed : Verdict T
  -- with the token of this number they nest too deep
  too_deep : ℕ → Verdict T

-- no front of at most n tokens is too deep
abbrev pub Shallow : {T : Type 0} → (List T → Type 0) → List T → ℕ → Type 0
Shallow Deep ts n = (j : ℕ) → j ≤ n → Deep (take j ts) → ⊥

-- the token of this number is the first with which the tokens nest too deep
abbrev pub IsFirstDeep : {T : Type 0} → (List T → Type 0) → List T → ℕ → Type 0
IsFirstDeep Deep ts n = (n < length ts) × Deep (take (suc n) ts) × Shallow Deep ts n

-- what is first by index, in tokens that are to be a text of the name x; a token that no text goes
-- on with is unexpected, also where it nests too deep
abbrev pub Finds : {K N T : Type 0} → Grammar K N T → (List T → Type 0) → N → List T → Verdict T
    → Type 0
Finds G Deep x ts (whole a) = Derives G (ref x) ts a × Shallow Deep ts (length ts)
Finds G Deep x ts (unexpected n) =
    (n < length ts) × Viable G x (take n ts) × (Viable G x (take (suc n) ts) → ⊥)
    × Shallow Deep ts n
Finds {T = T} G Deep x ts unclosed =
    Viable G x ts × ((a : Tree T) → Derives G (ref x) ts a → ⊥) × Shallow Deep ts (length ts)
Finds G Deep x ts (too_deep n) =
    (n < length ts) × Viable G x (take (suc n) ts) × Deep (take (suc n) ts) × Shallow Deep ts n

-- for each name the tokens have a verdict, and one alone
pub record HasOneVerdict {K N T : Type 0} (G : Grammar K N T) (Deep : List T → Type 0)
    (ts : List T) : Type 0 where
  pub some : (x : N) → (v : Verdict T) × Finds G Deep x ts v
  pub one : (x : N) (v w : Verdict T) → Finds G Deep x ts v → Finds G Deep x ts w → v ≡ w
