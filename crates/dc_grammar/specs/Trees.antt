-- The trees of a text.
use Rattle.std.specs.Prelude.{◌≡◌, List}
use Rattle.dc_grammar.specs.Grammar.{Grammar, Tree, Derives, ref}

-- no name derives the tokens in two ways
abbrev pub HasOneTree : {K N T : Type 0} → Grammar K N T → List T → Type 0
HasOneTree {N = N} {T = T} G ts =
    (x : N) (a b : Tree T) → Derives G (ref x) ts a → Derives G (ref x) ts b → a ≡ b
