-- Where expressions and conditions stand in a text.
use Rattle.std.specs.Prelude.{◌≡◌, ℕ, ◌+◌, ◌<◌, ◌⊎◌, Bool, true, false, if◌then◌else◌, List, [], ◌∷◌, ◌++◌, length}
use Rattle.dc_tokens.specs.declared.token.TokenKind.{TokenKind}
use Rattle.dc_tokens.specs.declared.token.Token.{Token}
use Rattle.dc_grammar.specs.Grammar.{Rule, ref, seq, alt, many, Tree, Derives, Viable, has}
use Rattle.dc_grammar.specs.Kinds.{is}
use Rattle.dc_grammar.specs.Language.{Name, source, names, stmt, assigned, choice, block, expr, term, unary, cond, conj, fact, rules, language}
use Rattle.dc_grammar.specs.Depth.{operators, operators_so_far, IsDeep}
use Rattle.dc_grammar.specs.Nesting.{Nests}

-- an expression, a condition, and what a branch or loop goes by
abbrev pub is_whole : Name → Bool
is_whole expr = true
is_whole cond = true
is_whole choice = true
is_whole source = false
is_whole names = false
is_whole stmt = false
is_whole assigned = false
is_whole block = false
is_whole term = false
is_whole unary = false
is_whole conj = false
is_whole fact = false

-- a layer of these
abbrev pub is_layer : Name → Bool
is_layer term = true
is_layer unary = true
is_layer conj = true
is_layer fact = true
is_layer source = false
is_layer names = false
is_layer stmt = false
is_layer assigned = false
is_layer choice = false
is_layer block = false
is_layer expr = false
is_layer cond = false

-- in a text of the rule, between the tokens before and those behind, stands a whole expression,
-- condition or choice, which is part of no other one
pub data Holds : Rule TokenKind Name → List Token → List Token → List Token → Type 0 where
  here : {x : Name} {e : List Token} {a : Tree Token}
      → is_whole x ≡ true → Derives language (ref x) e a → Holds (ref x) [] e []
  within : {x : Name} {b e c : List Token} → is_whole x ≡ false → Holds (rules x) b e c
      → Holds (ref x) b e c
  in_first : {r q : Rule TokenKind Name} {b e c v : List Token} {a : Tree Token}
      → Holds r b e c → Derives language q v a → Holds (seq r q) b e (c ++ v)
  in_second : {r q : Rule TokenKind Name} {u b e c : List Token} {a : Tree Token}
      → Derives language r u a → Holds q b e c → Holds (seq r q) (u ++ b) e c
  of_first : {r q : Rule TokenKind Name} {b e c : List Token} → Holds r b e c → Holds (alt r q) b e c
  of_second : {r q : Rule TokenKind Name} {b e c : List Token} → Holds q b e c → Holds (alt r q) b e c
  in_one : {r : Rule TokenKind Name} {b e c v : List Token} {a : Tree Token}
      → Holds r b e c → Derives language (many r) v a → Holds (many r) b e (c ++ v)
  in_more : {r : Rule TokenKind Name} {u b e c : List Token} {a : Tree Token}
      → Derives language r u a → Holds (many r) b e c → Holds (many r) (u ++ b) e c

abbrev pub operators_in : List Token → ℕ
operators_in [] = 0
operators_in (t ∷ ts) = (if has is operators t.kind then 1 else 0) + operators_in ts

-- the token stands in a whole expression, condition or choice of a text of the rule, which begins
-- before the tokens of `front`
pub record Stands (r : Rule TokenKind Name) (u : List Token) (t : Token)
    (more : List Token) : Type 0 where
  pub before : List Token
  pub front : List Token
  pub rest : List Token
  pub behind : List Token
  pub start : u ≡ before ++ front
  pub end : more ≡ rest ++ behind
  pub holds : Holds r before (front ++ t ∷ rest) behind

-- with this token more than 64 brackets are open
pub record HasManyOpen (ts : List Token) : Type 0 where
  pub open_ones : List TokenKind
  pub nests : Nests [] ts open_ones
  pub many : 64 < length open_ones

-- the token is an operator, and with it more than 64 stand in its expression, condition or choice
-- so far
pub record HasManyOperators (x : Name) (u : List Token) (t : Token) : Type 0 where
  pub more : List Token
  pub operates : has is operators t.kind ≡ true
  pub stands : Stands (ref x) u t more
  pub many : 64 < operators_in (stands.front ++ t ∷ [])

pub record CountsOperators : Type 0 where
  -- as far as a text has come in a whole expression, condition or choice, the scan counts the
  -- operators since its start
  pub inside : (x : Name) (before v w behind : List Token) → is_layer x ≡ false
      → Holds (ref x) before (v ++ w) behind → operators_so_far (before ++ v) ≡ operators_in v
  -- each operator of a text stands in one
  pub each : (x : Name) (u more : List Token) (t : Token) (a : Tree Token) → is_layer x ≡ false
      → has is operators t.kind ≡ true → Derives language (ref x) (u ++ t ∷ more) a
      → Stands (ref x) u t more
  -- what begins a text is too deep first with a token that opens one bracket too many, or is one
  -- operator too many
  pub first : (x : Name) (u : List Token) (t : Token) → is_layer x ≡ false
      → Viable language x (u ++ t ∷ [])
      → (IsDeep u → ⊥) → IsDeep (u ++ t ∷ []) → HasManyOpen (u ++ t ∷ []) ⊎ HasManyOperators x u t
  -- and with each such token it is too deep
  pub deep : (x : Name) (u : List Token) (t : Token) → is_layer x ≡ false
      → HasManyOpen (u ++ t ∷ []) ⊎ HasManyOperators x u t → IsDeep (u ++ t ∷ [])
