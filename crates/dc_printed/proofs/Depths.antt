-- How deep the tokens of a text nest, by their brackets.
use Rattle.std.proofs.Common.{◌≡◌, ℕ, zero, suc, ◌+◌, ◌-◌, ◌≤◌, List, [], ◌∷◌, length, take, refl, ap, arith}
use Rattle.std.specs.Prelude.{max, fold, if◌then◌else◌}
use Rattle.dc_tokens.specs.declared.token.TokenKind.{TokenKind}
use Rattle.dc_tokens.specs.declared.token.TokenKind.TheVariants as k
use Rattle.dc_tokens.specs.declared.token.Token.{Token}
use Rattle.dc_grammar.specs.Kinds.{is}
use Rattle.dc_grammar.specs.Grammar.{has}
use Rattle.dc_grammar.specs.Depth.{opening, closing, brackets_with}
use Rattle.dc_printed.specs.Brackets.{bracket_of, brackets_in}
use Rattle.dc_printed.proofs.Measures.{level, top, top-append, n-≤-top}

-- what a token does to the number of open brackets
with_kind : (n : ℕ) (j : TokenKind) → (if has is opening j then n + 1 else (if has is closing j then n - 1 else n)) ≡ level n (bracket_of j)
with_kind n k.Name = refl
with_kind n k.Number = refl
with_kind n k.Proc = refl
with_kind n k.Var = refl
with_kind n k.Skip = refl
with_kind n k.Tick = refl
with_kind n k.Any = refl
with_kind n k.Assume = refl
with_kind n k.If = refl
with_kind n k.Else = refl
with_kind n k.While = refl
with_kind n k.True = refl
with_kind n k.False = refl
with_kind n k.LParen = refl
with_kind n k.RParen = refl
with_kind n k.LBrace = refl
with_kind n k.RBrace = refl
with_kind n k.LBracket = refl
with_kind n k.RBracket = refl
with_kind n k.Comma = refl
with_kind n k.Semi = refl
with_kind n k.Assign = refl
with_kind n k.Eq = refl
with_kind n k.Ne = refl
with_kind n k.Lt = refl
with_kind n k.Le = refl
with_kind n k.Gt = refl
with_kind n k.Ge = refl
with_kind n k.Plus = refl
with_kind n k.Minus = refl
with_kind n k.Star = refl
with_kind n k.Bang = refl
with_kind n k.And = refl
with_kind n k.Or = refl

-- and to the most that were open
top_kind : (n : ℕ) (j : TokenKind) → top n (bracket_of j) ≡ max n (level n (bracket_of j))
top_kind n k.Name = omega arith
top_kind n k.Number = omega arith
top_kind n k.Proc = omega arith
top_kind n k.Var = omega arith
top_kind n k.Skip = omega arith
top_kind n k.Tick = omega arith
top_kind n k.Any = omega arith
top_kind n k.Assume = omega arith
top_kind n k.If = omega arith
top_kind n k.Else = omega arith
top_kind n k.While = omega arith
top_kind n k.True = omega arith
top_kind n k.False = omega arith
top_kind n k.LParen = refl
top_kind n k.RParen = refl
top_kind n k.LBrace = refl
top_kind n k.RBrace = refl
top_kind n k.LBracket = refl
top_kind n k.RBracket = refl
top_kind n k.Comma = omega arith
top_kind n k.Semi = omega arith
top_kind n k.Assign = omega arith
top_kind n k.Eq = omega arith
top_kind n k.Ne = omega arith
top_kind n k.Lt = omega arith
top_kind n k.Le = omega arith
top_kind n k.Gt = omega arith
top_kind n k.Ge = omega arith
top_kind n k.Plus = omega arith
top_kind n k.Minus = omega arith
top_kind n k.Star = omega arith
top_kind n k.Bang = omega arith
top_kind n k.And = omega arith
top_kind n k.Or = omega arith

step_level : (n : ℕ) (t : Token) → brackets_with n t ≡ level n (bracket_of t.kind)
step_level n t = with_kind n t.kind

-- the open brackets of a front are at most the most that are open
pub front_below : (n : ℕ) (ts : List Token) (j : ℕ) → fold brackets_with n (take j ts) ≤ top n (brackets_in ts)
front_below n ts zero = n-≤-top n (brackets_in ts)
front_below n [] (suc j) = omega arith
front_below n (t ∷ ts) (suc j) =
    let h = front_below (brackets_with n t) ts j in
    let e : top (brackets_with n t) (brackets_in ts) ≡ top (level n (bracket_of t.kind)) (brackets_in ts) = ap (λ m. top m (brackets_in ts)) (step_level n t) in
    let g = top-append n (bracket_of t.kind) (brackets_in ts) in
    omega arith

-- and where each front has at most so many, so has the whole
pub top_reached : (n limit : ℕ) (ts : List Token) → ((j : ℕ) → j ≤ length ts → fold brackets_with n (take j ts) ≤ limit) → top n (brackets_in ts) ≤ limit
top_reached n limit [] h = h 0 (omega arith)
top_reached n limit (t ∷ ts) h =
    let a = h 0 (omega arith) in
    let b : fold brackets_with (brackets_with n t) (take 0 ts) ≤ limit = h 1 (omega arith) in
    let c = top_reached (brackets_with n t) limit ts (λ j l. h (suc j) (omega arith)) in
    let e : top (brackets_with n t) (brackets_in ts) ≡ top (level n (bracket_of t.kind)) (brackets_in ts) = ap (λ m. top m (brackets_in ts)) (step_level n t) in
    let s = step_level n t in
    let f = top_kind n t.kind in
    let g = top-append n (bracket_of t.kind) (brackets_in ts) in
    omega arith
