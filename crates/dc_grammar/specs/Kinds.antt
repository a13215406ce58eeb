-- The kinds of tokens, numbered.
use Rattle.std.specs.Prelude.{ℕ, Bool, nat_eq, List, [], ◌∷◌}
use Rattle.dc_tokens.specs.declared.token.TokenKind.{TokenKind}
use Rattle.dc_tokens.specs.declared.token.TokenKind.TheVariants as k

abbrev pub number : TokenKind → ℕ
number k.Name = 0
number k.Number = 1
number k.Proc = 2
number k.Var = 3
number k.Skip = 4
number k.Tick = 5
number k.Any = 6
number k.Assume = 7
number k.If = 8
number k.Else = 9
number k.While = 10
number k.True = 11
number k.False = 12
number k.LParen = 13
number k.RParen = 14
number k.LBrace = 15
number k.RBrace = 16
number k.LBracket = 17
number k.RBracket = 18
number k.Comma = 19
number k.Semi = 20
number k.Assign = 21
number k.Eq = 22
number k.Ne = 23
number k.Lt = 24
number k.Le = 25
number k.Gt = 26
number k.Ge = 27
number k.Plus = 28
number k.Minus = 29
number k.Star = 30
number k.Bang = 31
number k.And = 32
number k.Or = 33

-- whether two kinds are the same
abbrev pub is : TokenKind → TokenKind → Bool
is i j = nat_eq (number i) (number j)

-- all kinds, in the order of their numbers
abbrev pub kinds : List TokenKind
kinds =
    k.Name ∷ k.Number ∷ k.Proc ∷ k.Var ∷ k.Skip ∷ k.Tick ∷ k.Any ∷ k.Assume ∷ k.If ∷ k.Else
    ∷ k.While ∷ k.True ∷ k.False
    ∷ k.LParen ∷ k.RParen ∷ k.LBrace ∷ k.RBrace ∷ k.LBracket ∷ k.RBracket ∷ k.Comma ∷ k.Semi
    ∷ k.Assign ∷ k.Eq ∷ k.Ne ∷ k.Lt ∷ k.Le ∷ k.Gt ∷ k.Ge
    ∷ k.Plus ∷ k.Minus ∷ k.Star ∷ k.Bang ∷ k.And ∷ k.Or ∷ []
