-- The grammar of the whole language.
use Rattle.std.specs.Prelude.{[], ◌∷◌}
use Rattle.dc_tokens.specs.declared.token.TokenKind.{TokenKind}
use Rattle.dc_tokens.specs.declared.token.TokenKind.TheVariants as k
use Rattle.dc_tokens.specs.declared.token.Token.{Token}
use Rattle.dc_grammar.specs.Kinds.{is}
use Rattle.dc_grammar.specs.Grammar.{Rule, one, ref, many, tok, ◌▸◌, ◌or◌, opt, Grammar}

-- the names that have a rule: a source, a list of names, a statement, what is assigned, the
-- condition or choice of a branch or loop, a block, and the layers of expressions and of conditions
pub data Name : Type 0 where
  source names stmt assigned choice block expr term unary cond conj fact : Name

abbrev pub rules : Name → Rule TokenKind Name
-- "proc" NAME "(" [ NAME { "," NAME } ] ")" "{" [ "var" NAME { "," NAME } ";" ] { stmt } "}"
rules source = tok k.Proc ▸ tok k.Name ▸ tok k.LParen ▸ opt (ref names) ▸ tok k.RParen ▸ tok k.LBrace
    ▸ opt (tok k.Var ▸ ref names ▸ tok k.Semi) ▸ many (ref stmt) ▸ tok k.RBrace
rules names = tok k.Name ▸ many (tok k.Comma ▸ tok k.Name)
-- "skip" ";" | "tick" expr ";" | "assume" "(" cond ")" ";" | NAME "=" assigned ";"
-- | "if" "(" choice ")" block [ "else" block ] | "while" "(" choice ")" block
rules stmt =
    tok k.Skip ▸ tok k.Semi
    or tok k.Tick ▸ ref expr ▸ tok k.Semi
    or tok k.Assume ▸ tok k.LParen ▸ ref cond ▸ tok k.RParen ▸ tok k.Semi
    or tok k.Name ▸ tok k.Assign ▸ ref assigned ▸ tok k.Semi
    or tok k.If ▸ tok k.LParen ▸ ref choice ▸ tok k.RParen ▸ ref block ▸ opt (tok k.Else ▸ ref block)
    or tok k.While ▸ tok k.LParen ▸ ref choice ▸ tok k.RParen ▸ ref block
-- expr | "any" [ "(" expr "," expr ")" ]
rules assigned =
    ref expr or tok k.Any ▸ opt (tok k.LParen ▸ ref expr ▸ tok k.Comma ▸ ref expr ▸ tok k.RParen)
-- "*" | cond
rules choice = tok k.Star or ref cond
-- "{" { stmt } "}"
rules block = tok k.LBrace ▸ many (ref stmt) ▸ tok k.RBrace
-- term { ( "+" | "-" ) term }
rules expr = ref term ▸ many (one k.Plus (k.Minus ∷ []) ▸ ref term)
-- unary { "*" unary }
rules term = ref unary ▸ many (tok k.Star ▸ ref unary)
-- "-" unary | NUMBER | NAME | "(" expr ")"
rules unary =
    tok k.Minus ▸ ref unary or tok k.Number or tok k.Name or tok k.LParen ▸ ref expr ▸ tok k.RParen
-- conj { "||" conj }
rules cond = ref conj ▸ many (tok k.Or ▸ ref conj)
-- fact { "&&" fact }
rules conj = ref fact ▸ many (tok k.And ▸ ref fact)
-- "!" fact | "true" | "false" | "[" cond "]" | expr REL expr
rules fact =
    tok k.Bang ▸ ref fact
    or tok k.True
    or tok k.False
    or tok k.LBracket ▸ ref cond ▸ tok k.RBracket
    or ref expr ▸ one k.Lt (k.Le ∷ k.Gt ∷ k.Ge ∷ k.Eq ∷ k.Ne ∷ []) ▸ ref expr

abbrev pub language : Grammar TokenKind Name Token
language = record { kind = λ t. t.kind; same = is; rules = rules }
