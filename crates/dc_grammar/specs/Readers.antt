-- What the reader of the language knows of each name.
use Rattle.std.specs.Prelude.{false, List, [], ◌∷◌}
use Rattle.dc_tokens.specs.declared.token.TokenKind.{TokenKind}
use Rattle.dc_tokens.specs.declared.token.TokenKind.TheVariants as k
use Rattle.dc_tokens.specs.declared.token.Token.{Token}
use Rattle.dc_grammar.specs.Reading.{Reader}
use Rattle.dc_grammar.specs.Language as lang

abbrev pub begins_expr : List TokenKind
begins_expr = k.Minus ∷ k.Number ∷ k.Name ∷ k.LParen ∷ []

abbrev pub begins_cond : List TokenKind
begins_cond = k.Bang ∷ k.True ∷ k.False ∷ k.LBracket ∷ begins_expr

abbrev pub begins_stmt : List TokenKind
begins_stmt = k.Skip ∷ k.Tick ∷ k.Assume ∷ k.Name ∷ k.If ∷ k.While ∷ []

abbrev pub begins_of : lang.Name → List TokenKind
begins_of lang.source = k.Proc ∷ []
begins_of lang.names = k.Name ∷ []
begins_of lang.stmt = begins_stmt
begins_of lang.assigned = k.Any ∷ begins_expr
begins_of lang.choice = k.Star ∷ begins_cond
begins_of lang.block = k.LBrace ∷ []
begins_of lang.expr = begins_expr
begins_of lang.term = begins_expr
begins_of lang.unary = begins_expr
begins_of lang.cond = begins_cond
begins_of lang.conj = begins_cond
begins_of lang.fact = begins_cond

abbrev pub after_stmt : List TokenKind
after_stmt = k.RBrace ∷ begins_stmt

abbrev pub after_fact : List TokenKind
after_fact = k.RParen ∷ k.RBracket ∷ k.Or ∷ k.And ∷ []

abbrev pub after_expr : List TokenKind
after_expr = k.Semi ∷ k.Comma ∷ k.Lt ∷ k.Le ∷ k.Gt ∷ k.Ge ∷ k.Eq ∷ k.Ne ∷ after_fact

abbrev pub follow_of : lang.Name → List TokenKind
follow_of lang.source = []
follow_of lang.names = k.RParen ∷ k.Semi ∷ []
follow_of lang.stmt = after_stmt
follow_of lang.assigned = k.Semi ∷ []
follow_of lang.choice = k.RParen ∷ []
follow_of lang.block = k.Else ∷ after_stmt
follow_of lang.expr = after_expr
follow_of lang.term = k.Plus ∷ k.Minus ∷ after_expr
follow_of lang.unary = k.Star ∷ k.Plus ∷ k.Minus ∷ after_expr
follow_of lang.cond = k.RParen ∷ k.RBracket ∷ []
follow_of lang.conj = k.RParen ∷ k.RBracket ∷ k.Or ∷ []
follow_of lang.fact = after_fact

abbrev pub language_reader : Reader TokenKind lang.Name Token
language_reader = record {
  grammar = lang.language;
  empty = λ x. false;
  begins = begins_of;
  follow = follow_of;
}
