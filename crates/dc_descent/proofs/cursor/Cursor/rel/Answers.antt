use Rattle.std.proofs.Common.{sym, ◌∙◌, [], ◌∷◌}
use Rattle.dc_tokens.specs.declared.token.TokenKind.TheVariants as k
use Rattle.dc_grammar.specs.Readers.{language_reader}
use Rattle.dc_grammar.proofs.Alone.{some_one, takes_one, misses_one}
use Rattle.dc_descent.specs.Reads.{syntax}
use Rattle.dc_descent.proofs.cursor.Cursor.rel.Goals as goal

pub take-requires : goal.take-requires
take-requires c = some_one language_reader k.Lt (k.Le ∷ k.Gt ∷ k.Ge ∷ k.Eq ∷ k.Ne ∷ []) c.args.self.now.rest.now (sym c.sees_rel.ensures ∙ c.if-sees_rel.true)

pub returns-then-sees_rel : goal.returns-then-sees_rel
returns-then-sees_rel c = takes_one language_reader k.Lt (k.Le ∷ k.Gt ∷ k.Ge ∷ k.Eq ∷ k.Ne ∷ []) c.args.self.now.rest.now c.take.result _ c.take.ensures (sym c.sees_rel.ensures ∙ c.if-sees_rel.true)

pub returns-else-sees_rel : goal.returns-else-sees_rel
returns-else-sees_rel c = syntax (misses_one language_reader k.Lt (k.Le ∷ k.Gt ∷ k.Ge ∷ k.Eq ∷ k.Ne ∷ []) c.args.self.now.rest.now (sym c.sees_rel.ensures ∙ c.if-sees_rel.false))
