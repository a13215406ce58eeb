use Rattle.std.proofs.Common.{sym, ◌∙◌, [], ◌∷◌}
use Rattle.dc_tokens.specs.declared.token.TokenKind.TheVariants as k
use Rattle.dc_grammar.specs.Readers.{language_reader}
use Rattle.dc_grammar.proofs.Alone.{some_one, takes_one, misses_one}
use Rattle.dc_descent.specs.Reads.{syntax}
use Rattle.dc_descent.proofs.cursor.Cursor.sign.Goals as goal

pub take-requires : goal.take-requires
take-requires c = some_one language_reader k.Plus (k.Minus ∷ []) c.args.self.now.rest.now (sym c.sees_sign.ensures ∙ c.if-sees_sign.true)

pub returns-then-sees_sign : goal.returns-then-sees_sign
returns-then-sees_sign c = takes_one language_reader k.Plus (k.Minus ∷ []) c.args.self.now.rest.now c.take.result _ c.take.ensures (sym c.sees_sign.ensures ∙ c.if-sees_sign.true)

pub returns-else-sees_sign : goal.returns-else-sees_sign
returns-else-sees_sign c = syntax (misses_one language_reader k.Plus (k.Minus ∷ []) c.args.self.now.rest.now (sym c.sees_sign.ensures ∙ c.if-sees_sign.false))
