use Rattle.std.proofs.Common.{◌+◌, ◌*◌, ◌≤◌, length, [], ◌∷◌}
use Rattle.dc_tokens.specs.declared.token.TokenKind.TheVariants as k
use Rattle.dc_grammar.specs.Grammar.{ref, one, tok, seq}
use Rattle.dc_grammar.specs.Language.{term, unary}
use Rattle.dc_grammar.specs.Readers.{language_reader}
use Rattle.dc_grammar.proofs.Alone.{Going}
use Rattle.dc_descent.specs.Scopes.{places}
use Rattle.dc_descent.specs.Trees.{summands, factors}
use Rattle.dc_descent.proofs.expressions.+expr.Given as goal

abbrev pub decreases-expr : goal.decreases-expr
decreases-expr l = 3 * length l.cursor.now.rest.now + 2

abbrev pub decreases-term : goal.decreases-term
decreases-term l = 3 * length l.cursor.now.rest.now + 1

abbrev pub decreases-unary : goal.decreases-unary
decreases-unary l = 3 * length l.cursor.now.rest.now

abbrev pub invariant-expr-signs : goal.invariant-expr-signs
invariant-expr-signs l = record {
  within : length l.cursor.rest.now ≤ length l.fn.cursor.rest.now;
  going : Going language_reader (seq (one k.Plus (k.Minus ∷ [])) (ref term)) (summands (places l.scope)) l.initial.cursor.rest.now l.cursor.rest.now l.initial.whole l.whole;
}

abbrev pub decreases-expr-signs : goal.decreases-expr-signs
decreases-expr-signs l = length l.cursor.rest.now

abbrev pub invariant-term-stars : goal.invariant-term-stars
invariant-term-stars l = record {
  within : length l.cursor.rest.now ≤ length l.fn.cursor.rest.now;
  going : Going language_reader (seq (tok k.Star) (ref unary)) (factors (places l.scope)) l.initial.cursor.rest.now l.cursor.rest.now l.initial.whole l.whole;
}

abbrev pub decreases-term-stars : goal.decreases-term-stars
decreases-term-stars l = length l.cursor.rest.now
