use Rattle.std.proofs.Common.{◌+◌, ◌*◌, ◌≤◌, length}
use Rattle.dc_tokens.specs.declared.token.TokenKind.TheVariants as k
use Rattle.dc_grammar.specs.Grammar.{ref, tok, seq}
use Rattle.dc_grammar.specs.Language.{conj, fact}
use Rattle.dc_grammar.specs.Readers.{language_reader}
use Rattle.dc_grammar.proofs.Alone.{Going}
use Rattle.dc_descent.specs.Scopes.{places}
use Rattle.dc_descent.specs.Trees.{conjuncts, disjuncts}
use Rattle.dc_descent.proofs.conditions.+cond.Given as goal

abbrev pub decreases-cond : goal.decreases-cond
decreases-cond l = 3 * length l.cursor.now.rest.now + 2

abbrev pub decreases-conj : goal.decreases-conj
decreases-conj l = 3 * length l.cursor.now.rest.now + 1

abbrev pub decreases-fact : goal.decreases-fact
decreases-fact l = 3 * length l.cursor.now.rest.now

abbrev pub invariant-cond-ors : goal.invariant-cond-ors
invariant-cond-ors l = record {
  within : length l.cursor.rest.now ≤ length l.fn.cursor.rest.now;
  going : Going language_reader (seq (tok k.Or) (ref conj)) (disjuncts (places l.scope)) l.initial.cursor.rest.now l.cursor.rest.now l.initial.whole l.whole;
}

abbrev pub decreases-cond-ors : goal.decreases-cond-ors
decreases-cond-ors l = length l.cursor.rest.now

abbrev pub invariant-conj-ands : goal.invariant-conj-ands
invariant-conj-ands l = record {
  within : length l.cursor.rest.now ≤ length l.fn.cursor.rest.now;
  going : Going language_reader (seq (tok k.And) (ref fact)) (conjuncts (places l.scope)) l.initial.cursor.rest.now l.cursor.rest.now l.initial.whole l.whole;
}

abbrev pub decreases-conj-ands : goal.decreases-conj-ands
decreases-conj-ands l = length l.cursor.rest.now
