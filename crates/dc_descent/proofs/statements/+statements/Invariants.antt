use Rattle.std.proofs.Common.{◌+◌, ◌*◌, ◌≤◌, length, []}
use Rattle.dc_grammar.specs.Grammar.{ref}
use Rattle.dc_grammar.specs.Language.{stmt}
use Rattle.dc_grammar.specs.Readers.{language_reader}
use Rattle.dc_grammar.proofs.Alone.{Going}
use Rattle.dc_descent.specs.Scopes.{places}
use Rattle.dc_descent.proofs.Lists.{both_of}
use Rattle.dc_descent.proofs.statements.+statements.Given as goal

abbrev pub decreases-stmts : goal.decreases-stmts
decreases-stmts l = 3 * length l.cursor.now.rest.now + 2

abbrev pub decreases-stmt : goal.decreases-stmt
decreases-stmt l = 3 * length l.cursor.now.rest.now + 1

abbrev pub decreases-branch : goal.decreases-branch
decreases-branch l = 3 * length l.cursor.now.rest.now

abbrev pub decreases-repeat : goal.decreases-repeat
decreases-repeat l = 3 * length l.cursor.now.rest.now

abbrev pub decreases-otherwise : goal.decreases-otherwise
decreases-otherwise l = 3 * length l.cursor.now.rest.now

abbrev pub decreases-block : goal.decreases-block
decreases-block l = 3 * length l.cursor.now.rest.now

abbrev pub invariant-stmts-stmts : goal.invariant-stmts-stmts
invariant-stmts-stmts l = record {
  within : length l.cursor.rest.now ≤ length l.fn.cursor.rest.now;
  going : Going language_reader (ref stmt) (both_of (places l.scope)) l.initial.cursor.rest.now l.cursor.rest.now ([], l.initial.starts.items) (l.found, l.starts.items);
}

abbrev pub decreases-stmts-stmts : goal.decreases-stmts-stmts
decreases-stmts-stmts l = length l.cursor.rest.now
