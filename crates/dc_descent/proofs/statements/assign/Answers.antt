use Rattle.std.proofs.Common.{sym, ap, ◌∙◌}
use Rattle.dc_tokens.specs.declared.token.TokenKind.TheVariants as k
use Rattle.dc_grammar.specs.Grammar.{ref, tok, ◌▸◌, leaf, pair}
use Rattle.dc_grammar.specs.Language as lang
use Rattle.dc_grammar.specs.Reading.{seq-ok}
use Rattle.dc_descent.specs.Scopes.{places}
use Rattle.dc_descent.specs.Statements.{assigned_of}
use Rattle.dc_descent.specs.Alternatives.{IsAssign}
use Rattle.dc_descent.proofs.Rules.{stop_here, stop_then, passed}
use Rattle.dc_descent.proofs.statements.assign.Goals as goal

pub returns-in_err-name : goal.returns-in_err-name
returns-in_err-name c = passed (tok k.Name ▸ tok k.Assign ▸ ref lang.assigned ▸ tok k.Semi) (IsAssign (places c.args.scope.now)) c.from_residual.result c.from_residual.ensures.1 (stop_here c.in_err-name.ensures)

pub returns-in_err-expect : goal.returns-in_err-expect
returns-in_err-expect c = passed (tok k.Name ▸ tok k.Assign ▸ ref lang.assigned ▸ tok k.Semi) (IsAssign (places c.args.scope.now)) c.from_residual-in_err-expect.result c.from_residual-in_err-expect.ensures.1 (stop_then c.in_ok-name.ensures (stop_here c.in_err-expect.ensures))

pub returns-in_err-statement : goal.returns-in_err-statement
returns-in_err-statement c = passed (tok k.Name ▸ tok k.Assign ▸ ref lang.assigned ▸ tok k.Semi) (IsAssign (places c.args.scope.now)) c.from_residual-in_err-statement.result c.from_residual-in_err-statement.ensures.1 (stop_then c.in_ok-name.ensures (stop_then c.in_ok-expect.ensures (stop_here c.in_err-statement.ensures)))

pub returns-in_err-expect-2 : goal.returns-in_err-expect-2
returns-in_err-expect-2 c = passed (tok k.Name ▸ tok k.Assign ▸ ref lang.assigned ▸ tok k.Semi) (IsAssign (places c.args.scope.now)) c.from_residual-in_err-expect-2.result c.from_residual-in_err-expect-2.ensures.1 (stop_then c.in_ok-name.ensures (stop_then c.in_ok-expect.ensures (stop_then c.in_ok-statement.ensures.1 (c.in_err-expect-2.ensures))))

pub returns : goal.returns
returns c = ((pair (leaf c.in_ok-name.name) (pair (leaf c.in_ok-expect.field-0) (pair c.in_ok-statement.ensures.0 (leaf c.in_ok-expect-2.field-0)))), (seq-ok c.in_ok-name.ensures (seq-ok c.in_ok-expect.ensures (seq-ok c.in_ok-statement.ensures.1 c.in_ok-expect-2.ensures))), ap (λ x. assigned_of (places c.args.scope.now) x c.in_ok-statement.ensures.0) (sym c.place.ensures) ∙ c.in_ok-statement.ensures.2)
