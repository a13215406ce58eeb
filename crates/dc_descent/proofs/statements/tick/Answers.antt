use Rattle.std.proofs.Common.{ap}
use Rattle.dc_tokens.specs.declared.token.TokenKind.TheVariants as k
use Rattle.dc_grammar.specs.Grammar.{ref, tok, ◌▸◌, leaf, pair}
use Rattle.dc_grammar.specs.Language as lang
use Rattle.dc_grammar.specs.Reading.{seq-ok}
use Rattle.dc_syntax.specs.declared.tree.Stmt.TheVariants as s
use Rattle.dc_descent.specs.Scopes.{places}
use Rattle.dc_descent.specs.Alternatives.{IsTick}
use Rattle.dc_descent.proofs.Rules.{stop_here, stop_then, passed}
use Rattle.dc_descent.proofs.statements.tick.Goals as goal

pub returns-in_err-expect : goal.returns-in_err-expect
returns-in_err-expect c = passed (tok k.Tick ▸ ref lang.expr ▸ tok k.Semi) (IsTick (places c.args.scope.now)) c.from_residual.result c.from_residual.ensures.1 (stop_here c.in_err-expect.ensures)

pub returns-in_err-cost : goal.returns-in_err-cost
returns-in_err-cost c = passed (tok k.Tick ▸ ref lang.expr ▸ tok k.Semi) (IsTick (places c.args.scope.now)) c.from_residual-in_err-cost.result c.from_residual-in_err-cost.ensures.1 (stop_then c.in_ok-expect.ensures (stop_here c.in_err-cost.ensures))

pub returns-in_err-expect-2 : goal.returns-in_err-expect-2
returns-in_err-expect-2 c = passed (tok k.Tick ▸ ref lang.expr ▸ tok k.Semi) (IsTick (places c.args.scope.now)) c.from_residual-in_err-expect-2.result c.from_residual-in_err-expect-2.ensures.1 (stop_then c.in_ok-expect.ensures (stop_then c.in_ok-cost.ensures.1 (c.in_err-expect-2.ensures)))

pub returns : goal.returns
returns c = ((pair (leaf c.in_ok-expect.field-0) (pair c.in_ok-cost.ensures.0 (leaf c.in_ok-expect-2.field-0))), (seq-ok c.in_ok-expect.ensures (seq-ok c.in_ok-cost.ensures.1 c.in_ok-expect-2.ensures)), ap s.Tick c.in_ok-cost.ensures.2)
