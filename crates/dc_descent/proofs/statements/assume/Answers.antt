use Rattle.std.proofs.Common.{ap}
use Rattle.dc_tokens.specs.declared.token.TokenKind.TheVariants as k
use Rattle.dc_grammar.specs.Grammar.{ref, tok, ◌▸◌, leaf, pair}
use Rattle.dc_grammar.specs.Language as lang
use Rattle.dc_grammar.specs.Reading.{seq-ok}
use Rattle.dc_syntax.specs.declared.tree.Stmt.TheVariants as s
use Rattle.dc_descent.specs.Scopes.{places}
use Rattle.dc_descent.specs.Alternatives.{IsAssume}
use Rattle.dc_descent.proofs.Rules.{stop_here, stop_then, passed}
use Rattle.dc_descent.proofs.statements.assume.Goals as goal

pub returns-in_err-expect : goal.returns-in_err-expect
returns-in_err-expect c = passed (tok k.Assume ▸ tok k.LParen ▸ ref lang.cond ▸ tok k.RParen ▸ tok k.Semi) (IsAssume (places c.args.scope.now)) c.from_residual.result c.from_residual.ensures.1 (stop_here c.in_err-expect.ensures)

pub returns-in_err-expect-2 : goal.returns-in_err-expect-2
returns-in_err-expect-2 c = passed (tok k.Assume ▸ tok k.LParen ▸ ref lang.cond ▸ tok k.RParen ▸ tok k.Semi) (IsAssume (places c.args.scope.now)) c.from_residual-in_err-expect-2.result c.from_residual-in_err-expect-2.ensures.1 (stop_then c.in_ok-expect.ensures (stop_here c.in_err-expect-2.ensures))

pub returns-in_err-condition : goal.returns-in_err-condition
returns-in_err-condition c = passed (tok k.Assume ▸ tok k.LParen ▸ ref lang.cond ▸ tok k.RParen ▸ tok k.Semi) (IsAssume (places c.args.scope.now)) c.from_residual-in_err-condition.result c.from_residual-in_err-condition.ensures.1 (stop_then c.in_ok-expect.ensures (stop_then c.in_ok-expect-2.ensures (stop_here c.in_err-condition.ensures)))

pub returns-in_err-expect-3 : goal.returns-in_err-expect-3
returns-in_err-expect-3 c = passed (tok k.Assume ▸ tok k.LParen ▸ ref lang.cond ▸ tok k.RParen ▸ tok k.Semi) (IsAssume (places c.args.scope.now)) c.from_residual-in_err-expect-3.result c.from_residual-in_err-expect-3.ensures.1 (stop_then c.in_ok-expect.ensures (stop_then c.in_ok-expect-2.ensures (stop_then c.in_ok-condition.ensures.1 (stop_here c.in_err-expect-3.ensures))))

pub returns-in_err-expect-4 : goal.returns-in_err-expect-4
returns-in_err-expect-4 c = passed (tok k.Assume ▸ tok k.LParen ▸ ref lang.cond ▸ tok k.RParen ▸ tok k.Semi) (IsAssume (places c.args.scope.now)) c.from_residual-in_err-expect-4.result c.from_residual-in_err-expect-4.ensures.1 (stop_then c.in_ok-expect.ensures (stop_then c.in_ok-expect-2.ensures (stop_then c.in_ok-condition.ensures.1 (stop_then c.in_ok-expect-3.ensures (c.in_err-expect-4.ensures)))))

pub returns : goal.returns
returns c = ((pair (leaf c.in_ok-expect.field-0) (pair (leaf c.in_ok-expect-2.field-0) (pair c.in_ok-condition.ensures.0 (pair (leaf c.in_ok-expect-3.field-0) (leaf c.in_ok-expect-4.field-0))))), (seq-ok c.in_ok-expect.ensures (seq-ok c.in_ok-expect-2.ensures (seq-ok c.in_ok-condition.ensures.1 (seq-ok c.in_ok-expect-3.ensures c.in_ok-expect-4.ensures)))), ap s.Assume c.in_ok-condition.ensures.2)
