use Rattle.std.proofs.Common.{refl, sym, ◌∙◌}
use Rattle.dc_tokens.specs.declared.token.TokenKind.TheVariants as k
use Rattle.dc_grammar.specs.Grammar.{ref, tok, opt, ◌▸◌, none, leaf, pair, left, right}
use Rattle.dc_grammar.specs.Language as lang
use Rattle.dc_grammar.specs.Reading.{seq-ok, nil-ok}
use Rattle.dc_descent.specs.Scopes.{places}
use Rattle.dc_descent.specs.Statements.{IsRange}
use Rattle.dc_descent.proofs.Rules.{stop_here, stop_then, stop_left_at, left_at, right_at, passed}
use Rattle.dc_descent.proofs.Compared.{ranges}
use Rattle.dc_descent.proofs.parts.bounds.Goals as goal

pub returns-in_err-expect : goal.returns-in_err-expect
returns-in_err-expect c = passed (opt (tok k.LParen ▸ ref lang.expr ▸ tok k.Comma ▸ ref lang.expr ▸ tok k.RParen)) (IsRange (places c.args.scope.now)) c.from_residual.result c.from_residual.ensures.1 (stop_left_at (sym c.sees.ensures ∙ c.if-sees.true) (stop_here c.in_err-expect.ensures))

pub returns-in_err-low : goal.returns-in_err-low
returns-in_err-low c = passed (opt (tok k.LParen ▸ ref lang.expr ▸ tok k.Comma ▸ ref lang.expr ▸ tok k.RParen)) (IsRange (places c.args.scope.now)) c.from_residual-in_err-low.result c.from_residual-in_err-low.ensures.1 (stop_left_at (sym c.sees.ensures ∙ c.if-sees.true) (stop_then c.in_ok-expect.ensures (stop_here c.in_err-low.ensures)))

pub returns-in_err-expect-2 : goal.returns-in_err-expect-2
returns-in_err-expect-2 c = passed (opt (tok k.LParen ▸ ref lang.expr ▸ tok k.Comma ▸ ref lang.expr ▸ tok k.RParen)) (IsRange (places c.args.scope.now)) c.from_residual-in_err-expect-2.result c.from_residual-in_err-expect-2.ensures.1 (stop_left_at (sym c.sees.ensures ∙ c.if-sees.true) (stop_then c.in_ok-expect.ensures (stop_then c.in_ok-low.ensures.1 (stop_here c.in_err-expect-2.ensures))))

pub returns-in_err-high : goal.returns-in_err-high
returns-in_err-high c = passed (opt (tok k.LParen ▸ ref lang.expr ▸ tok k.Comma ▸ ref lang.expr ▸ tok k.RParen)) (IsRange (places c.args.scope.now)) c.from_residual-in_err-high.result c.from_residual-in_err-high.ensures.1 (stop_left_at (sym c.sees.ensures ∙ c.if-sees.true) (stop_then c.in_ok-expect.ensures (stop_then c.in_ok-low.ensures.1 (stop_then c.in_ok-expect-2.ensures (stop_here c.in_err-high.ensures)))))

pub returns-in_err-expect-3 : goal.returns-in_err-expect-3
returns-in_err-expect-3 c = passed (opt (tok k.LParen ▸ ref lang.expr ▸ tok k.Comma ▸ ref lang.expr ▸ tok k.RParen)) (IsRange (places c.args.scope.now)) c.from_residual-in_err-expect-3.result c.from_residual-in_err-expect-3.ensures.1 (stop_left_at (sym c.sees.ensures ∙ c.if-sees.true) (stop_then c.in_ok-expect.ensures (stop_then c.in_ok-low.ensures.1 (stop_then c.in_ok-expect-2.ensures (stop_then c.in_ok-high.ensures.1 (c.in_err-expect-3.ensures))))))

pub returns-in_ok-expect-3 : goal.returns-in_ok-expect-3
returns-in_ok-expect-3 c = (left (pair (leaf c.in_ok-expect.field-0) (pair c.in_ok-low.ensures.0 (pair (leaf c.in_ok-expect-2.field-0) (pair c.in_ok-high.ensures.0 (leaf c.in_ok-expect-3.field-0))))), left_at (sym c.sees.ensures ∙ c.if-sees.true) (seq-ok c.in_ok-expect.ensures (seq-ok c.in_ok-low.ensures.1 (seq-ok c.in_ok-expect-2.ensures (seq-ok c.in_ok-high.ensures.1 c.in_ok-expect-3.ensures)))), ranges _ _ _ _ c.in_ok-low.ensures.2 c.in_ok-high.ensures.2)

pub returns-else-sees : goal.returns-else-sees
returns-else-sees c = (right none, right_at (sym c.sees.ensures ∙ c.if-sees.false) nil-ok, refl)
