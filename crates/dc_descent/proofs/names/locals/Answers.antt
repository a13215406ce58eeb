use Rattle.std.proofs.Common.{sym, ◌∙◌, append-nil}
use Rattle.dc_tokens.specs.declared.token.TokenKind.TheVariants as k
use Rattle.dc_grammar.specs.Grammar.{ref, tok, opt, ◌▸◌, none, leaf, pair, left, right}
use Rattle.dc_grammar.specs.Language as lang
use Rattle.dc_grammar.specs.Reading.{seq-ok, nil-ok}
use Rattle.dc_descent.proofs.Rules.{stop_here, stop_then, stop_left_at, left_at, right_at, passed}
use Rattle.dc_descent.proofs.names.locals.Goals as goal

pub returns-in_err-expect : goal.returns-in_err-expect
returns-in_err-expect c = passed (opt (tok k.Var ▸ ref lang.names ▸ tok k.Semi)) (_) c.from_residual.result c.from_residual.ensures.1 (stop_left_at (sym c.sees.ensures ∙ c.if-sees.true) (stop_here c.in_err-expect.ensures))

pub returns-in_err-names : goal.returns-in_err-names
returns-in_err-names c = passed (opt (tok k.Var ▸ ref lang.names ▸ tok k.Semi)) (_) c.from_residual-in_err-names.result c.from_residual-in_err-names.ensures.1 (stop_left_at (sym c.sees.ensures ∙ c.if-sees.true) (stop_then c.in_ok-expect.ensures (stop_here c.in_err-names.ensures)))

pub returns-in_err-expect-2 : goal.returns-in_err-expect-2
returns-in_err-expect-2 c = passed (opt (tok k.Var ▸ ref lang.names ▸ tok k.Semi)) (_) c.from_residual-in_err-expect-2.result c.from_residual-in_err-expect-2.ensures.1 (stop_left_at (sym c.sees.ensures ∙ c.if-sees.true) (stop_then c.in_ok-expect.ensures (stop_then c.in_ok-names.ensures.1 (c.in_err-expect-2.ensures))))

pub returns-in_ok-expect-2 : goal.returns-in_ok-expect-2
returns-in_ok-expect-2 c = (left (pair (leaf c.in_ok-expect.field-0) (pair c.in_ok-names.ensures.0 (leaf c.in_ok-expect-2.field-0))), left_at (sym c.sees.ensures ∙ c.if-sees.true) (seq-ok c.in_ok-expect.ensures (seq-ok c.in_ok-names.ensures.1 c.in_ok-expect-2.ensures)), c.in_ok-names.ensures.2)

pub returns-else-sees : goal.returns-else-sees
returns-else-sees c = (right none, right_at (sym c.sees.ensures ∙ c.if-sees.false) nil-ok, sym (append-nil c.args.found.now.items))
