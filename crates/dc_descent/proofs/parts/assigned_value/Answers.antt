use Rattle.std.proofs.Common.{sym, ap, ◌∙◌}
use Rattle.dc_grammar.specs.Grammar.{ref, leaf, pair, left, right}
use Rattle.dc_grammar.specs.Language as lang
use Rattle.dc_grammar.specs.Reading.{name-of, seq-ok, left-ok, right-ok}
use Rattle.dc_descent.specs.Scopes.{places}
use Rattle.dc_descent.specs.Statements.{IsAssigned, any_by}
use Rattle.dc_descent.proofs.Rules.{stop_name, stop_here, stop_then, stop_left, stop_right, passed}
use Rattle.dc_syntax.specs.declared.tree.Stmt.TheVariants as s
use Rattle.dc_descent.proofs.parts.assigned_value.Goals as goal

pub returns-in_err-value : goal.returns-in_err-value
returns-in_err-value c = passed (ref lang.assigned) (IsAssigned (places c.args.scope.now) c.args.place) c.from_residual.result c.from_residual.ensures.1 (stop_name (stop_left (sym c.sees_expr.ensures ∙ c.if-sees_expr.true) (c.in_err-value.ensures)))

pub returns-in_err-expect : goal.returns-in_err-expect
returns-in_err-expect c = passed (ref lang.assigned) (IsAssigned (places c.args.scope.now) c.args.place) c.from_residual-in_err-expect.result c.from_residual-in_err-expect.ensures.1 (stop_name (stop_right (sym c.sees_expr.ensures ∙ c.if-sees_expr.false) (stop_here c.in_err-expect.ensures)))

pub returns-in_err-range : goal.returns-in_err-range
returns-in_err-range c = passed (ref lang.assigned) (IsAssigned (places c.args.scope.now) c.args.place) c.from_residual-in_err-range.result c.from_residual-in_err-range.ensures.1 (stop_name (stop_right (sym c.sees_expr.ensures ∙ c.if-sees_expr.false) (stop_then c.in_ok-expect.ensures (c.in_err-range.ensures))))

pub returns-in_ok-value : goal.returns-in_ok-value
returns-in_ok-value c = (left c.in_ok-value.ensures.0, name-of (left-ok (sym c.sees_expr.ensures ∙ c.if-sees_expr.true) c.in_ok-value.ensures.1), ap (s.Assign c.args.place) c.in_ok-value.ensures.2)

pub returns-in_ok-range : goal.returns-in_ok-range
returns-in_ok-range c = (right (pair (leaf c.in_ok-expect.field-0) c.in_ok-range.ensures.0), name-of (right-ok (sym c.sees_expr.ensures ∙ c.if-sees_expr.false) (seq-ok c.in_ok-expect.ensures c.in_ok-range.ensures.1)), ap (any_by c.args.place) c.in_ok-range.ensures.2 ∙ sym c.any_of.ensures)
