use Rattle.std.proofs.Common.{refl, sym, ap, ◌∙◌}
use Rattle.dc_grammar.specs.Grammar.{ref, leaf, left, right}
use Rattle.dc_grammar.specs.Language as lang
use Rattle.dc_grammar.specs.Reading.{name-of, left-ok, right-ok}
use Rattle.dc_descent.specs.Scopes.{places}
use Rattle.dc_descent.specs.Statements.{IsChoice}
use Rattle.dc_descent.proofs.Rules.{stop_name, stop_left, stop_right, passed}
use Rattle.std.proofs.Common.{Some}
use Rattle.dc_descent.proofs.parts.choice.Goals as goal

pub returns-in_err-expect : goal.returns-in_err-expect
returns-in_err-expect c = passed (ref lang.choice) (IsChoice (places c.args.scope.now)) c.from_residual.result c.from_residual.ensures.1 (stop_name (stop_left (sym c.sees.ensures ∙ c.if-sees.true) (c.in_err-expect.ensures)))

pub returns-in_err-condition : goal.returns-in_err-condition
returns-in_err-condition c = passed (ref lang.choice) (IsChoice (places c.args.scope.now)) c.from_residual-in_err-condition.result c.from_residual-in_err-condition.ensures.1 (stop_name (stop_right (sym c.sees.ensures ∙ c.if-sees.false) (c.in_err-condition.ensures)))

pub returns-in_ok-expect : goal.returns-in_ok-expect
returns-in_ok-expect c = (left (leaf c.in_ok-expect.field-0), name-of (left-ok (sym c.sees.ensures ∙ c.if-sees.true) c.in_ok-expect.ensures), refl)

pub returns-in_ok-condition : goal.returns-in_ok-condition
returns-in_ok-condition c = (right c.in_ok-condition.ensures.0, name-of (right-ok (sym c.sees.ensures ∙ c.if-sees.false) c.in_ok-condition.ensures.1), ap Some c.in_ok-condition.ensures.2)
