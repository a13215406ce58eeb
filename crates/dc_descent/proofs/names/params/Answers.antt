use Rattle.std.proofs.Common.{sym, ◌∙◌, append-nil}
use Rattle.dc_grammar.specs.Grammar.{ref, opt, none, left, right}
use Rattle.dc_grammar.specs.Language as lang
use Rattle.dc_grammar.specs.Reading.{left-ok, right-ok, nil-ok}
use Rattle.dc_descent.proofs.Rules.{stop_left, passed}
use Rattle.dc_descent.proofs.Naming.{sees_names}
use Rattle.dc_descent.proofs.names.params.Goals as goal

pub returns-in_err-names : goal.returns-in_err-names
returns-in_err-names c = passed (opt (ref lang.names)) (_) c.from_residual.result c.from_residual.ensures.1 (stop_left (sees_names c.args.cursor.now.rest.now ∙ sym c.sees.ensures ∙ c.if-sees.true) c.in_err-names.ensures)

pub returns-in_ok-names : goal.returns-in_ok-names
returns-in_ok-names c = (left c.in_ok-names.ensures.0, left-ok (sees_names c.args.cursor.now.rest.now ∙ sym c.sees.ensures ∙ c.if-sees.true) c.in_ok-names.ensures.1, c.in_ok-names.ensures.2)

pub returns-else-sees : goal.returns-else-sees
returns-else-sees c = (right none, right-ok (sees_names c.args.cursor.now.rest.now ∙ sym c.sees.ensures ∙ c.if-sees.false) nil-ok, sym (append-nil c.args.found.now.items))
