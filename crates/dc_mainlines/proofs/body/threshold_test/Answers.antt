use Rattle.std.proofs.Common.{◌∙◌, ap, refl, not, Some}
use Rattle.std.specs.Option.{option_map}
use Rattle.dc_math.specs.Tests.{eq_ℚ}
use Rattle.dc_frac.specs.Value.{value}
use Rattle.dc_lp.specs.Problems.{whole_at}
use Rattle.dc_lp.specs.Folds.{folded}
use Rattle.dc_lp.proofs.Checking.{tested, equals}
use Rattle.dc_cert.specs.Vectors.{entry_of}
use Rattle.dc_clauses.specs.Lines.{at}
use Rattle.dc_mainlines.proofs.Order.{differs, agrees}
use Rattle.dc_mainlines.proofs.body.threshold_test.Goals as goal

pub returns-then-ne : goal.returns-then-ne
returns-then-ne c =
    differs (eq_ℚ (value c.args.t.now) (at c.args.unknown.now 0)) c.ne.result (option_map (λ s. eq_ℚ (value c.args.t.now) s) (folded c.args.p.now.rows (whole_at c.args.p.now.b.items) (at c.args.dual.now)))
    (c.ne.ensures ∙ ap not (equals c.args.t.now c.entry.result _ (at c.args.unknown.now 0) refl (c.entry.ensures ∙ ap (λ items. entry_of items 0) c.as_slice.ensures))) c.if-ne.true

pub returns-in_err-right : goal.returns-in_err-right
returns-in_err-right c =
    agrees (eq_ℚ (value c.args.t.now) (at c.args.unknown.now 0)) c.ne.result c.from_residual.result (option_map (λ s. eq_ℚ (value c.args.t.now) s) (folded c.args.p.now.rows (whole_at c.args.p.now.b.items) (at c.args.dual.now)))
    (c.ne.ensures ∙ ap not (equals c.args.t.now c.entry.result _ (at c.args.unknown.now 0) refl (c.entry.ensures ∙ ap (λ items. entry_of items 0) c.as_slice.ensures))) c.if-ne.false
    (c.from_residual.ensures ∙ ap (option_map (λ s. eq_ℚ (value c.args.t.now) s)) c.in_err-right.ensures)

pub returns : goal.returns
returns c =
    agrees (eq_ℚ (value c.args.t.now) (at c.args.unknown.now 0)) c.ne.result (Some c.eq.result) (option_map (λ s. eq_ℚ (value c.args.t.now) s) (folded c.args.p.now.rows (whole_at c.args.p.now.b.items) (at c.args.dual.now)))
    (c.ne.ensures ∙ ap not (equals c.args.t.now c.entry.result _ (at c.args.unknown.now 0) refl (c.entry.ensures ∙ ap (λ items. entry_of items 0) c.as_slice.ensures))) c.if-ne.false
    (tested (λ s. eq_ℚ (value c.args.t.now) s) (folded c.args.p.now.rows (whole_at c.args.p.now.b.items) (at c.args.dual.now)) (value c.in_ok-right.right) c.eq.result c.in_ok-right.ensures
    (equals c.args.t.now c.in_ok-right.right c.eq.result (value c.in_ok-right.right) c.eq.ensures refl))
