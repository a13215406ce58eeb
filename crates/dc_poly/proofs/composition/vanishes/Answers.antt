use Rattle.std.proofs.Common.{◌∙◌, sym, ap, subst, length, ◌<◌}
use Rattle.dc_poly.specs.Conditions.{product_weight}
use Rattle.dc_poly.proofs.Substitution.{zero_at, positive_step, positive_skip, weight_positive, empty_is, full_is}
use Rattle.dc_poly.proofs.composition.vanishes.Goals as goal
use Rattle.dc_poly.proofs.composition.vanishes.Goals.{else-exponents-k-gt0-via-then-exponents-k-gt0+else-is_empty, else-exponents-k-gt0-via-else-exponents-k-gt0}

pub returns-then-is_empty : goal.returns-then-is_empty
returns-then-is_empty c =
    ap (λ m. product_weight m c.args.values.now) (sym c.exponents-exponents.ensures.value)
    ∙ zero_at c.loop-k.k c.exponents-exponents.result.now c.args.values.now c.index-values-k.result c.loop-k-test.true (c.requires ∙ ap length (sym c.exponents-exponents.ensures.value)) c.index-values-k.is c.if-exponents-k-gt0.true (sym (ap length c.terms.ensures.terms) ∙ empty_is _ c.if-is_empty.ensures)

pub loop-k-preserved : goal.loop-k-preserved
loop-k-preserved c = elim c.else-exponents-k-gt0.branch [
  | else-exponents-k-gt0-via-then-exponents-k-gt0+else-is_empty w ↦
      positive_step c.loop-k.k c.exponents-exponents.result.now c.args.values.now w.index-values-k.result c.loop-k-test.true (c.requires ∙ ap length (sym c.exponents-exponents.ensures.value)) w.index-values-k.is
      (λ _. weight_positive w.index-values-k.result.terms w.terms.ensures.kind.in_order (subst (λ t. 0 < length t) w.terms.ensures.terms (full_is _ w.if-is_empty.ensures))) c.loop-k.invariant
  | else-exponents-k-gt0-via-else-exponents-k-gt0 w ↦
      positive_skip c.loop-k.k c.exponents-exponents.result.now c.args.values.now c.loop-k-test.true (c.requires ∙ ap length (sym c.exponents-exponents.ensures.value)) w.if-exponents-k-gt0.false c.loop-k.invariant
]
