use Rattle.std.proofs.Common.{◌≡◌, Some, drop, pos}
use Rattle.dc_math.specs.Rational.{of_ℤ}
use Rattle.dc_frac.specs.Value.{value}
use Rattle.dc_lp.specs.Problems.{whole_at}
use Rattle.dc_clauses.proofs.Items.{items_sum}
use Rattle.dc_mainlines.proofs.steps.product.Given as goal

abbrev pub invariant-loop-item : goal.invariant-loop-item
invariant-loop-item l = items_sum (whole_at l.numbers) (Some (value l.sum)) (drop l.item-index l.items) ≡ items_sum (whole_at l.numbers) (Some (of_ℤ (pos 0))) l.items
