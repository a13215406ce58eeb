use Rattle.std.proofs.Common.{◌∙◌, sym, subst, ◌+◌, ◌*◌, ◌≤◌}
use Rattle.dc_poly.specs.Terms.{Canonical, weight, degree_of, largest}
use Rattle.dc_poly.specs.Conditions.{ArePadded}
use Rattle.dc_poly.proofs.Products.{Canonical-times_power, power_padded, power_low, power_light}
use Rattle.dc_poly.proofs.lists.power_times.Goals as goal

pub product-requires-clause-right : goal.product-requires-clause-right
product-requires-clause-right c = subst Canonical (sym (c.as_slice.ensures.value ∙ c.powers.invariant)) (Canonical-times_power c.args.value.now c.powers._k c.args.list.items c.requires.list)

pub product-requires-clause-padded : goal.product-requires-clause-padded
product-requires-clause-padded c = subst (ArePadded c.args.value.now) (sym (c.as_slice.ensures.value ∙ c.powers.invariant)) (power_padded _ _ _ c.requires.padded)

pub product-requires-clause-low : goal.product-requires-clause-low
product-requires-clause-low c =
    subst (λ y. degree_of c.args.value.now + degree_of y ≤ 255) (sym (c.as_slice.ensures.value ∙ c.powers.invariant)) (power_low _ _ _ c.args.exponent c.powers-test.true c.requires.low)

pub product-requires-clause-light : goal.product-requires-clause-light
product-requires-clause-light c =
    subst (λ y. weight c.args.value.now * weight y ≤ largest) (sym (c.as_slice.ensures.value ∙ c.powers.invariant)) (power_light _ _ _ c.args.exponent c.powers-test.true c.requires.nonzero c.requires.light)
