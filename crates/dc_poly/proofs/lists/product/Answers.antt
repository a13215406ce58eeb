use Rattle.std.proofs.Common.{◌∙◌, sym, ap, subst, arith, ◌-◌, drop}
use Rattle.dc_poly.specs.Terms.{Canonical}
use Rattle.dc_poly.specs.Sums.{times}
use Rattle.dc_poly.proofs.Values.{Canonical-times}
use Rattle.dc_poly.proofs.Products.{degree_within, shift_light, shift_padded, nonzero_within, Canonical-shifted, times_light}
use Rattle.dc_poly.proofs.lists.product.Goals as goal

pub shift-requires-clause-padded : goal.shift-requires-clause-padded
shift-requires-clause-padded c = shift_padded _ _ _ c.index-left-k.result (omega arith) c.index-left-k.is c.requires.padded

pub shift-requires-clause-low : goal.shift-requires-clause-low
shift-requires-clause-low c = let d = degree_within (c.terms.k - 1) c.args.left.now c.index-left-k.result (omega arith) c.index-left-k.is in omega (arith, d)

pub shift-requires-clause-light : goal.shift-requires-clause-light
shift-requires-clause-light c = shift_light _ _ _ c.index-left-k.result (omega arith) c.index-left-k.is c.requires.light

pub merge-requires-clause-left : goal.merge-requires-clause-left
merge-requires-clause-left c =
    subst Canonical (sym (c.as_slice.ensures.value ∙ c.in_ok-part.ensures))
    (Canonical-shifted _ _ _ (nonzero_within _ _ c.index-left-k.result (omega arith) c.index-left-k.is c.requires.left) (shift_padded _ _ _ c.index-left-k.result (omega arith) c.index-left-k.is c.requires.padded) c.requires.right)

pub merge-requires-clause-right : goal.merge-requires-clause-right
merge-requires-clause-right c = subst Canonical (sym (c.as_slice-in-terms.ensures.value ∙ c.terms.invariant.so_far)) (Canonical-times (drop c.terms.k c.args.left.now) c.args.right.now)

pub merge-requires-clause-light : goal.merge-requires-clause-light
merge-requires-clause-light c =
    times_light (c.terms.k - 1) _ _ c.index-left-k.result _ _ (omega arith) c.index-left-k.is (c.as_slice.ensures.value ∙ c.in_ok-part.ensures) (c.as_slice-in-terms.ensures.value ∙ c.terms.invariant.so_far ∙ ap (λ i. times (drop i c.args.left.now) c.args.right.now) (omega arith)) c.requires.light
