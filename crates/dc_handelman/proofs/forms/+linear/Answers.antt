use Rattle.std.proofs.Common.{◌≡◌, subst, refl, IfOk}
use Rattle.dc_poly.specs.Terms.{Polynomial}
use Rattle.dc_handelman.proofs.Walks.{linear_can, linear_is}
use Rattle.dc_handelman.proofs.forms.+linear.Goals as goal

pub add-requires : goal.add-requires
add-requires t c =
    linear_can c.args.places c.args.at c.args.coefs.now c.in_ok-variable-in-len1-up.variable c.in_ok-coef-in-len1-up.coef _ _ c.requires.few c.requires.inside c.requires.small c.in-len1-up.len_at_least
    c.in_ok-variable-in-len1-up.ensures.variable c.in_ok-coef-in-len1-up.ensures c.in_ok-term-in-len1-up.ensures.product c.in_ok-others-in-len1-up.ensures

pub returns-in_ok-others-in-len1-up : goal.returns-in_ok-others-in-len1-up
returns-in_ok-others-in-len1-up t c =
    subst (λ (x : Polynomial). IfOk c.add.result (λ p. p ≡ x))
    (linear_is c.args.places c.args.at c.args.coefs.now c.in_ok-variable-in-len1-up.variable c.in_ok-coef-in-len1-up.coef _ _ _ c.in-len1-up.len_at_least
    c.in_ok-variable-in-len1-up.ensures.variable c.in_ok-coef-in-len1-up.ensures c.in_ok-term-in-len1-up.ensures.product c.in_ok-others-in-len1-up.ensures refl) c.add.ensures.sum
