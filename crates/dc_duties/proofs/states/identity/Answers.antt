use Rattle.std.proofs.Common.{◌++◌, ◌∷◌, [], ◌∙◌, ap, ap₂, sym}
use Rattle.dc_poly.specs.Sums.{variable}
use Rattle.dc_duties.proofs.Lists.{map_range_more}
use Rattle.dc_duties.proofs.states.identity.Goals as goal

pub loop-index-preserved : goal.loop-index-preserved
loop-index-preserved c =
    c.in_ok-push.ensures.items ∙ ap₂ (λ xs x. xs ++ x ∷ []) c.loop-index.invariant c.in_ok-variable.ensures.variable ∙ sym (map_range_more (λ k. variable k c.args.places) c.loop-index.index)
