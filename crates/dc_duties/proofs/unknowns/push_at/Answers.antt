use Rattle.std.proofs.Common.{◌∷◌, [], ◌∙◌}
use Rattle.dc_coefficients.proofs.Lists.{behind}
use Rattle.dc_claims.specs.declared.duty.Unknown.TheVariants.{Coefficient}
use Rattle.dc_duties.proofs.Lists.{map_range_more}
use Rattle.dc_duties.proofs.unknowns.push_at.Goals as goal

pub loop-number-preserved : goal.loop-number-preserved
loop-number-preserved c =
    c.in_ok-push.ensures.items
    ∙ behind c.loop-number.list.items c.args.list.now.items _ _ (Coefficient c.args.side c.args.location c.loop-number.number ∷ []) c.loop-number.invariant (map_range_more (Coefficient c.args.side c.args.location) c.loop-number.number)
