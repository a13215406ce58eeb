use Rattle.std.proofs.Common.{map, ◌∙◌}
use Rattle.std.specs.List.{range_with_len}
use Rattle.dc_coefficients.proofs.Lists.{behind}
use Rattle.dc_claims.specs.declared.duty.Unknown.TheVariants.{Coefficient}
use Rattle.dc_duties.proofs.Lists.{flat_range_more}
use Rattle.dc_duties.proofs.unknowns.push_coefficients.Goals as goal

pub loop-location-preserved : goal.loop-location-preserved
loop-location-preserved c =
    c.in_ok-push_at.ensures
    ∙ behind c.loop-location.list.items c.args.list.now.items _ _ _ c.loop-location.invariant
    (flat_range_more (λ l. map (Coefficient c.args.side l) (range_with_len 0 c.args.extent.monomials)) c.loop-location.location)
