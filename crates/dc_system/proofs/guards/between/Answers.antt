use Rattle.std.proofs.Common.{◌+◌, arith, ap}
use Rattle.dc_poly.specs.Terms.{Polynomial}
use Rattle.dc_system.proofs.Differences.{can_rise, can_fall}
use Rattle.dc_system.proofs.guards.between.Goals as goal

pub difference-requires : goal.difference-requires
difference-requires c =
    can_rise c.args.vars (c.args.vars + 1) _ _ (omega arith) c.in_ok-chosen.ensures.variable c.in_ok-low.ensures.kind c.in_ok-low.ensures.narrow (ap (λ (p : Polynomial). p.places) c.in_ok-low.ensures.form)

pub difference-requires-2 : goal.difference-requires-2
difference-requires-2 c =
    can_fall c.args.vars (c.args.vars + 1) _ _ (omega arith) c.in_ok-chosen.ensures.variable c.in_ok-high.ensures.kind c.in_ok-high.ensures.narrow (ap (λ (p : Polynomial). p.places) c.in_ok-high.ensures.form)
