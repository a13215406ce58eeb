use Rattle.std.proofs.Common.{rules, ◌≡◌, ◌<◌, false, ap, sym, ◌∙◌}
use Rattle.dc_math.specs.Tests.{is_zero}
use Rattle.dc_tableau_trials.proofs.Sizes.{over_ready, pivot_cell}
use Rattle.dc_tableau_trials.proofs.steps.make_room.Goals as goal

pub room-requires-clause-cell : goal.room-requires-clause-cell
room-requires-clause-cell g c =
    let a : c.is_zero.result ≡ false = search rules in
    let r : c.args.row < c.args.rows = search rules in
    let k : c.args.col < c.args.columns = search rules in
    pivot_cell _ c.args.rows c.args.columns c.args.row c.args.col c.requires r k (ap is_zero (sym c.entry.ensures) ∙ (sym c.is_zero.ensures ∙ a))

pub returns : goal.returns
returns g c =
    let a : c.is_zero.result ≡ false = search rules in
    let r : c.args.row < c.args.rows = search rules in
    let k : c.args.col < c.args.columns = search rules in
    over_ready _ _ c.args.rows c.args.columns c.args.row c.args.col c.requires r k (ap is_zero (sym c.entry.ensures) ∙ (sym c.is_zero.ensures ∙ a)) c.in_ok-room.ensures.ok
