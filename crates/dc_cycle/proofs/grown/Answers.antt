use Rattle.std.proofs.Common.{arith, ap, ◌∙◌, ◌≡◌, ◌+◌, ◌*◌, ◌/◌}
use Rattle.dc_pivots.specs.FieldLaws.{choose}
use Rattle.dc_cycle.proofs.Binomials.{choose-next}
use Rattle.dc_cycle.proofs.grown.Goals as goal

pub returns-then-next : goal.returns-then-next
returns-then-next c =
    let e : c.args.count * (c.args.columns + c.args.i + 1) / (c.args.i + 1) ≡ choose (c.args.columns + c.args.i + 1) (c.args.i + 1) = ap (λ x. x * (c.args.columns + c.args.i + 1) / (c.args.i + 1)) c.requires.count ∙ choose-next c.args.columns c.args.i in
    (omega arith, e)

pub returns-else-next : goal.returns-else-next
returns-else-next c =
    let e : c.args.count * (c.args.columns + c.args.i + 1) / (c.args.i + 1) ≡ choose (c.args.columns + c.args.i + 1) (c.args.i + 1) = ap (λ x. x * (c.args.columns + c.args.i + 1) / (c.args.i + 1)) c.requires.count ∙ choose-next c.args.columns c.args.i in
    λ h. absurd (omega arith)
