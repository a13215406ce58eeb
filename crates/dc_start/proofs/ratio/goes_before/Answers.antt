use Rattle.std.proofs.Common.{nat_lt, ap, slice_index}
use Rattle.dc_start.proofs.Ratios.{before-less, before-equal, before-greater}
use Rattle.dc_start.proofs.ratio.goes_before.Goals as goal

pub returns-in-Less : goal.returns-in-Less
returns-in-Less c t j e h k = before-less t j c.args.next c.args.best h k c.in-Less.ensures

pub returns-in-Equal : goal.returns-in-Equal
returns-in-Equal c t j e h k =
    before-equal t j c.args.next c.args.best h k _ c.in-Equal.ensures (ap (λ bs. nat_lt (slice_index bs c.args.next.row) (slice_index bs c.args.best.row)) e)

pub returns-in-Greater : goal.returns-in-Greater
returns-in-Greater c t j e h k = before-greater t j c.args.next c.args.best h k c.in-Greater.ensures
