use Rattle.std.proofs.Common.{◌∙◌, ap}
use Rattle.dc_rows.specs.Bounds.{rising}
use Rattle.dc_rows.proofs.Rising.{sorted-rises}
use Rattle.dc_rows.proofs.bounds.gather.Goals as goal

pub returns : goal.returns
returns c =
    sorted-rises _ _ _ c.sort_unstable.ensures.permutation c.sort_unstable.ensures.sorted c.dedup.ensures.filtered ∙ ap rising c.in_ok-bounds.ensures
