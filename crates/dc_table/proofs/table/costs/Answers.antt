use Rattle.std.proofs.Common.{◌∙◌, ap, sym, ◌++◌, ◌∷◌, [], pos, negsuc}
use Rattle.dc_table.proofs.Extending.{replicate_next}
use Rattle.dc_table.proofs.table.costs.Goals as goal

pub loop-column-preserved : goal.loop-column-preserved
loop-column-preserved c =
    c.in_ok-push-3.ensures.items ∙ ap (λ q. q ++ pos 0 ∷ []) c.loop-column.invariant ∙ ap (λ q. pos 1 ∷ negsuc 0 ∷ q) (sym (replicate_next c.loop-column._column 2 (pos 0) c.loop-column.auto._column))
