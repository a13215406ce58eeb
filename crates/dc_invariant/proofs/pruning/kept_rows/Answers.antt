use Rattle.std.proofs.Common.{ℕ, List, ◌++◌, ◌∷◌, [], cond, is_some, None, slice_index_or, sym, ◌∙◌, ap}
use Rattle.dc_invariant.proofs.Steps.{rows_push}
use Rattle.dc_invariant.proofs.pruning.kept_rows.Goals as goal

pub loop-row-preserved : goal.loop-row-preserved
loop-row-preserved c =
    c.in_ok-push_kept.ensures
    ∙ ap (λ (xs : List ℕ). xs ++ cond (is_some (slice_index_or c.args.least.now c.loop-row.row None)) (c.loop-row.row ∷ []) []) c.loop-row.invariant
    ∙ sym (rows_push (λ r. is_some (slice_index_or c.args.least.now r None)) c.loop-row.row)
