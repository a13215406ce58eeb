use Rattle.std.proofs.Common.{◌∙◌, ap, ◌++◌, ◌∷◌, [], true, Bool, List}
use Rattle.std.proofs.lemmas.List.{replicate_more}
use Rattle.dc_match_trials.proofs.cases.all_live.Goals as goal

pub loop-case-preserved : goal.loop-case-preserved
loop-case-preserved c =
    c.in_ok-push.ensures.items ∙ ap (λ (x : List Bool). x ++ true ∷ []) c.loop-case.invariant ∙ replicate_more c.loop-case._case true
