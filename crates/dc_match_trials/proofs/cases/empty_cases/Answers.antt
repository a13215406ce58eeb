use Rattle.std.proofs.Common.{◌∙◌, ap₂, ◌++◌, ◌∷◌, [], List}
use Rattle.std.proofs.lemmas.List.{replicate_more}
use Rattle.dc_affine.specs.declared.atom.Atom.{Atom}
use Rattle.dc_match_trials.proofs.cases.empty_cases.Goals as goal

pub loop-case-preserved : goal.loop-case-preserved
loop-case-preserved c =
    c.in_ok-push.ensures.items ∙ ap₂ (λ (x : List (List Atom)) (y : List Atom). x ++ y ∷ []) c.loop-case.invariant c.new.ensures ∙ replicate_more c.loop-case._case []
