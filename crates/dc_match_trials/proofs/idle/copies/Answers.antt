use Rattle.std.proofs.Common.{◌∙◌, ap₂, ◌++◌, ◌∷◌, [], List}
use Rattle.std.proofs.lemmas.List.{replicate_more}
use Rattle.dc_affine.specs.declared.atom.Atom.{Atom}
use Rattle.dc_match_trials.specs.Systems.{first_place}
use Rattle.dc_match_trials.proofs.idle.copies.Goals as goal

pub loop-copy-preserved : goal.loop-copy-preserved
loop-copy-preserved c =
    c.in_ok-push.ensures.items ∙ ap₂ (λ (x : List Atom) (y : Atom). x ++ y ∷ []) c.loop-copy.invariant c.in_ok-nonnegative.ensures ∙ replicate_more c.loop-copy._copy first_place
