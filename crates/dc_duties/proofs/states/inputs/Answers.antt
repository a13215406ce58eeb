use Rattle.std.proofs.Common.{◌++◌, ◌∷◌, [], ◌∙◌, ap, pos, arith}
use Rattle.dc_coefficients.proofs.Lists.{behind}
use Rattle.dc_poly.specs.Sums.{constant}
use Rattle.dc_duties.proofs.Lists.{zeros_more}
use Rattle.dc_duties.proofs.states.inputs.Goals as goal

pub loop-local-preserved : goal.loop-local-preserved
loop-local-preserved c =
    c.in_ok-push.ensures.items ∙ ap (λ x. c.loop-local.state.items ++ x ∷ []) c.in_ok-constant.ensures.constant
    ∙ behind c.loop-local.state.items c.in_ok-state.state.items _ _ (constant (pos 0) c.args.params ∷ []) c.loop-local.invariant (zeros_more c.loop-local._local c.args.params (constant (pos 0) c.args.params) c.loop-local.auto._local)
