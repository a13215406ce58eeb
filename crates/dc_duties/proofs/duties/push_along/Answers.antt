use Rattle.std.proofs.Common.{◌≡◌, ◌++◌, ◌∷◌, [], ◌+◌, ◌∙◌, ap, sym, true, false, take, Vec, Global, slice_index_or}
use Rattle.std.proofs.lemmas.List.{append-nil}
use Rattle.dc_coefficients.proofs.Lists.{behind}
use Rattle.dc_claims.specs.declared.duty.Duty.{Duty}
use Rattle.dc_claims.specs.declared.duty.Duty.TheVariants.{Along}
use Rattle.dc_claims.specs.Duties.{duties_along}
use Rattle.dc_duties.proofs.Lists.{duty_set, duty_unset}
use Rattle.dc_duties.proofs.duties.push_along.Goals as goal
use Rattle.dc_duties.proofs.duties.push_along.Goals.{then-flag+in_ok-push, else-flag}

pub loop-edge-preserved : goal.loop-edge-preserved
loop-edge-preserved c =
    elim c.if-flag.branch [
      | then-flag+in_ok-push w ↦
          ap (λ (v : Vec Duty Global). v.items) w.list-is ∙ w.in_ok-push.ensures.items
          ∙ behind c.loop-edge.list.items c.args.list.now.items _ _ (Along c.args.side c.loop-edge.edge ∷ []) c.loop-edge.invariant
          (duty_set (Along c.args.side) c.args.live.now c.loop-edge.edge c.loop-edge-test.true w.if-flag.true)
      | else-flag w ↦
          ap (λ (v : Vec Duty Global). v.items) w.list-is ∙ c.loop-edge.invariant
          ∙ ap (λ q. c.args.list.now.items ++ q) (sym (duty_unset (Along c.args.side) c.args.live.now c.loop-edge.edge c.loop-edge-test.true w.if-flag.false))
    ]
