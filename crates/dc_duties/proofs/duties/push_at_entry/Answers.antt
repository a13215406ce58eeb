use Rattle.std.proofs.Common.{◌≡◌, ◌++◌, ◌∷◌, [], ◌+◌, ◌∙◌, ap, sym, true, false, take, Vec, Global, slice_index_or}
use Rattle.std.proofs.lemmas.List.{append-nil}
use Rattle.dc_coefficients.proofs.Lists.{behind}
use Rattle.dc_claims.specs.declared.duty.Duty.{Duty}
use Rattle.dc_claims.specs.declared.duty.Duty.TheVariants.{AtEntry}
use Rattle.dc_claims.specs.Duties.{duties_at_entry}
use Rattle.dc_duties.proofs.Lists.{duty_set, duty_unset}
use Rattle.dc_duties.proofs.duties.push_at_entry.Goals as goal
use Rattle.dc_duties.proofs.duties.push_at_entry.Goals.{then-flag+in_ok-push, else-flag}

pub loop-case-preserved : goal.loop-case-preserved
loop-case-preserved c =
    elim c.if-flag.branch [
      | then-flag+in_ok-push w ↦
          ap (λ (v : Vec Duty Global). v.items) w.list-is ∙ w.in_ok-push.ensures.items
          ∙ behind c.loop-case.list.items c.args.list.now.items _ _ (AtEntry c.loop-case.case ∷ []) c.loop-case.invariant
          (duty_set AtEntry c.args.live.now c.loop-case.case c.loop-case-test.true w.if-flag.true)
      | else-flag w ↦
          ap (λ (v : Vec Duty Global). v.items) w.list-is ∙ c.loop-case.invariant
          ∙ ap (λ q. c.args.list.now.items ++ q) (sym (duty_unset AtEntry c.args.live.now c.loop-case.case c.loop-case-test.true w.if-flag.false))
    ]
