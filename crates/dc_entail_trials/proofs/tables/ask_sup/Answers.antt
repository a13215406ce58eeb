use Rattle.std.proofs.Common.{subst, length}
use Rattle.dc_entail.specs.Answers.{TellsLive, TellsEmptiness}
use Rattle.dc_entail_trials.proofs.tables.ask_sup.Goals as goal

pub sup-requires-clause-live : goal.sup-requires-clause-live
sup-requires-clause-live g c =
    let t : TellsLive c.args.hyps.now (length c.args.form.now) 1000 c.in-Ok-Live.field-0-0.items =
    subst (TellsEmptiness c.args.hyps.now (length c.args.form.now) 1000) c.in-Ok-Live.field-0-is (c.in-Ok-Live.ensures {u = tt}) in
    λ d. d t.point t.meets
