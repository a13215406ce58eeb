use Rattle.std.proofs.Common.{subst}
use Rattle.dc_entail.specs.Answers.{TellsEmptiness, TellsLive}
use Rattle.dc_greatest_trials.proofs.Lists.{flag_live}
use Rattle.dc_greatest_trials.proofs.subjects.is_live.Goals as goal

pub returns : goal.returns
returns c =
    let h : TellsLive c.args.case.now c.args.places 100000 c.in-Live.y.items = subst (TellsEmptiness c.args.case.now c.args.places 100000) c.in-Live.is c.in_ok-empty.ensures.answer in
    flag_live c.args.case.now h.point h.meets
