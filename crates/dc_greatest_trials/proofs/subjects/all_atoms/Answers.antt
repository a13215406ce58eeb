use Rattle.std.proofs.Common.{rules, ◌∙◌}
use Rattle.dc_greatest_trials.proofs.Lists.{case_here, more_atoms}
use Rattle.dc_greatest_trials.proofs.subjects.all_atoms.Goals as goal

pub loop-case-preserved : goal.loop-case-preserved
loop-case-preserved c =
    more_atoms c.args.places c.loop-case.all.items c.put_atoms.new.all.items c.as_slice.result.now c.in_ok-put_atoms.ensures c.loop-case.invariant
    (case_here c.args.places c.args.cases.now c.loop-case.case-index _ c.case-item.result (search rules) (c.as_slice.ensures ∙ c.case-item.is) c.requires)
