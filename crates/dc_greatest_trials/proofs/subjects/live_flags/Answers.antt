use Rattle.std.proofs.Common.{rules, ◌+◌, ◌∙◌, arith}
use Rattle.dc_greatest_trials.proofs.Lists.{case_here, next_flag}
use Rattle.dc_greatest_trials.proofs.subjects.live_flags.Goals as goal

pub is_live-requires : goal.is_live-requires
is_live-requires c = case_here c.args.places c.args.cases.now c.loop-case.case-index _ c.case-item.result (search rules) (c.as_slice.ensures ∙ c.case-item.is) c.requires

pub loop-case-preserved : goal.loop-case-preserved
loop-case-preserved c =
    next_flag c.loop-case.flags.items c.push.new.self.items c.args.cases.now c.loop-case.case-index (c.loop-case.case-index + 1) c.in_ok-is_live.field-0 c.as_slice.result.now c.case-item.result
    (omega arith) (search rules) c.in_ok-push.ensures.items (c.as_slice.ensures ∙ c.case-item.is) c.loop-case.invariant c.in_ok-is_live.ensures
