use Rattle.dc_certtext.specs.Text.{location_lines}
use Rattle.dc_certtext.proofs.Groups.{group_step}
use Rattle.dc_certtext.proofs.write.locations.Goals as goal

pub loop-n-preserved : goal.loop-n-preserved
loop-n-preserved c =
    group_step location_lines c.args.list.now c.loop-n.n c.index-list-n.result c.loop-n.out.items c.location.new.out.items _ c.loop-n-test.true c.index-list-n.is c.in_ok-location.ensures c.loop-n.invariant
