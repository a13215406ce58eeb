use Rattle.std.proofs.Common.{◌∙◌}
use Rattle.dc_worklist.proofs.Views.{held}
use Rattle.dc_worklist.proofs.work_list.WorkList.holds.Goals as goal

pub returns : goal.returns
returns c = c.is_some.ensures ∙ held c.self.inside.slots.items c.args.self.now c.args.edge c.index.result.now c.self.view_is c.requires c.index.ensures
