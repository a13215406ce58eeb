use Rattle.dc_worklist.proofs.Views.{new_view}
use Rattle.dc_worklist.proofs.work_list.WorkList.new.Goals as goal

pub returns : goal.returns
returns c = new_view c.args.edges c.in_ok-no_links.field-0.items c.in_ok-no_links.ensures
