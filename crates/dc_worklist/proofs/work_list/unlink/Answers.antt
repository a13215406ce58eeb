use Rattle.std.proofs.Common.{List, Option, sym, subst}
use Rattle.dc_worklist.specs.declared.work_list.Links.{Links}
use Rattle.dc_worklist.specs.Links.{AreLinked}
use Rattle.dc_worklist.proofs.Removed.{removed_linked, removed_numbers}
use Rattle.dc_worklist.proofs.work_list.unlink.Goals as goal

pub returns-clause-linked : goal.returns-clause-linked
returns-clause-linked c =
    subst (λ (xs : List (Option Links)). AreLinked xs c.next_behind-after.result) (sym c.set_before.ensures) (removed_linked c.args.slots.now c.args.edge c.next_behind-after.result c.requires.linked c.next_behind-after.ensures)

pub returns-clause-list : goal.returns-clause-list
returns-clause-list c = rw c.set_before.ensures (removed_numbers c.args.slots.now c.args.edge c.next_behind-after.result c.requires.linked c.next_behind-after.ensures)
