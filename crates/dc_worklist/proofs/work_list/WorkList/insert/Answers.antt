use Rattle.std.proofs.Common.{not, sym, ◌∙◌, ap}
use Rattle.dc_worklist.proofs.Views.{held, stays}
use Rattle.dc_worklist.proofs.work_list.WorkList.insert.Goals as goal

pub returns-then-is_some-clause-told : goal.returns-then-is_some-clause-told
returns-then-is_some-clause-told c =
    ap not (sym c.if-is_some.true ∙ c.is_some.ensures ∙ held c.self.inside.slots.items c.args.self.now c.args.edge c.index.result.now c.self.view_is c.requires c.index.ensures)

pub returns-then-is_some-clause-list : goal.returns-then-is_some-clause-list
returns-then-is_some-clause-list c =
    stays c.self.inside.slots.items c.args.self.now c.args.edge c.self.view_is
    (sym (sym c.if-is_some.true ∙ c.is_some.ensures ∙ held c.self.inside.slots.items c.args.self.now c.args.edge c.index.result.now c.self.view_is c.requires c.index.ensures))

pub returns-clause-told : goal.returns-clause-told
returns-clause-told c =
    ap not (sym c.if-is_some.false ∙ c.is_some.ensures ∙ held c.self.inside.slots.items c.args.self.now c.args.edge c.index.result.now c.self.view_is c.requires c.index.ensures)
