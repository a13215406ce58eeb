use Rattle.std.proofs.Common.{◌+◌, List, sym, subst}
use Rattle.dc_frac.specs.Value.{value}
use Rattle.dc_sparse.specs.declared.web.Node.{Node}
use Rattle.dc_sparse.specs.Fills.{IsPartOf}
use Rattle.dc_sparse.proofs.StartTables.{filling-part}
use Rattle.dc_sparse.proofs.Fillings.{filling_more}
use Rattle.dc_sparse.proofs.web.Web.fill_cell.Goals as goal

pub returns-clause-ok : goal.returns-clause-ok
returns-clause-ok c =
    let p = c.args.p.now in
    filling_more p c.args.self.now.nodes.items (p.rows + 2) c.hold.new.self.nodes.items c.args.row c.args.col (value c.first_value.result) c.requires.filling c.in_ok-hold.ensures.ok c.first_value.ensures

pub returns-clause-part : goal.returns-clause-part
returns-clause-part c =
    let p = c.args.p.now in
    filling-part p c.hold.new.self.nodes.items (p.rows + 2) c.args.row c.args.col (returns-clause-ok c)

pub returns-in_err-hold-clause-part : goal.returns-in_err-hold-clause-part
returns-in_err-hold-clause-part c =
    let p = c.args.p.now in
    subst (λ (xs : List Node). IsPartOf p xs (p.rows + 2)) (sym c.in_err-hold.ensures.err) (filling-part p c.args.self.now.nodes.items (p.rows + 2) (c.args.row + 1) c.args.col c.requires.filling)
