use Rattle.std.proofs.Common.{◌≡◌, ◌+◌, ◌-◌, arith}
use Rattle.dc_lp.specs.Problems.{columns}
use Rattle.dc_sparse.proofs.Fillings.{filling_start, filling_skip, filling_end, unit_zero, cost_zero}
use Rattle.dc_sparse.proofs.web.Web.fill_unit.Goals as goal

pub fill_cell-requires-clause-filling : goal.fill_cell-requires-clause-filling
fill_cell-requires-clause-filling c =
    let p = c.args.p.now in
    let xs = c.args.self.now.nodes.items in
    filling_skip p xs (p.rows + 2) (p.rows + 1) (p.rows + 2) c.args.col (filling_start p xs (p.rows + 2) c.args.col c.requires.filled) (omega arith)
    (λ i l li. cost_zero p i c.args.col (omega arith) c.requires.low)

pub fill_cell-requires-2-clause-filling : goal.fill_cell-requires-2-clause-filling
fill_cell-requires-2-clause-filling c =
    let p = c.args.p.now in
    let xs = c.fill_cell.new.self.nodes.items in
    let n : c.len.result ≡ columns p = omega (arith, c.len.ensures, p.columns.ok.0) in
    let low = c.requires.low in
    let lc = c.requires.column in
    filling_skip p xs (p.rows + 2) (c.args.col - c.len.result + 1) p.rows c.args.col c.in_ok-fill_cell.ensures.ok (omega arith)
    (λ i l li. unit_zero p i c.args.col li c.requires.low c.requires.column (λ e. absurd (omega arith)))

pub returns-clause-ok : goal.returns-clause-ok
returns-clause-ok c =
    let p = c.args.p.now in
    let xs = c.fill_cell-2.new.self.nodes.items in
    let n : c.len.result ≡ columns p = omega (arith, c.len.ensures, p.columns.ok.0) in
    let low = c.requires.low in
    let lc = c.requires.column in
    filling_end p xs (p.rows + 2) c.args.col
    (filling_skip p xs (p.rows + 2) 0 (c.args.col - c.len.result) c.args.col c.in_ok-fill_cell-2.ensures.ok (omega arith)
    (λ i l li. unit_zero p i c.args.col (omega arith) c.requires.low c.requires.column (λ e. absurd (omega arith))))
