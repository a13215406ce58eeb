use Rattle.std.proofs.Common.{◌∙◌, sym, arith}
use Rattle.dc_clauses.specs.Sides.{edge_test, edge_tests}
use Rattle.dc_clauses.proofs.Walks.{joined_passed, joined_stops, length-paired}
use Rattle.dc_clauses.proofs.families.line_failure.Goals as goal

pub returns-in-Some : goal.returns-in-Some
returns-in-Some c = joined_stops 4 0 (edge_tests c.args.new.now c.args.new_side.now) (edge_tests c.args.old.now c.args.old_side.now) c.in-Some.step (sym c.in-Some.is ∙ c.edge_failure.ensures)

pub returns : goal.returns
returns c =
    joined_passed 4 0 c.len.result (edge_tests c.args.new.now c.args.new_side.now) (edge_tests c.args.old.now c.args.old_side.now) c.edge_failure-2.result (sym c.in_default.is ∙ c.edge_failure.ensures)
    (let o = c.requires.new.one_each in let p = length-paired (edge_test c.args.new.now c.args.new_side.now) c.args.new.now.edges c.args.new_side.now.edges (omega arith) in let e = c.len.ensures in omega arith) c.edge_failure-2.ensures
