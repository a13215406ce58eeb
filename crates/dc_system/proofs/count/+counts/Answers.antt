use Rattle.std.proofs.Common.{arith, ap}
use Rattle.dc_graph.specs.Pieces.{sizes, pieces, piece}
use Rattle.dc_system.proofs.Counts.{size-If, size-IfAny, size-While, size-WhileAny, sizes_step, sizes_done}
use Rattle.dc_system.proofs.count.+counts.Goals as goal

pub count-returns-in-If : goal.count-returns-in-If
count-returns-in-If t c =
    let e = size-If _ _ _ c.in-If.is in
    let a = ap (λ l. sizes (pieces l)) c.as_slice.ensures in
    let b = ap (λ l. sizes (pieces l)) c.as_slice-in-If.ensures in
    omega (arith, c.count_all.ensures, c.count_all-in-If.ensures, c.saturating_add.ensures, c.saturating_add-inside.ensures)

pub count-returns-in-IfAny : goal.count-returns-in-IfAny
count-returns-in-IfAny t c =
    let e = size-IfAny _ _ c.in-IfAny.is in
    let a = ap (λ l. sizes (pieces l)) c.as_slice-in-IfAny.ensures in
    let b = ap (λ l. sizes (pieces l)) c.as_slice-in-IfAny-2.ensures in
    omega (arith, c.count_all-in-IfAny.ensures, c.count_all-in-IfAny-2.ensures, c.saturating_add-in-IfAny.ensures, c.saturating_add-inside-in-IfAny.ensures)

pub count-returns-in-While : goal.count-returns-in-While
count-returns-in-While t c =
    let e = size-While _ _ c.in-While.is in
    let a = ap (λ l. sizes (pieces l)) c.as_slice-in-While.ensures in
    omega (arith, c.count_all-in-While.ensures, c.saturating_add-in-While.ensures)

pub count-returns-in-WhileAny : goal.count-returns-in-WhileAny
count-returns-in-WhileAny t c =
    let e = size-WhileAny _ c.in-WhileAny.is in
    let a = ap (λ l. sizes (pieces l)) c.as_slice-in-WhileAny.ensures in
    omega (arith, c.count_all-in-WhileAny.ensures, c.saturating_add-in-WhileAny.ensures)

pub count_all-loop-statement-preserved : goal.count_all-loop-statement-preserved
count_all-loop-statement-preserved t c =
    let e = sizes_step c.loop-statement.statement-index c.args.body.now c.statement-item.result c.loop-statement-test.true in
    let f = ap (λ s. (piece s).size) c.statement-item.is in
    (omega (arith, c.count.ensures, c.saturating_add-total.ensures, c.loop-statement.invariant.0, c.loop-statement.invariant.1), omega (arith, c.saturating_add-total.ensures))

pub count_all-returns : goal.count_all-returns
count_all-returns t c =
    let e = sizes_done c.loop-statement.statement-index c.args.body.now c.loop-statement-test.false in
    omega (arith, c.loop-statement.invariant.0, c.loop-statement.invariant.1)
