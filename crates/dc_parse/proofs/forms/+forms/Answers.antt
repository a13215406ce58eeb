use Rattle.std.proofs.Common.{◌≡◌, ◌++◌, ◌∷◌, [], refl, sym, ap, ◌∙◌, arith, drop, ◌+◌}
use Rattle.dc_syntax.specs.declared.tree.Stmt.{out-Stmt}
use Rattle.dc_affine.specs.Whole.{statement_fault}
use Rattle.dc_parse.specs.Forms.{faults_in, all_faults, first_form}
use Rattle.dc_parse.specs.Steps.{after_all}
use Rattle.dc_parse.proofs.Layers.{inside, faults_of, faults_at, out_If, out_IfAny, out_While, out_WhileAny, below_If, below_IfAny, below_While, below_WhileAny, below_at, own_below, count_If, count_IfAny, count_While, count_WhileAny, count_at}
use Rattle.dc_parse.proofs.Stopping.{stops_first, first_then, stops_then, goes_on, stops_same, same_faults, handed, after_both, faults_drop}
use Rattle.dc_parse.proofs.forms.+forms.Goals as goal

pub judge-returns-in_err-judge_next : goal.judge-returns-in_err-judge_next
judge-returns-in_err-judge_next t c = handed _ ((statement_fault c.args.places (out-Stmt c.args.stmt.now) ∷ []) ++ inside c.args.places (out-Stmt c.args.stmt.now)) _ _ _ c.from_residual.result c.from_residual.ensures.1 (faults_of c.args.places c.args.stmt.now) (stops_first (statement_fault c.args.places (out-Stmt c.args.stmt.now) ∷ []) (inside c.args.places (out-Stmt c.args.stmt.now)) _ _ c.in_err-judge_next.ensures)

pub judge-returns-in_err-judge_all-in-If : goal.judge-returns-in_err-judge_all-in-If
judge-returns-in_err-judge_all-in-If t c = handed _ ((statement_fault c.args.places (out-Stmt c.args.stmt.now) ∷ []) ++ ((all_faults c.args.places c.as_slice.result.now) ++ (all_faults c.args.places c.in-If.no))) _ _ _ c.from_residual-in_err-judge_all-in-If.result c.from_residual-in_err-judge_all-in-If.ensures.1 (faults_at c.args.places c.args.stmt.now _ (out_If c.in-If.field-0 c.in-If.yes c.in-If.no c.as_slice.result.now c.in-If.no c.in-If.is (sym c.as_slice.ensures) refl))
    (stops_then (statement_fault c.args.places (out-Stmt c.args.stmt.now) ∷ []) ((all_faults c.args.places c.as_slice.result.now) ++ (all_faults c.args.places c.in-If.no)) _ c.judge_next.new.starts.rest.now _ c.in_ok-judge_next.ensures.0 c.in_ok-judge_next.ensures.1 (stops_first (all_faults c.args.places c.as_slice.result.now) (all_faults c.args.places c.in-If.no) _ _ c.in_err-judge_all-in-If.ensures))

pub judge-returns-in_err-judge_all-in-IfAny : goal.judge-returns-in_err-judge_all-in-IfAny
judge-returns-in_err-judge_all-in-IfAny t c = handed _ ((statement_fault c.args.places (out-Stmt c.args.stmt.now) ∷ []) ++ ((all_faults c.args.places c.as_slice-in-IfAny.result.now) ++ (all_faults c.args.places c.in-IfAny.right))) _ _ _ c.from_residual-in_err-judge_all-in-IfAny.result c.from_residual-in_err-judge_all-in-IfAny.ensures.1 (faults_at c.args.places c.args.stmt.now _ (out_IfAny c.in-IfAny.left c.in-IfAny.right c.as_slice-in-IfAny.result.now c.in-IfAny.right c.in-IfAny.is (sym c.as_slice-in-IfAny.ensures) refl))
    (stops_then (statement_fault c.args.places (out-Stmt c.args.stmt.now) ∷ []) ((all_faults c.args.places c.as_slice-in-IfAny.result.now) ++ (all_faults c.args.places c.in-IfAny.right)) _ c.judge_next.new.starts.rest.now _ c.in_ok-judge_next.ensures.0 c.in_ok-judge_next.ensures.1 (stops_first (all_faults c.args.places c.as_slice-in-IfAny.result.now) (all_faults c.args.places c.in-IfAny.right) _ _ c.in_err-judge_all-in-IfAny.ensures))

pub judge-returns-in_ok-judge_all-in-If : goal.judge-returns-in_ok-judge_all-in-If
judge-returns-in_ok-judge_all-in-If t c = same_faults _ ((statement_fault c.args.places (out-Stmt c.args.stmt.now) ∷ []) ++ ((all_faults c.args.places c.as_slice.result.now) ++ (all_faults c.args.places c.as_slice-in-If.result.now))) _ _ _ (faults_at c.args.places c.args.stmt.now _ (out_If c.in-If.field-0 c.in-If.yes c.in-If.no c.as_slice.result.now c.as_slice-in-If.result.now c.in-If.is (sym c.as_slice.ensures) (sym c.as_slice-in-If.ensures)))
    (goes_on (statement_fault c.args.places (out-Stmt c.args.stmt.now) ∷ []) ((all_faults c.args.places c.as_slice.result.now) ++ (all_faults c.args.places c.as_slice-in-If.result.now)) _ c.judge_next.new.starts.rest.now _ c.judge_all-in-If.result c.in_ok-judge_next.ensures.0 c.in_ok-judge_next.ensures.1 (goes_on (all_faults c.args.places c.as_slice.result.now) (all_faults c.args.places c.as_slice-in-If.result.now) _ c.judge_all.new.starts.rest.now _ c.judge_all-in-If.result c.in_ok-judge_all-in-If.ensures.0 c.in_ok-judge_all-in-If.ensures.1 c.judge_all-in-If.ensures))

pub judge-returns-in_ok-judge_all-in-IfAny : goal.judge-returns-in_ok-judge_all-in-IfAny
judge-returns-in_ok-judge_all-in-IfAny t c = same_faults _ ((statement_fault c.args.places (out-Stmt c.args.stmt.now) ∷ []) ++ ((all_faults c.args.places c.as_slice-in-IfAny.result.now) ++ (all_faults c.args.places c.as_slice-in-IfAny-2.result.now))) _ _ _ (faults_at c.args.places c.args.stmt.now _ (out_IfAny c.in-IfAny.left c.in-IfAny.right c.as_slice-in-IfAny.result.now c.as_slice-in-IfAny-2.result.now c.in-IfAny.is (sym c.as_slice-in-IfAny.ensures) (sym c.as_slice-in-IfAny-2.ensures)))
    (goes_on (statement_fault c.args.places (out-Stmt c.args.stmt.now) ∷ []) ((all_faults c.args.places c.as_slice-in-IfAny.result.now) ++ (all_faults c.args.places c.as_slice-in-IfAny-2.result.now)) _ c.judge_next.new.starts.rest.now _ c.judge_all-in-IfAny-2.result c.in_ok-judge_next.ensures.0 c.in_ok-judge_next.ensures.1 (goes_on (all_faults c.args.places c.as_slice-in-IfAny.result.now) (all_faults c.args.places c.as_slice-in-IfAny-2.result.now) _ c.judge_all-in-IfAny.new.starts.rest.now _ c.judge_all-in-IfAny-2.result c.in_ok-judge_all-in-IfAny.ensures.0 c.in_ok-judge_all-in-IfAny.ensures.1 c.judge_all-in-IfAny-2.ensures))

pub judge-returns-in-While : goal.judge-returns-in-While
judge-returns-in-While t c = same_faults _ ((statement_fault c.args.places (out-Stmt c.args.stmt.now) ∷ []) ++ (all_faults c.args.places c.as_slice-in-While.result.now)) _ _ _ (faults_at c.args.places c.args.stmt.now _ (out_While c.in-While.field-0 c.in-While.body c.as_slice-in-While.result.now c.in-While.is (sym c.as_slice-in-While.ensures))) (goes_on (statement_fault c.args.places (out-Stmt c.args.stmt.now) ∷ []) (all_faults c.args.places c.as_slice-in-While.result.now) _ c.judge_next.new.starts.rest.now _ c.judge_all-in-While.result c.in_ok-judge_next.ensures.0 c.in_ok-judge_next.ensures.1 c.judge_all-in-While.ensures)

pub judge-returns-in-WhileAny : goal.judge-returns-in-WhileAny
judge-returns-in-WhileAny t c = same_faults _ ((statement_fault c.args.places (out-Stmt c.args.stmt.now) ∷ []) ++ (all_faults c.args.places c.as_slice-in-WhileAny.result.now)) _ _ _ (faults_at c.args.places c.args.stmt.now _ (out_WhileAny c.in-WhileAny.body c.as_slice-in-WhileAny.result.now c.in-WhileAny.is (sym c.as_slice-in-WhileAny.ensures))) (goes_on (statement_fault c.args.places (out-Stmt c.args.stmt.now) ∷ []) (all_faults c.args.places c.as_slice-in-WhileAny.result.now) _ c.judge_next.new.starts.rest.now _ c.judge_all-in-WhileAny.result c.in_ok-judge_next.ensures.0 c.in_ok-judge_next.ensures.1 c.judge_all-in-WhileAny.ensures)

pub judge_all-returns-in_err-judge : goal.judge_all-returns-in_err-judge
judge_all-returns-in_err-judge t c =
    handed _ (all_faults c.args.places c.args.stmts.now) _ _ _ c.from_residual.result c.from_residual.ensures.1 refl
    (stops_same ((faults_in c.args.places c.stmt-item.result) ++ (all_faults c.args.places (drop (c.loop-stmt.stmt-index + 1) c.args.stmts.now))) (all_faults c.args.places c.args.stmts.now) c.loop-stmt.starts.rest.now c.args.starts.now.rest.now _ (ap (first_form c.loop-stmt.starts.rest.now) (sym (faults_drop c.args.places c.args.stmts.now c.loop-stmt.stmt-index c.stmt-item.result c.loop-stmt-test.true c.stmt-item.is)) ∙ c.loop-stmt.invariant.faults)
    (stops_first (faults_in c.args.places c.stmt-item.result) (all_faults c.args.places (drop (c.loop-stmt.stmt-index + 1) c.args.stmts.now)) _ _ c.in_err-judge.ensures))

pub judge_all-loop-stmt-preserved : goal.judge_all-loop-stmt-preserved
judge_all-loop-stmt-preserved t c = record {
  faults = sym (first_then (faults_in c.args.places c.stmt-item.result) (all_faults c.args.places (drop (c.loop-stmt.stmt-index + 1) c.args.stmts.now)) c.loop-stmt.starts.rest.now c.judge.new.starts.rest.now c.in_ok-judge.ensures.0 c.in_ok-judge.ensures.1) ∙ (ap (first_form c.loop-stmt.starts.rest.now) (sym (faults_drop c.args.places c.args.stmts.now c.loop-stmt.stmt-index c.stmt-item.result c.loop-stmt-test.true c.stmt-item.is)) ∙ c.loop-stmt.invariant.faults);
  left = ap (after_all (all_faults c.args.places (drop (c.loop-stmt.stmt-index + 1) c.args.stmts.now))) c.in_ok-judge.ensures.1 ∙ (sym (after_both (faults_in c.args.places c.stmt-item.result) (all_faults c.args.places (drop (c.loop-stmt.stmt-index + 1) c.args.stmts.now)) c.loop-stmt.starts.rest.now) ∙ (ap (λ z. after_all z c.loop-stmt.starts.rest.now) (sym (faults_drop c.args.places c.args.stmts.now c.loop-stmt.stmt-index c.stmt-item.result c.loop-stmt-test.true c.stmt-item.is)) ∙ c.loop-stmt.invariant.left));
}

pub judge-judge_all-requires : goal.judge-judge_all-requires
judge-judge_all-requires t c = let e : _ = count_If c.args.places c.args.stmt.now _ _ _ (out_If c.in-If.field-0 c.in-If.yes c.in-If.no c.as_slice.result.now c.in-If.no c.in-If.is (sym c.as_slice.ensures) refl) in (omega arith, (c.requires.few, (below_If c.args.places c.args.stmt.now _ _ _ (out_If c.in-If.field-0 c.in-If.yes c.in-If.no c.as_slice.result.now c.in-If.no c.in-If.is (sym c.as_slice.ensures) refl) c.requires.below).0))

pub judge-judge_all-requires-in-If : goal.judge-judge_all-requires-in-If
judge-judge_all-requires-in-If t c = let e : _ = count_If c.args.places c.args.stmt.now _ _ _ (out_If c.in-If.field-0 c.in-If.yes c.in-If.no c.as_slice.result.now c.as_slice-in-If.result.now c.in-If.is (sym c.as_slice.ensures) (sym c.as_slice-in-If.ensures)) in (omega arith, (c.requires.few, (below_If c.args.places c.args.stmt.now _ _ _ (out_If c.in-If.field-0 c.in-If.yes c.in-If.no c.as_slice.result.now c.as_slice-in-If.result.now c.in-If.is (sym c.as_slice.ensures) (sym c.as_slice-in-If.ensures)) c.requires.below).1))

pub judge-judge_all-requires-in-IfAny : goal.judge-judge_all-requires-in-IfAny
judge-judge_all-requires-in-IfAny t c = let e : _ = count_IfAny c.args.places c.args.stmt.now _ _ (out_IfAny c.in-IfAny.left c.in-IfAny.right c.as_slice-in-IfAny.result.now c.in-IfAny.right c.in-IfAny.is (sym c.as_slice-in-IfAny.ensures) refl) in (omega arith, (c.requires.few, (below_IfAny c.args.places c.args.stmt.now _ _ (out_IfAny c.in-IfAny.left c.in-IfAny.right c.as_slice-in-IfAny.result.now c.in-IfAny.right c.in-IfAny.is (sym c.as_slice-in-IfAny.ensures) refl) c.requires.below).0))

pub judge-judge_all-requires-in-IfAny-2 : goal.judge-judge_all-requires-in-IfAny-2
judge-judge_all-requires-in-IfAny-2 t c = let e : _ = count_IfAny c.args.places c.args.stmt.now _ _ (out_IfAny c.in-IfAny.left c.in-IfAny.right c.as_slice-in-IfAny.result.now c.as_slice-in-IfAny-2.result.now c.in-IfAny.is (sym c.as_slice-in-IfAny.ensures) (sym c.as_slice-in-IfAny-2.ensures)) in (omega arith, (c.requires.few, (below_IfAny c.args.places c.args.stmt.now _ _ (out_IfAny c.in-IfAny.left c.in-IfAny.right c.as_slice-in-IfAny.result.now c.as_slice-in-IfAny-2.result.now c.in-IfAny.is (sym c.as_slice-in-IfAny.ensures) (sym c.as_slice-in-IfAny-2.ensures)) c.requires.below).1))

pub judge-judge_all-requires-in-While : goal.judge-judge_all-requires-in-While
judge-judge_all-requires-in-While t c = let e : _ = count_While c.args.places c.args.stmt.now _ _ (out_While c.in-While.field-0 c.in-While.body c.as_slice-in-While.result.now c.in-While.is (sym c.as_slice-in-While.ensures)) in (omega arith, (c.requires.few, below_While c.args.places c.args.stmt.now _ _ (out_While c.in-While.field-0 c.in-While.body c.as_slice-in-While.result.now c.in-While.is (sym c.as_slice-in-While.ensures)) c.requires.below))

pub judge-judge_all-requires-in-WhileAny : goal.judge-judge_all-requires-in-WhileAny
judge-judge_all-requires-in-WhileAny t c = let e : _ = count_WhileAny c.args.places c.args.stmt.now _ (out_WhileAny c.in-WhileAny.body c.as_slice-in-WhileAny.result.now c.in-WhileAny.is (sym c.as_slice-in-WhileAny.ensures)) in (omega arith, (c.requires.few, below_WhileAny c.args.places c.args.stmt.now _ (out_WhileAny c.in-WhileAny.body c.as_slice-in-WhileAny.result.now c.in-WhileAny.is (sym c.as_slice-in-WhileAny.ensures)) c.requires.below))

pub judge_all-judge-requires : goal.judge_all-judge-requires
judge_all-judge-requires t c = let e : _ = count_at c.args.places c.args.stmts.now c.loop-stmt.stmt-index c.stmt-item.result c.loop-stmt-test.true c.stmt-item.is in (omega arith, (c.requires.few, below_at c.args.places c.args.stmts.now c.loop-stmt.stmt-index c.stmt-item.result c.loop-stmt-test.true c.stmt-item.is c.requires.below))

pub judge-judge_next-requires-clause-below : goal.judge-judge_next-requires-clause-below
judge-judge_next-requires-clause-below t c = own_below c.args.places c.args.stmt.now c.requires.below
