use Rattle.std.proofs.Common.{ap, refl}
use Rattle.std.proofs.lemmas.Result.{on_ok_weaker}
use Rattle.dc_system.specs.Literals.{numbers_of, expr_numbers}
use Rattle.dc_system.proofs.Rising.{numbers_step}
use Rattle.dc_system.proofs.Numbers.{one_body, two, three, numbers-Between, numbers-If, numbers-IfAny, numbers-While, numbers-WhileAny}
use Rattle.dc_system.proofs.literals.+literals.Goals as goal

pub of_body-loop-statement-preserved : goal.of_body-loop-statement-preserved
of_body-loop-statement-preserved t c =
    numbers_step c.loop-statement.statement-index c.args.body.now c.statement-item.result _ _ _ c.loop-statement-test.true c.statement-item.is (c.in_ok-of_statement.ensures {u = tt}) c.loop-statement.invariant

pub of_statement-returns-in_ok-of_expr-in-Between : goal.of_statement-returns-in_ok-of_expr-in-Between
of_statement-returns-in_ok-of_expr-in-Between t c =
    on_ok_weaker c.of_expr-in-Between-2.result (λ h. two _ _ _ _ _ _ (expr_numbers c.in-Between.a) (expr_numbers c.in-Between.b) (numbers-Between _ _ _ _ c.in-Between.is) refl refl (c.in_ok-of_expr-in-Between.ensures {u = tt}) h) c.of_expr-in-Between-2.ensures

pub of_statement-returns-in_ok-of_body-in-If : goal.of_statement-returns-in_ok-of_body-in-If
of_statement-returns-in_ok-of_body-in-If t c =
    on_ok_weaker c.of_body-in-If.result (λ h. three _ _ _ _ _ _ _ _ _ _ _ (numbers-If _ _ _ _ c.in-If.is) refl (ap numbers_of c.as_slice.ensures) (ap numbers_of c.as_slice-in-If.ensures) (c.in_ok-of_cond-in-If.ensures {u = tt}) (c.in_ok-of_body-in-If.ensures {u = tt}) h) c.of_body-in-If.ensures

pub of_statement-returns-in_ok-of_body-in-IfAny : goal.of_statement-returns-in_ok-of_body-in-IfAny
of_statement-returns-in_ok-of_body-in-IfAny t c =
    on_ok_weaker c.of_body-in-IfAny-2.result (λ h. two _ _ _ _ _ _ _ _ (numbers-IfAny _ _ _ c.in-IfAny.is) (ap numbers_of c.as_slice-in-IfAny.ensures) (ap numbers_of c.as_slice-in-IfAny-2.ensures) (c.in_ok-of_body-in-IfAny.ensures {u = tt}) h) c.of_body-in-IfAny-2.ensures

pub of_statement-returns-in_ok-of_cond-in-While : goal.of_statement-returns-in_ok-of_cond-in-While
of_statement-returns-in_ok-of_cond-in-While t c =
    on_ok_weaker c.of_body-in-While.result (λ h. two _ _ _ _ _ _ _ _ (numbers-While _ _ _ c.in-While.is) refl (ap numbers_of c.as_slice-in-While.ensures) (c.in_ok-of_cond-in-While.ensures {u = tt}) h) c.of_body-in-While.ensures

pub of_statement-returns-in-WhileAny : goal.of_statement-returns-in-WhileAny
of_statement-returns-in-WhileAny t c =
    on_ok_weaker c.of_body-in-WhileAny.result (λ h. one_body _ _ _ _ _ (numbers-WhileAny _ _ c.in-WhileAny.is) (ap numbers_of c.as_slice-in-WhileAny.ensures) h) c.of_body-in-WhileAny.ensures
