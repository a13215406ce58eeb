use Rattle.std.proofs.Common.{ap}
use Rattle.std.proofs.lemmas.Result.{on_ok_weaker}
use Rattle.dc_system.specs.Literals.{expr_numbers}
use Rattle.dc_system.proofs.Numbers.{two, numbers-Add, numbers-Sub, numbers-Mul}
use Rattle.dc_system.proofs.literals.+of_expr.Goals as goal

pub returns-in_ok-of_expr-in-Add : goal.returns-in_ok-of_expr-in-Add
returns-in_ok-of_expr-in-Add t c =
    on_ok_weaker c.of_expr-in-Add-2.result (λ h. two _ _ _ _ _ _ _ _ (numbers-Add _ _ _ c.in-Add.is) (ap expr_numbers c.get-in-Add.ensures) (ap expr_numbers c.get-in-Add-2.ensures) (c.in_ok-of_expr-in-Add.ensures {u = tt}) h) c.of_expr-in-Add-2.ensures

pub returns-in_ok-of_expr-in-Sub : goal.returns-in_ok-of_expr-in-Sub
returns-in_ok-of_expr-in-Sub t c =
    on_ok_weaker c.of_expr-in-Sub-2.result (λ h. two _ _ _ _ _ _ _ _ (numbers-Sub _ _ _ c.in-Sub.is) (ap expr_numbers c.get-in-Sub.ensures) (ap expr_numbers c.get-in-Sub-2.ensures) (c.in_ok-of_expr-in-Sub.ensures {u = tt}) h) c.of_expr-in-Sub-2.ensures

pub returns-in_ok-of_expr-in-Mul : goal.returns-in_ok-of_expr-in-Mul
returns-in_ok-of_expr-in-Mul t c =
    on_ok_weaker c.of_expr-in-Mul-2.result (λ h. two _ _ _ _ _ _ _ _ (numbers-Mul _ _ _ c.in-Mul.is) (ap expr_numbers c.get-in-Mul.ensures) (ap expr_numbers c.get-in-Mul-2.ensures) (c.in_ok-of_expr-in-Mul.ensures {u = tt}) h) c.of_expr-in-Mul-2.ensures
