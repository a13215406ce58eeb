use Rattle.std.proofs.Common.{ap, refl}
use Rattle.std.proofs.lemmas.Result.{on_ok_weaker}
use Rattle.dc_system.specs.Literals.{cond_numbers, expr_numbers}
use Rattle.dc_system.proofs.Numbers.{two, numbers-Cmp, numbers-And, numbers-Or}
use Rattle.dc_system.proofs.literals.+of_cond.Goals as goal

pub returns-in_ok-of_expr-in-Cmp : goal.returns-in_ok-of_expr-in-Cmp
returns-in_ok-of_expr-in-Cmp t c =
    on_ok_weaker c.of_expr-in-Cmp.result (λ h. two _ _ _ _ _ _ (expr_numbers c.in-Cmp.a) (expr_numbers c.in-Cmp.b) (numbers-Cmp _ _ _ _ c.in-Cmp.is) refl refl (c.in_ok-of_expr-in-Cmp.ensures {u = tt}) h) c.of_expr-in-Cmp.ensures

pub returns-in_ok-of_cond-in-And : goal.returns-in_ok-of_cond-in-And
returns-in_ok-of_cond-in-And t c =
    on_ok_weaker c.of_cond-in-And-2.result (λ h. two _ _ _ _ _ _ _ _ (numbers-And _ _ _ c.in-And.is) (ap cond_numbers c.get-in-And.ensures) (ap cond_numbers c.get-in-And-2.ensures) (c.in_ok-of_cond-in-And.ensures {u = tt}) h) c.of_cond-in-And-2.ensures

pub returns-in_ok-of_cond-in-Or : goal.returns-in_ok-of_cond-in-Or
returns-in_ok-of_cond-in-Or t c =
    on_ok_weaker c.of_cond-in-Or-2.result (λ h. two _ _ _ _ _ _ _ _ (numbers-Or _ _ _ c.in-Or.is) (ap cond_numbers c.get-in-Or.ensures) (ap cond_numbers c.get-in-Or-2.ensures) (c.in_ok-of_cond-in-Or.ensures {u = tt}) h) c.of_cond-in-Or-2.ensures
