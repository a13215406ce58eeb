use Rattle.dc_affine.proofs.FormLaws.{form-Num, form-Var, form-Neg, form-Add, form-Sub, form-Mul, fault-Num, fault-Var, fault-Neg, fault-Add, fault-Sub, fault-Mul}
use Rattle.dc_affine.proofs.laws.forms_go_by_the_tree.Goals as goal

pub returns-clause-forms : goal.returns-clause-forms
returns-clause-forms c = record { num = form-Num; var = form-Var; neg = form-Neg; add = form-Add; sub = form-Sub; mul = form-Mul }

pub returns-clause-faults : goal.returns-clause-faults
returns-clause-faults c =
    record { num = fault-Num; var = fault-Var; neg = fault-Neg; add = fault-Add; sub = fault-Sub; mul = fault-Mul }
