use Rattle.dc_syntax.proofs.Parts.{value-Num, value-Var, value-Neg, value-Add, value-Sub, value-Mul, truth-True, truth-False, truth-Cmp, truth-Not, truth-And, truth-Or}
use Rattle.dc_syntax.proofs.laws.meaning_goes_by_the_tree.Goals as goal

pub returns-clause-values : goal.returns-clause-values
returns-clause-values c = record { num = value-Num; var = value-Var; neg = value-Neg; add = value-Add; sub = value-Sub; mul = value-Mul }

pub returns-clause-truth : goal.returns-clause-truth
returns-clause-truth c =
    record { yes = truth-True; no = truth-False; cmp = truth-Cmp; opposite = truth-Not; and = truth-And; or = truth-Or }
