use Rattle.std.proofs.Common.{◌≡◌, true}
use Rattle.dc_syntax.proofs.Inductions.{Expr-induction, Cond-induction, Stmt-induction}
use Rattle.dc_syntax.proofs.laws.trees_have_induction.Goals as goal

pub returns-clause-expressions : goal.returns-clause-expressions
returns-clause-expressions c p step = Expr-induction (λ e. p e ≡ true) step

pub returns-clause-conditions : goal.returns-clause-conditions
returns-clause-conditions c p step = Cond-induction (λ e. p e ≡ true) step

pub returns-clause-statements : goal.returns-clause-statements
returns-clause-statements c p step = Stmt-induction (λ e. p e ≡ true) step
