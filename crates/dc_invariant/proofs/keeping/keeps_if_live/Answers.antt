use Rattle.std.proofs.Common.{sym, subst}
use Rattle.std.specs.Prelude.{IfOk, IfErr}
use Rattle.dc_greatest.specs.Answers.{IsFault}
use Rattle.dc_invariant.specs.Lent.{Only, case_asked, IsCasePart}
use Rattle.dc_invariant.proofs.keeping.keeps_if_live.Goals as goal

pub returns-clause-answer : goal.returns-clause-answer
returns-clause-answer g c = subst (λ b. IfOk c.case_keeps.result (IsCasePart c.args.t.now c.args.case_number c.args.case.now b)) (sym c.if-not-live.false) c.case_keeps.ensures.answer

pub returns-clause-fault : goal.returns-clause-fault
returns-clause-fault g c =
    subst (λ b. IfErr c.case_keeps.result (IsFault c.args.t.now.budget (Only (case_asked c.args.t.now c.args.case_number c.args.case.now b)))) (sym c.if-not-live.false) c.case_keeps.ensures.fault
