use Rattle.std.proofs.Common.{sym, subst}
use Rattle.dc_session.specs.Answers.{IsFault}
use Rattle.dc_engine.specs.Inputs.{input}
use Rattle.dc_engine.proofs.Mains.{early_fault}
use Rattle.dc_engine.proofs.Told.{is_certificate, is_fold, fold_fault}
use Rattle.dc_engine.proofs.session.analyse_on.Goals as goal

pub returns-in-Err-early_answers-clause-fault : goal.returns-in-Err-early_answers-clause-fault
returns-in-Err-early_answers-clause-fault g c =
    subst (IsFault (input c.args.new.now c.args.old.now c.args.cases.now c.args.s.now)) (sym c.of_problem.ensures)
    (early_fault (input c.args.new.now c.args.old.now c.args.cases.now c.args.s.now) (c.in-Ok.ensures {u = tt}).counts c.in-Err-early_answers.fault (c.in-Err-early_answers.ensures {u = tt}).fault)

pub check-requires-clause-certificate : goal.check-requires-clause-certificate
check-requires-clause-certificate g c =
    is_certificate (input c.args.new.now c.args.old.now c.args.cases.now c.args.s.now) c.requires.input (g.T.Tableau.meaning c.make_certificate.new.tableau) c.in-Ok-make_certificate.certificate (c.in-Ok-make_certificate.ensures {u = tt}).certificate

pub of_check-requires : goal.of_check-requires
of_check-requires g c =
    is_fold (input c.args.new.now c.args.old.now c.args.cases.now c.args.s.now) c.requires.input (g.T.Tableau.meaning c.make_certificate.new.tableau) c.in-Ok-make_certificate.certificate (c.in-Ok-make_certificate.ensures {u = tt}).certificate
    c.in-Err-check.fault (c.in-Err-check.ensures {u = tt}).fault

pub returns-clause-fault : goal.returns-clause-fault
returns-clause-fault g c =
    fold_fault (input c.args.new.now c.args.old.now c.args.cases.now c.args.s.now) c.requires.input (g.T.Tableau.meaning c.make_certificate.new.tableau) c.in-Ok-make_certificate.certificate (c.in-Ok-make_certificate.ensures {u = tt}).certificate
    c.in-Err-check.fault c.of_check.result (c.in-Err-check.ensures {u = tt}).fault c.of_check.ensures
