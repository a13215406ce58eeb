use Rattle.std.proofs.Common.{◌∙◌, ap, sym, subst}
use Rattle.dc_session.specs.Answers.{IsFault}
use Rattle.dc_engine.specs.Faults.{refused_at}
use Rattle.dc_engine.specs.Parts.{input_of}
use Rattle.dc_engine.proofs.Mains.{fit, width_fault, room, main_fault, tell, made_told}
use Rattle.dc_engine.proofs.session.make_certificate.Goals as goal

pub main_of-requires : goal.main_of-requires
main_of-requires g c = record { fit = fit c.args.t.now c.args.v.now c.args.e c.requires.input c.requires.counts c.requires.versions c.requires.early }

pub returns-in-Err-clause-fault : goal.returns-in-Err-clause-fault
returns-in-Err-clause-fault g c = width_fault c.args.t.now c.args.v.now c.args.e c.requires.input c.requires.counts c.requires.versions c.requires.early c.in-Err.fault (c.in-Err.ensures {u = tt}).fault

pub unknown_count-count-requires-clause-room : goal.unknown_count-count-requires-clause-room
unknown_count-count-requires-clause-room g c = room c.args.t.now c.args.v.now c.args.e c.requires.input c.requires.counts c.requires.versions c.requires.early (c.in-Ok.ensures {u = tt}).within

pub returns-in-Err-solve-clause-fault : goal.returns-in-Err-solve-clause-fault
returns-in-Err-solve-clause-fault g c =
    subst (IsFault (input_of c.args.t.now)) (sym (c.of_problem.ensures ∙ ap refused_at c.at.ensures))
    (main_fault c.args.t.now c.args.v.now c.args.e c.requires.input c.requires.counts c.requires.versions c.requires.early
    c.in-Ok.problem (c.in-Ok.ensures {u = tt}).problem (c.in-Ok.ensures {u = tt}).within (g.T.Tableau.meaning c.solve.new.tableau)
    c.in-Err-solve.fault (c.in-Err-solve.ensures {u = tt}).answer)

pub body_of-requires : goal.body_of-requires
body_of-requires g c =
    tell c.args.t.now c.args.v.now c.args.e c.requires.input c.requires.counts c.requires.versions c.requires.early
    c.in-Ok.problem (c.in-Ok.ensures {u = tt}).problem (c.in-Ok.ensures {u = tt}).within (g.T.Tableau.meaning c.solve.new.tableau)
    c.in-Ok-solve.outcome (c.in-Ok-solve.ensures {u = tt}).answer
    c.unknown_count-count.result c.unknown_count-count.ensures (c.in-Ok-solve.ensures {u = tt}).opposites

pub returns-clause-certificate : goal.returns-clause-certificate
returns-clause-certificate g c =
    made_told c.args.t.now c.args.v.now c.args.e c.requires.input c.requires.counts c.requires.versions c.requires.early
    c.in-Ok.problem (c.in-Ok.ensures {u = tt}).problem (c.in-Ok.ensures {u = tt}).within (g.T.Tableau.meaning c.solve.new.tableau)
    c.in-Ok-solve.outcome (c.in-Ok-solve.ensures {u = tt}).answer
    c.unknown_count-count.result c.unknown_count-count.ensures c.in-Ok-body_of.body (c.in-Ok-body_of.ensures {u = tt})
