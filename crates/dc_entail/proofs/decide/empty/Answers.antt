use Rattle.dc_lp.specs.Problems.{linear_of}
use Rattle.dc_simplex.specs.declared.Outcome.TheVariants.{Optimal, Infeasible, Unbounded}
use Rattle.dc_points.specs.Stated.{rational, empty_problem}
use Rattle.dc_entail.specs.declared.answer.Emptiness.TheVariants.{Dead, Live}
use Rattle.dc_entail.proofs.Telling.{telling, tells_dead, tells_live, empty-never_falls, only-ok}
use Rattle.dc_entail.proofs.decide.empty.Goals as goal

pub returns-in-Ok-Optimal-clause-answer : goal.returns-in-Ok-Optimal-clause-answer
returns-in-Ok-Optimal-clause-answer g c =
    tells_dead c.args.hyps.now c.args.places c.args.budget (g.T.Tableau.meaning c.solve.new.tableau) c.requires.atoms c.in-Ok-Optimal.x c.in-Ok-Optimal.field-0-1 c.in-Ok-Optimal.field-0-2 c.in-Ok-Optimal.field-0-3
    (telling (rational (empty_problem c.args.hyps.now c.args.places)) c.args.budget (g.T.Tableau.meaning c.solve.new.tableau) (linear_of c.in-Ok.p) c.in-Ok-Optimal.field-0 (Optimal c.in-Ok-Optimal.x c.in-Ok-Optimal.field-0-1 c.in-Ok-Optimal.field-0-2 c.in-Ok-Optimal.field-0-3) (c.in-Ok.ensures {u = tt}).problem c.in-Ok-Optimal.field-0-is (c.in-Ok-Optimal.ensures {u = tt}).answer (c.in-Ok-Optimal.ensures {u = tt}).shows)

pub returns-in-Ok-Optimal-clause-exact : goal.returns-in-Ok-Optimal-clause-exact
returns-in-Ok-Optimal-clause-exact g c =
    only-ok (rational (empty_problem c.args.hyps.now c.args.places)) c.args.budget (linear_of c.in-Ok.p) (c.in-Ok.ensures {u = tt}).problem c.in-Ok-Optimal.field-0 (Dead c.in-Ok-Optimal.x) (c.in-Ok-Optimal.ensures {u = tt}).exact

pub returns-in-Ok-Infeasible-clause-answer : goal.returns-in-Ok-Infeasible-clause-answer
returns-in-Ok-Infeasible-clause-answer g c =
    tells_live c.args.hyps.now c.args.places c.args.budget (g.T.Tableau.meaning c.solve.new.tableau) c.requires.atoms c.in-Ok-Infeasible.y c.in-Ok-Infeasible.field-0-1
    (telling (rational (empty_problem c.args.hyps.now c.args.places)) c.args.budget (g.T.Tableau.meaning c.solve.new.tableau) (linear_of c.in-Ok.p) c.in-Ok-Infeasible.field-0 (Infeasible c.in-Ok-Infeasible.y c.in-Ok-Infeasible.field-0-1) (c.in-Ok.ensures {u = tt}).problem c.in-Ok-Infeasible.field-0-is (c.in-Ok-Infeasible.ensures {u = tt}).answer (c.in-Ok-Infeasible.ensures {u = tt}).shows)

pub returns-in-Ok-Infeasible-clause-exact : goal.returns-in-Ok-Infeasible-clause-exact
returns-in-Ok-Infeasible-clause-exact g c =
    only-ok (rational (empty_problem c.args.hyps.now c.args.places)) c.args.budget (linear_of c.in-Ok.p) (c.in-Ok.ensures {u = tt}).problem c.in-Ok-Infeasible.field-0 (Live c.in-Ok-Infeasible.y) (c.in-Ok-Infeasible.ensures {u = tt}).exact

pub unreachable-requires : goal.unreachable-requires
unreachable-requires g c =
    empty-never_falls c.args.hyps.now c.args.places c.args.budget (g.T.Tableau.meaning c.solve.new.tableau) c.requires.atoms c.in-Ok-Unbounded.field-0-0 c.in-Ok-Unbounded.field-0-1 c.in-Ok-Unbounded.field-0-2
    (telling (rational (empty_problem c.args.hyps.now c.args.places)) c.args.budget (g.T.Tableau.meaning c.solve.new.tableau) (linear_of c.in-Ok.p) c.in-Ok-Unbounded.field-0 (Unbounded c.in-Ok-Unbounded.field-0-0 c.in-Ok-Unbounded.field-0-1 c.in-Ok-Unbounded.field-0-2) (c.in-Ok.ensures {u = tt}).problem c.in-Ok-Unbounded.field-0-is (c.in-Ok-Unbounded.ensures {u = tt}).answer (c.in-Ok-Unbounded.ensures {u = tt}).shows)
