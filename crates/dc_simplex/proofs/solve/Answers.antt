use Rattle.dc_lp.specs.Problems.{linear_of}
use Rattle.dc_simplex.proofs.Solved.{sized, solves-ok, solves-err, only, shows, opposites, enough}
use Rattle.dc_simplex.proofs.solve.Goals as goal

pub returns-in-Err-clause-exact : goal.returns-in-Err-clause-exact
returns-in-Err-clause-exact g c =
    only (linear_of c.args.p.now) c.args.budget (g.T.Tableau.meaning c.load_and_run.new.tableau) _
    (solves-err (linear_of c.args.p.now) c.args.budget (g.T.Tableau.meaning c.load_and_run.new.tableau) c.in-Err.fault c.in-Err.ensures)

pub returns-in-Err-clause-enough : goal.returns-in-Err-clause-enough
returns-in-Err-clause-enough g c =
    enough (linear_of c.args.p.now) c.args.budget (g.T.Tableau.meaning c.load_and_run.new.tableau) _
    (solves-err (linear_of c.args.p.now) c.args.budget (g.T.Tableau.meaning c.load_and_run.new.tableau) c.in-Err.fault c.in-Err.ensures)

pub outcome-requires-clause-rows : goal.outcome-requires-clause-rows
outcome-requires-clause-rows g c = (sized (linear_of c.args.p.now) c.args.budget (g.T.Tableau.meaning c.load_and_run.new.tableau) c.in-Ok.end.0 c.in-Ok.end.1 c.in-Ok.ensures).rows

pub outcome-requires-clause-columns : goal.outcome-requires-clause-columns
outcome-requires-clause-columns g c = (sized (linear_of c.args.p.now) c.args.budget (g.T.Tableau.meaning c.load_and_run.new.tableau) c.in-Ok.end.0 c.in-Ok.end.1 c.in-Ok.ensures).columns

pub outcome-requires-clause-along : goal.outcome-requires-clause-along
outcome-requires-clause-along g c = (sized (linear_of c.args.p.now) c.args.budget (g.T.Tableau.meaning c.load_and_run.new.tableau) c.in-Ok.end.0 c.in-Ok.end.1 c.in-Ok.ensures).along

pub returns-in-Ok-outcome-clause-exact : goal.returns-in-Ok-outcome-clause-exact
returns-in-Ok-outcome-clause-exact g c =
    only (linear_of c.args.p.now) c.args.budget (g.T.Tableau.meaning c.load_and_run.new.tableau) _
    (solves-ok (linear_of c.args.p.now) c.args.budget (g.T.Tableau.meaning c.load_and_run.new.tableau) c.in-Ok.end.0 c.in-Ok.end.1 c.in-Ok-outcome.outcome c.in-Ok.ensures c.in-Ok-outcome.ensures.vectors c.in-Ok-outcome.ensures.pivots)

pub returns-in-Ok-outcome-clause-shows : goal.returns-in-Ok-outcome-clause-shows
returns-in-Ok-outcome-clause-shows g c =
    shows (linear_of c.args.p.now) c.args.budget (g.T.Tableau.meaning c.load_and_run.new.tableau) c.in-Ok-outcome.outcome
    (solves-ok (linear_of c.args.p.now) c.args.budget (g.T.Tableau.meaning c.load_and_run.new.tableau) c.in-Ok.end.0 c.in-Ok.end.1 c.in-Ok-outcome.outcome c.in-Ok.ensures c.in-Ok-outcome.ensures.vectors c.in-Ok-outcome.ensures.pivots)

pub returns-in-Ok-outcome-clause-opposites : goal.returns-in-Ok-outcome-clause-opposites
returns-in-Ok-outcome-clause-opposites g c =
    opposites (linear_of c.args.p.now) c.args.budget (g.T.Tableau.meaning c.load_and_run.new.tableau) c.in-Ok-outcome.outcome
    (solves-ok (linear_of c.args.p.now) c.args.budget (g.T.Tableau.meaning c.load_and_run.new.tableau) c.in-Ok.end.0 c.in-Ok.end.1 c.in-Ok-outcome.outcome c.in-Ok.ensures c.in-Ok-outcome.ensures.vectors c.in-Ok-outcome.ensures.pivots)

pub returns-in-Ok-outcome-clause-answer : goal.returns-in-Ok-outcome-clause-answer
returns-in-Ok-outcome-clause-answer g c =
    solves-ok (linear_of c.args.p.now) c.args.budget (g.T.Tableau.meaning c.load_and_run.new.tableau) c.in-Ok.end.0 c.in-Ok.end.1 c.in-Ok-outcome.outcome c.in-Ok.ensures c.in-Ok-outcome.ensures.vectors c.in-Ok-outcome.ensures.pivots
