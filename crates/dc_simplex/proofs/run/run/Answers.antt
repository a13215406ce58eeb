use Rattle.std.proofs.Common.{refl, rules}
use Rattle.dc_lp.specs.Problems.{linear_of}
use Rattle.dc_simplex.proofs.Steps.{here-begun, here-more, here-cell}
use Rattle.dc_simplex.proofs.run.run.Goals as goal

pub loop-ending-init : goal.loop-ending-init
loop-ending-init g c = here-begun c.args.p.now c.args.budget c.args.p.now.rows c.len-n.result (g.T.Tableau.meaning c.args.tableau.now) c.requires.loaded refl (search rules)

pub change-requires-clause-cell : goal.change-requires-clause-cell
change-requires-clause-cell g c =
    here-cell (linear_of c.args.p.now) c.args.budget c.args.p.now.rows c.len-n.result c.loop-ending.pivots c.loop-ending.phase (g.T.Tableau.meaning c.loop-ending.tableau) c.loop-ending.invariant
    c.in-Ok-Pivot.next c.in-Ok-Pivot.row c.in-Ok-Pivot.col (rw c.in-Ok-Pivot.field-0-is at c.in-Ok-Pivot.ensures)

pub loop-ending-preserved : goal.loop-ending-preserved
loop-ending-preserved g c =
    here-more (linear_of c.args.p.now) c.args.budget c.args.p.now.rows c.len-n.result c.loop-ending.pivots c.loop-ending.phase (g.T.Tableau.meaning c.loop-ending.tableau) c.loop-ending.invariant
    c.in-Ok-Pivot.next (g.T.Tableau.meaning c.change.new.tableau) c.in-Ok-Pivot.row c.in-Ok-Pivot.col (rw c.in-Ok-Pivot.field-0-is at c.in-Ok-Pivot.ensures) c.in_ok-change-in-Ok-Pivot.ensures.fits c.in_ok-change-in-Ok-Pivot.ensures.ok c.in_ok-judge_budget-in-Ok-Pivot.ensures.left
