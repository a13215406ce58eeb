use Rattle.dc_sparse.specs.Meanings.{cross_meaning}
use Rattle.dc_tableau_trials.specs.Sizes.{IsOver}
use Rattle.dc_tableau_trials.proofs.steps.go.Given as goal

abbrev pub invariant-loop-cell : goal.invariant-loop-cell
invariant-loop-cell g l = record {
  first : IsOver (g.S.Tableau.meaning l.dense) l.rows l.columns;
  second : IsOver (cross_meaning l.cross) l.rows l.columns;
}
