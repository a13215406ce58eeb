use Rattle.dc_lp.specs.Folds.{numbers}
use Rattle.dc_simplex.specs.Outcomes.{IsVector}
use Rattle.dc_session.specs.Made.{unknown_in}
use Rattle.dc_engine.proofs.body.differences.Given as goal

abbrev pub invariant-loop-k : goal.invariant-loop-k
invariant-loop-k l = IsVector l.k (unknown_in (numbers l.x)) l.list.items
