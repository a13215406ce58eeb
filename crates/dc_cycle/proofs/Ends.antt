-- A budget that is never spent sees every pivot of a run.
use Rattle.std.proofs.Common.{◌≡◌, ℕ, ◌+◌, ◌<◌, ◌≤◌, Ok, Err, arith}
use Rattle.dc_math.specs.Rational.{ℚ}
use Rattle.dc_math.specs.RationalField.{rationals}
use Rattle.dc_lp.specs.Linear.{Linear}
use Rattle.dc_lp.specs.Tables.{Table}
use Rattle.dc_pivots.specs.declared.Ending.{Ending}
use Rattle.dc_pivots.specs.FieldLaws.{choose}
use Rattle.dc_pivots.proofs.Whole.{ends_soon}
use Rattle.dc_simplex.specs.declared.Outcome.{Outcome}
use Rattle.dc_simplex.specs.declared.SolveFault.TheVariants as faults
use Rattle.dc_simplex.specs.Limits.{EndsWith, IsPast, Done, Past, IsAnswer}
use Rattle.dc_simplex.specs.Outcomes.{TellsOnly}
use Rattle.dc_cycle.specs.declared.EndFault.TheVariants.{Past128}
use Rattle.dc_cycle.specs.Ended.{TellsEnds, TellsPast}

module _ (p : Linear ℚ) (budget : ℕ) (enough : choose (p.columns + p.equations) p.equations ≤ budget) where
  done : (n : ℕ) (e : Ending) (t : Table ℚ) → EndsWith p n e t → IsAnswer p budget (Done n e t)
  done n e t h = (let l : n < choose (p.columns + p.equations) p.equations = ends_soon ℚ rationals p n (record { phase = h.phase; table = t }) h.reaches.reached in (h, omega arith))

  past : (k : ℕ) → IsPast p k → IsAnswer p budget (Past k)
  past k h =
      let l : h.before < choose (p.columns + p.equations) p.equations = ends_soon ℚ rationals p h.before h.state h.reaches.reached in
      let s : k ≡ h.before + 1 = h.number in
      (h, omega arith)

  -- ---- by the result of `solve`

  pub ends-ok : (o : Outcome) → TellsOnly p budget (Ok o) → TellsEnds p (Ok o)
  ends-ok o f n e t h = f (Done n e t) (done n e t h)

  pub past-ok : (o : Outcome) → TellsOnly p budget (Ok o) → TellsPast p (Ok o)
  past-ok o f k h = f (Past k) (past k h)

  pub ends-past : (i : ℕ) → TellsOnly p budget (Err (faults.Past128 i)) → TellsEnds p (Err (Past128 i))
  ends-past i f n e t h = f (Done n e t) (done n e t h)
