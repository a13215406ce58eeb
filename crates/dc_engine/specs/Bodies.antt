-- The body of a certificate, by the vectors of an outcome.
use Rattle.std.specs.Prelude.{◌≡◌, ℕ, suc, ◌*◌, ◌-◌, ◌<◌, ◌≤◌, List, length}
use Rattle.dc_frac.specs.declared.Frac.{Frac}
use Rattle.dc_lp.specs.Folds.{numbers}
use Rattle.dc_simplex.specs.declared.Outcome.{Outcome}
use Rattle.dc_simplex.specs.declared.Outcome.TheVariants.{Optimal, Infeasible, Unbounded}
use Rattle.dc_simplex.specs.Outcomes.{HasZero}
use Rattle.dc_cert.specs.declared.sparse.Sparse.{Sparse}
use Rattle.dc_cert.specs.declared.certificate.Body.{Body}
use Rattle.dc_cert.specs.declared.certificate.Body.TheVariants.{Threshold, Nothing, Vacuous}
use Rattle.dc_cert.specs.Vectors.{nonzero_from}
use Rattle.dc_session.specs.Made.{AreItemsOf, unknown_in, multiplier_in}
use Rattle.dc_engine.specs.declared.body.Split.{Split}

-- ---- a vector over the columns, where the first u * 2 belong to u unknowns
-- it has these columns, and of the two of an unknown one is 0
pub record CanSplit (u : ℕ) (x : List Frac) : Type 0 where
  pub room : u * 2 ≤ length x
  pub zeros : (k : ℕ) → k < u → HasZero x (k * 2) (suc (k * 2))

-- the unknowns, and what stands behind them
module _ (u : ℕ) (x : List Frac) where
  abbrev pub AreUnknowns : Sparse → Type 0
  AreUnknowns s = AreItemsOf u (unknown_in (numbers x)) s

  abbrev pub AreMultipliers : Sparse → Type 0
  AreMultipliers s = AreItemsOf (length x - u * 2) (multiplier_in u (numbers x)) s

  pub record IsSplit (s : Split) : Type 0 where
    pub unknown : AreUnknowns s.unknown
    pub lambda : AreMultipliers s.lambda

-- ---- the body
abbrev pub CanTell : ℕ → Outcome → Type 0
CanTell u (Optimal x y v n) = CanSplit u x.items
CanTell u (Infeasible y n) = Unit {0}
CanTell u (Unbounded x r n) = CanSplit u x.items × CanSplit u r.items

abbrev pub TellsBody : ℕ → Outcome → Body → Type 0
TellsBody u (Optimal x y v n) (Threshold t unknown lambda dual) =
    (t ≡ v) × AreUnknowns u x.items unknown × AreMultipliers u x.items lambda
    × (dual.items ≡ nonzero_from 0 y.items)
TellsBody u (Infeasible y n) (Nothing dual) = dual.items ≡ nonzero_from 0 y.items
TellsBody u (Unbounded x r n) (Vacuous unknown lambda ray_unknown ray_lambda) =
    AreUnknowns u x.items unknown × AreMultipliers u x.items lambda
    × AreUnknowns u r.items ray_unknown × AreMultipliers u r.items ray_lambda
TellsBody u o b = ⊥
