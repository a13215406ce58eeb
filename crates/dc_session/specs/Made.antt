-- The certificate that the outcomes of a session give.
use Rattle.std.specs.Prelude.{◌≡◌, ℕ, suc, ◌+◌, ◌*◌, ◌-◌, Bool, List, [], ◌∷◌, length, ℤ}
use Rattle.dc_math.specs.Rational.{ℚ, ◌-ℚ◌}
use Rattle.dc_frac.specs.declared.Frac.{Frac}
use Rattle.dc_frac.specs.Value.{value}
use Rattle.dc_affine.specs.declared.atom.Atom.{Atom}
use Rattle.dc_lp.specs.Linear.{Linear}
use Rattle.dc_lp.specs.Tables.{Table}
use Rattle.dc_pivots.specs.declared.Ending.{Ending}
use Rattle.dc_pivots.specs.declared.Ending.TheVariants.{Optimal, Infeasible, Unbounded}
use Rattle.dc_simplex.specs.Outcomes.{IsVector, solution_at, direction_at, multiplier_at, value_of}
use Rattle.dc_simplex.specs.Ends.{ComesTo}
use Rattle.dc_cert.specs.declared.sparse.Sparse.{Sparse}
use Rattle.dc_cert.specs.declared.certificate.Liveness.{Liveness}
use Rattle.dc_cert.specs.declared.certificate.Body.{Body}
use Rattle.dc_cert.specs.declared.certificate.Body.TheVariants.{Threshold, Nothing, Vacuous}
use Rattle.dc_cert.specs.declared.certificate.SideCert.{SideCert}
use Rattle.dc_cert.specs.declared.certificate.Certificate.{Certificate}
use Rattle.dc_cert.specs.Vectors.{nonzero_from}
use Rattle.dc_cert.specs.Ranges.{is_live}
use Rattle.dc_points.specs.Stated.{rational}
use Rattle.dc_system.specs.declared.edges.System.{System}
use Rattle.dc_families.specs.Graphs.{graph_of}
use Rattle.dc_invariant.specs.Shown.{IsLine}
use Rattle.dc_invariant.specs.Keeps.{IsSidePart}
use Rattle.dc_claims.specs.Parts.{unknowns_of}
use Rattle.dc_session.specs.Session.{Input, Part, Analysis, pair_of, main_of}

-- the items are those of the n numbers f 0, f 1 and so on that are not 0
pub record AreItemsOf (n : ℕ) (f : ℕ → ℚ) (v : Sparse) : Type 0 where
  pub whole : List Frac
  pub vector : IsVector n f whole
  pub items : v.items ≡ nonzero_from 0 whole

-- ---- the body, by the table at which the run of the main problem ends
-- Over the columns of a main problem with u unknowns: each unknown is its plus less its minus, and
-- then come the multipliers.
abbrev pub unknown_in : (ℕ → ℚ) → ℕ → ℚ
unknown_in x k = x (k * 2) -ℚ x (suc (k * 2))

abbrev pub multiplier_in : ℕ → (ℕ → ℚ) → ℕ → ℚ
multiplier_in u x j = x (u * 2 + j)

module _ (main : Linear ℤ) (u : ℕ) (t : Table ℚ) where
  abbrev pub IsUnknown : (ℕ → ℚ) → Sparse → Type 0
  IsUnknown x v = AreItemsOf u (unknown_in x) v

  abbrev pub IsLambda : (ℕ → ℚ) → Sparse → Type 0
  IsLambda x v = AreItemsOf (main.columns - u * 2) (multiplier_in u x) v

  -- the multipliers of the equations by a cost row: that of phase one stands after the equations'
  -- rows, and then that of phase two
  abbrev pub IsDual : ℕ → Sparse → Type 0
  IsDual row v = AreItemsOf main.equations (multiplier_at (rational main) t row) v

  pub record IsThreshold (v : Frac) (unknown lambda dual : Sparse) : Type 0 where
    pub least : value v ≡ value_of t
    pub unknown_is : IsUnknown (solution_at t) unknown
    pub lambda_is : IsLambda (solution_at t) lambda
    pub dual_is : IsDual (length t.basis + 1) dual

  -- without a bound the cost falls as column j grows
  pub record IsVacuous (j : ℕ) (unknown lambda ray_unknown ray_lambda : Sparse) : Type 0 where
    pub unknown_is : IsUnknown (solution_at t) unknown
    pub lambda_is : IsLambda (solution_at t) lambda
    pub ray_unknown_is : IsUnknown (direction_at t j) ray_unknown
    pub ray_lambda_is : IsLambda (direction_at t j) ray_lambda

  -- the least threshold, none, or every one, by the end of the run
  abbrev pub IsBodyOf : Ending → Body → Type 0
  IsBodyOf Optimal (Threshold v unknown lambda dual) = IsThreshold v unknown lambda dual
  IsBodyOf Infeasible (Nothing dual) = IsDual (length t.basis) dual
  IsBodyOf (Unbounded j) (Vacuous unknown lambda ray_unknown ray_lambda) =
      IsVacuous j unknown lambda ray_unknown ray_lambda
  IsBodyOf e b = ⊥

-- how many unknowns the main problem has
abbrev pub unknowns_in : Input → Analysis → ℕ
unknowns_in i a = length (unknowns_of (pair_of i a) i.settings.degree)

-- ---- a line for each case
abbrev pub AreCaseLines : ℕ → ℕ → List (List Atom) → List Bool → List Liveness → Type 0
AreCaseLines params budget [] [] [] = Unit {0}
AreCaseLines params budget (case ∷ cases) (b ∷ live) (w ∷ ws) =
    (is_live w ≡ b) × IsLine case params budget w × AreCaseLines params budget cases live ws
AreCaseLines params budget cases live ws = ⊥

-- ---- the side of a version: what shows its printed atoms, and whether its exit is live
pub record IsSideOf (i : Input) (s : System) (live : List Bool) (p : Part) (x : SideCert) : Type 0 where
  pub part : IsSidePart (graph_of s) p.printed i.settings.pivots i.cases live p.edges_live x
  pub exit : is_live x.exit_line ≡ p.exit_live

-- ---- the whole
-- the run of the main problem ends so, at the table t
pub record MainEnds (i : Input) (a : Analysis) (t : Table ℚ) : Type 0 where
  pub ending : Ending
  pub comes : ComesTo (rational (main_of i a)) i.settings.pivots ending t

pub record IsMade (i : Input) (a : Analysis) (t : Table ℚ) (c : Certificate) : Type 0 where
  pub version : c.version ≡ 2
  pub degree : c.degree ≡ i.settings.degree
  pub products : c.products ≡ i.settings.products
  pub when : AreCaseLines i.new.params i.settings.pivots i.cases a.live c.when
  pub new_side : IsSideOf i a.new a.live a.new_part c.new_side
  pub old_side : IsSideOf i a.old a.live a.old_part c.old_side
  pub main : MainEnds i a t
  pub body : IsBodyOf (main_of i a) (unknowns_in i a) t main.ending c.body
