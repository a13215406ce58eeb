-- What a task is, and which unknowns are of it.
use Rattle.std.specs.Prelude.{◌≡◌, ℕ, ◌≤◌, ◌<◌, length}
use Rattle.dc_syntax.specs.declared.tree.Side.TheVariants.{New, Old}
use Rattle.dc_claims.specs.declared.duty.Unknown.{Unknown}
use Rattle.dc_claims.specs.declared.duty.Unknown.TheVariants.{Bound, Coefficient}
use Rattle.dc_claims.specs.Claims.{monomials_at}
use Rattle.dc_claims.specs.Parts.{unknowns_of}
use Rattle.dc_claims.specs.Plans.{IsPair}
use Rattle.dc_duties.specs.declared.plan.Programs.{Programs}
use Rattle.dc_duties.specs.declared.plan.Task.{Task}
use Rattle.dc_duties.specs.Lent.{lent}

-- it has the monomials and the unknowns of its programs and its degree
pub record IsTask (t : Task) : Type 0 where
  pub pair : IsPair (lent t.programs.now)
  pub low : t.degree ≤ 3
  pub some : 1 ≤ t.products
  pub few : t.products ≤ 3
  pub new_monomials : t.new_monomials.items ≡ monomials_at (lent t.programs.now) t.degree New
  pub old_monomials : t.old_monomials.items ≡ monomials_at (lent t.programs.now) t.degree Old
  pub unknowns : t.unknowns.items ≡ unknowns_of (lent t.programs.now) t.degree

-- of these programs, this degree and products of so many atoms
pub record IsTaskOf (programs : Programs) (degree products : ℕ) (t : Task) : Type 0 where
  pub task : IsTask t
  pub same_programs : t.programs.now ≡ programs
  pub same_degree : t.degree ≡ degree
  pub same_products : t.products ≡ products

-- the monomial of a coefficient is there
abbrev pub IsUnknown : Task → Unknown → Type 0
IsUnknown t Bound = Unit {0}
IsUnknown t (Coefficient side l i) = i < length (monomials_at (lent t.programs.now) t.degree side)
