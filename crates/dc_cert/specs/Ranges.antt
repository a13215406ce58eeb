-- The ranges of a certificate that has a text.
use Rattle.std.specs.Prelude.{◌≡◌, ◌⊎◌, ℕ, ◌≤◌, Bool, true, false, List, length}
use Rattle.std.specs.List.{AllByRecursion}
use Rattle.dc_frac.specs.Fits.{IsSmall}
use Rattle.dc_affine.specs.declared.atom.Atom.{Atom}
use Rattle.dc_affine.specs.Atoms.{IsAtom}
use Rattle.dc_cert.specs.declared.sparse.Sparse.{Sparse}
use Rattle.dc_cert.specs.declared.certificate.Liveness.{Liveness}
use Rattle.dc_cert.specs.declared.certificate.Liveness.TheVariants.{Dead, Live}
use Rattle.dc_cert.specs.declared.certificate.EdgeCert.{EdgeCert}
use Rattle.dc_cert.specs.declared.certificate.SideCert.{SideCert}
use Rattle.dc_cert.specs.declared.certificate.Body.{Body}
use Rattle.dc_cert.specs.declared.certificate.Body.TheVariants.{Threshold, Nothing, Vacuous}
use Rattle.dc_cert.specs.declared.certificate.Certificate.{Certificate}
use Rattle.dc_cert.specs.Vectors.{IsVector}
use Rattle.dc_cert.specs.Settings.{most_degree, most_products}

-- at most 1,024 vectors
pub record AreKeeps (keeps : List Sparse) : Type 0 where
  pub few : length keeps ≤ 1024
  pub vectors : AllByRecursion IsVector keeps

abbrev pub IsShown : Liveness → Type 0
IsShown (Dead s) = IsVector s
IsShown (Live s) = IsVector s

abbrev pub is_live : Liveness → Bool
is_live (Dead s) = false
is_live (Live s) = true

pub record IsEdge (e : EdgeCert) : Type 0 where
  pub live : IsShown e.live
  pub keeps : AreKeeps e.keeps

-- at most 1,024 atoms of at most 10 coefficients
pub record AreAtoms (atoms : List Atom) : Type 0 where
  pub few : length atoms ≤ 1024
  pub each : AllByRecursion (IsAtom 10) atoms

-- 1 to 128 locations, one list of entry keeps for each case of the condition, at most 512 edges
pub record IsSide (cases : ℕ) (s : SideCert) : Type 0 where
  pub some : 1 ≤ length s.families
  pub few : length s.families ≤ 128
  pub families : AllByRecursion AreAtoms s.families
  pub one_each : length s.entry_keeps ≡ cases
  pub entry_keeps : AllByRecursion AreKeeps s.entry_keeps
  pub few_edges : length s.edges ≤ 512
  pub edges : AllByRecursion IsEdge s.edges
  pub exit_line : IsShown s.exit_line

abbrev pub IsBody : Body → Type 0
IsBody (Threshold t unknown lambda dual) =
    IsSmall t.den × IsVector unknown × IsVector lambda × IsVector dual
IsBody (Nothing dual) = IsVector dual
IsBody (Vacuous unknown lambda ray_unknown ray_lambda) =
    IsVector unknown × IsVector lambda × IsVector ray_unknown × IsVector ray_lambda

-- version 1 has one case, version 2 has 1 to 64
abbrev pub HasCases : ℕ → ℕ → Type 0
HasCases version cases = ((version ≡ 1) × (cases ≡ 1)) ⊎ ((version ≡ 2) × (1 ≤ cases) × (cases ≤ 64))

pub record IsCertificate (c : Certificate) : Type 0 where
  pub cases : HasCases c.version (length c.when)
  pub body : IsBody c.body
  pub degree : c.degree ≤ most_degree
  pub some_products : 1 ≤ c.products
  pub few_products : c.products ≤ most_products
  pub when : AllByRecursion IsShown c.when
  pub new_side : IsSide (length c.when) c.new_side
  pub old_side : IsSide (length c.when) c.old_side
