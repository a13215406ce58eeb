-- A polynomial whose coefficients are at most 2147483647 in size.
use Rattle.std.specs.Prelude.{◌≡◌, ℕ, ◌≤◌, Bool, true, false, List, length, Some, None, unsigned_abs}
use Rattle.std.specs.List.{AllByRecursion}
use Rattle.dc_system.specs.Shapes.{IsForm}
use Rattle.std.specs.declared.option.Option.{Option}
use Rattle.std.specs.declared.vec.Vec.{Vec}
use Rattle.std.specs.declared.alloc.Global.{Global}
use Rattle.dc_affine.specs.declared.atom.Atom.{Atom}
use Rattle.dc_poly.specs.Terms.{Exponents, coef, Polynomial}
use Rattle.dc_poly.specs.NormalForm.{most}

pub record IsSmall (p : Polynomial) : Type 0 where
  pub coefs : (u : Exponents) → unsigned_abs (coef p.terms u) ≤ most

-- the list, where the test is true
abbrev pub IsGuard : Bool → List Atom → Option (Vec Atom Global) → Type 0
IsGuard fits gs None = fits ≡ false
IsGuard fits gs (Some v) = (fits ≡ true) × (v.items ≡ gs)

abbrev pub AreForms : Bool → List Polynomial → Option (Vec Polynomial Global) → Type 0
AreForms fits ps None = fits ≡ false
AreForms fits ps (Some v) = (fits ≡ true) × (v.items ≡ ps)

-- values of so many places, one for each place of what they are put into
pub record AreValues (places : ℕ) (vs : List Polynomial) : Type 0 where
  pub one_each : length vs ≡ places
  pub forms : AllByRecursion (IsForm places) vs
