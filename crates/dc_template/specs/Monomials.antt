-- The monomials of a template: what their list is.
use Rattle.std.specs.Prelude.{◌≡◌, ℕ, ◌-◌, List, ◌++◌, map, length, AllPairs}
use Rattle.std.specs.List.{AllByRecursion}
use Rattle.dc_math.specs.Members.{Among}
use Rattle.dc_poly.specs.Terms.{Exponents, Before}
use Rattle.dc_poly.specs.Sums.{times_mono, zeros}
use Rattle.dc_poly.specs.Monomials.{IsWithin, of_degree, monomials_of}

-- the monomials of n places and of degree at most d: these alone, each of them, and in graded order.
-- That order is strict, so each stands there once.
pub record AreMonomials (n d : ℕ) (ms : List Exponents) : Type 0 where
  pub only : AllByRecursion (IsWithin n d) ms
  pub each : (m : Exponents) → IsWithin n d m → Among m ms
  pub in_order : AllPairs Before ms

-- there is one such list
abbrev pub AreFixed : Type 0
AreFixed = (n d : ℕ) (ms ks : List Exponents)
    → AreMonomials n d ms → AreMonomials n d ks → ms ≡ ks

-- the list of all monomials is the one that these facts fix
abbrev pub IsTheList : Type 0
IsTheList = (n d : ℕ) → AreMonomials n d (monomials_of n d)

-- a monomial times one in the variables from a place on
abbrev pub joined : Exponents → ℕ → Exponents → Exponents
joined m at k = times_mono m (zeros at ++ k)

-- a monomial times each one of degree d in the variables from a place on
abbrev pub continued : Exponents → ℕ → ℕ → List Exponents
continued m at d = map (joined m at) (of_degree (length m - at) d)
