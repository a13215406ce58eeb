-- Where a monomial stands in a list in graded order, or would stand.
use Rattle.std.specs.Prelude.{◌≡◌, ◌≤◌, List, length, insert}
use Rattle.dc_poly.specs.Terms.{Exponents}
use Rattle.dc_coefficients.specs.declared.monos.Spot.{Spot}
use Rattle.dc_coefficients.specs.declared.monos.Spot.TheVariants.{There, Before}
use Rattle.dc_coefficients.specs.Monomials.{with_mono}

-- it is there already, or goes in at this index
abbrev pub IsSpot : List Exponents → Exponents → Spot → Type 0
IsSpot ms m There = with_mono m ms ≡ ms
IsSpot ms m (Before i) = (i ≤ length ms) × (with_mono m ms ≡ insert ms i m)
