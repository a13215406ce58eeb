-- The unknowns of a side.
use Rattle.std.specs.Prelude.{ℕ, List, map, flat_map}
use Rattle.std.specs.List.{range_with_len}
use Rattle.dc_syntax.specs.declared.tree.Side.{Side}
use Rattle.dc_claims.specs.declared.duty.Unknown.{Unknown}
use Rattle.dc_claims.specs.declared.duty.Unknown.TheVariants.{Coefficient}

-- the coefficients of a side with so many locations, and so many monomials at each
abbrev pub coefficients : Side → ℕ → ℕ → List Unknown
coefficients side locations monomials =
    flat_map (λ l. map (Coefficient side l) (range_with_len 0 monomials)) (range_with_len 0 locations)
