-- Worked by hand: a linear form that is affine after an update though its parts are not.
use Rattle.std.specs.Prelude.{◌≡◌, [], ◌∷◌, pos, negsuc, true, false}
use Rattle.std.proofs.Common.{refl}
use Rattle.dc_poly.specs.Terms.{polynomial, term}
use Rattle.dc_poly.specs.Sums.{constant}
use Rattle.dc_system.specs.declared.edges.Edge.{Edge}
use Rattle.dc_system.specs.After.{is_affine_after, row_after_of}

-- over x and y, with a chosen value z: x becomes x * y + z, y becomes x * y + 3
abbrev mixed : Edge
mixed = record {
  from = 0;
  to = 1;
  guard = [];
  update = polynomial 3 (term (0 ∷ 0 ∷ 1 ∷ []) (pos 1) ∷ term (1 ∷ 1 ∷ 0 ∷ []) (pos 1) ∷ []) ∷ polynomial 3 (term (0 ∷ 0 ∷ 0 ∷ []) (pos 3) ∷ term (1 ∷ 1 ∷ 0 ∷ []) (pos 1) ∷ []) ∷ [];
  any = true;
  cost = constant (pos 0) 3;
}

-- x is not affine after it, but x - y is: z - 3
bent : is_affine_after mixed (pos 1 ∷ pos 0 ∷ []) ≡ false
bent = refl

straight : row_after_of 2 mixed (pos 1 ∷ negsuc 0 ∷ []) ≡ record { constant = negsuc 2; coefs = pos 0 ∷ pos 0 ∷ pos 1 ∷ []; is_affine = true }
straight = refl
