-- Graded order: the lower degree first, then the one with the greater exponent at the first
-- difference.
use Rattle.std.specs.Prelude.{◌≡◌, cond, ltb, [], ◌∷◌}
use Rattle.std.specs.declared.cmp.Ordering.{Ordering}
use Rattle.std.specs.declared.cmp.Ordering.TheVariants as std_order
use Rattle.dc_poly.specs.Terms.{Exponents, degree, Before}

-- the first difference decides: the greater exponent goes first, and a list that ends goes before
-- one that goes on
abbrev pub by_first : Exponents → Exponents → Ordering
by_first [] [] = std_order.Equal
by_first [] (f ∷ k) = std_order.Less
by_first (e ∷ m) [] = std_order.Greater
by_first (e ∷ m) (f ∷ k) =
    cond (ltb f e) std_order.Less (cond (ltb e f) std_order.Greater (by_first m k))

-- the lower degree goes first, and of two of one degree the one that the first difference says
abbrev pub graded : Exponents → Exponents → Ordering
graded m k =
    cond (ltb (degree m) (degree k)) std_order.Less
    (cond (ltb (degree k) (degree m)) std_order.Greater (by_first m k))

-- what an answer of `graded` says of the two
abbrev pub Told : Exponents → Exponents → Ordering → Type 0
Told m k std_order.Less = Before m k
Told m k std_order.Equal = m ≡ k
Told m k std_order.Greater = Before k m
