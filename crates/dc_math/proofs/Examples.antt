-- One example of each tool. Nothing cites this file; docs/proving.md shows it, and the check keeps it true.
use Rattle.std.specs.Prelude.{◌≡◌, ℕ, ℤ, pos, negsuc, ◌+ℤ◌, ◌*ℤ◌, List, [], ◌∷◌}
use Rattle.std.proofs.Common.{refl, sym, ◌∙◌, arith}
use Rattle.std.proofs.lemmas.Int.{ints}
use Rattle.dc_math.specs.Rational.{ℚ, Fraction, ◌+ℚ◌, ◌*ℚ◌, ◌-ℚ◌, neg_ℚ, of_ℤ, ratio, ratio_same, ratio-add, ◌≤ℚ◌, ◌<ℚ◌, ≤ℚ-sub, NonNegative, NonNegative-+ℚ, NonNegative-*ℚ}
use Rattle.dc_math.specs.RationalRing.{ring, reads, read_nat, same_form, linear₂, ≤ℚ_by}
use Rattle.dc_math.specs.WholeRing as whole
use Rattle.dc_math.specs.Linear.{from₂, times, follows}
use Rattle.dc_math.specs.Lowest.{IsReduced, lowest, lowest-of_reduced}
use Rattle.dc_math.specs.Floor.{floor, floor_unique}
use Rattle.dc_math.specs.Sums.{sum_ℚ, sum_ℚ-+ℚ, sum_ℚ-*ℚ}
use Rattle.dc_math.specs.Vectors.{dot, scale, add, dot-add, dot-scale}

-- ring: both sides have one normal form
square : (a b : ℚ) → (a +ℚ b) *ℚ (a -ℚ b) ≡ a *ℚ a -ℚ b *ℚ b
square a b = ring (a ∷ b ∷ []) (λ ρ p q. simp (p, q, reads) (same_form _ _ _ refl))

-- with numerals `read_nat ρ` (over ℤ for negative ones also `read_minus ρ`)
double : (a : ℚ) → a +ℚ a ≡ a *ℚ of_ℤ (pos 2)
double a = ring (a ∷ []) (λ ρ p. simp (p, read_nat ρ, reads) (same_form _ _ _ refl))

-- the same over ℤ
whole_square : (a b : ℤ) → (a +ℤ b) *ℤ (a +ℤ b) ≡ a *ℤ a +ℤ (a *ℤ b) *ℤ pos 2 +ℤ b *ℤ b
whole_square a b = whole.ring (a ∷ b ∷ []) (λ ρ p q. simp (p, q, whole.read_nat ρ, whole.reads) (whole.same_form _ _ _ refl))

-- an equation from equations: the difference of its sides is that of each equation times a multiplier
solve : (a b i : ℚ) → a *ℚ i ≡ of_ℤ (pos 1) → a *ℚ b ≡ of_ℤ (pos 0) → b ≡ of_ℤ (pos 0)
solve a b i h k = linear₂ (neg_ℚ b) _ _ _ _ i _ _ h k (ring (a ∷ b ∷ i ∷ []) (λ ρ p q r. simp (p, q, r, read_nat ρ, reads) (same_form _ _ _ refl)))

-- an inequality from inequalities: the multiplier of each
between : (x y z : ℚ) → x ≤ℚ y → y ≤ℚ z → (x *ℚ of_ℤ (pos 3)) ≤ℚ (y +ℚ z +ℚ z)
between x y z h k = from₂ h k (ring (x ∷ y ∷ z ∷ []) (λ ρ p q r. simp (p, q, r, read_nat ρ, reads) (follows _ (times 3 _ _ ∷ times 2 _ _ ∷ []) _ _ refl)))

-- where multipliers are not numerals: the slack is named, its sign is found by search
weighed : (x y z : ℚ) → x ≤ℚ y → NonNegative z → (x *ℚ z +ℚ x) ≤ℚ (y *ℚ z +ℚ y)
weighed x y z h k =
    ≤ℚ_by _ _ ((y -ℚ x) *ℚ z +ℚ (y -ℚ x)) (search (NonNegative-+ℚ, NonNegative-*ℚ, ≤ℚ-sub))
    (ring (x ∷ y ∷ z ∷ []) (λ ρ p q r. simp (p, q, r, reads) (same_form _ _ _ refl)))

-- numbers from fractions: equal by cross-multiplication
abbrev sixth : Fraction
sixth = record { num = pos 1; den = pos 6; den_positive = omega (arith, ints) }

abbrev tenth : Fraction
tenth = record { num = pos 1; den = pos 10; den_positive = omega (arith, ints) }

abbrev four_fifteenths : Fraction
four_fifteenths = record { num = pos 4; den = pos 15; den_positive = omega (arith, ints) }

sixth_and_tenth : ratio sixth +ℚ ratio tenth ≡ ratio four_fifteenths
sixth_and_tenth = ratio-add sixth tenth ∙ ratio_same _ four_fifteenths refl

-- a fraction in lowest terms is that of its number
lowest_read : (f : Fraction) (x : ℚ) → IsReduced f → x ≡ ratio f → lowest x ≡ f
lowest_read f x h e = rw e (lowest-of_reduced f h)

-- a floor by its two bounds
floor_is : (x : ℚ) → of_ℤ (negsuc 0) ≤ℚ x → x <ℚ of_ℤ (pos 0) → floor x ≡ negsuc 0
floor_is x h k = sym (floor_unique x (negsuc 0) h k)

-- sums by index
combined : (n : ℕ) (f g : ℕ → ℚ) (c : ℚ) → sum_ℚ n (λ i. f i +ℚ g i *ℚ c) ≡ sum_ℚ n f +ℚ sum_ℚ n g *ℚ c
combined n f g c = rw (sum_ℚ-+ℚ n f (λ i. g i *ℚ c), sum_ℚ-*ℚ n g c) refl

-- a row operation on an equation
row_step : (k : ℚ) (row pivot x : List ℚ) (b c : ℚ) → dot x row ≡ b → dot x pivot ≡ c → dot x (add row (scale k pivot)) ≡ b +ℚ k *ℚ c
row_step k row pivot x b c e h = rw (dot-add, dot-scale, e, h)
