-- Where a number is 0, a pivot has nothing to compute.
use Rattle.std.proofs.Common.{◌≡◌, true, ◌||◌, [], ◌∷◌, IsTrue, pos, refl, sym, ◌∙◌, ap}
use Rattle.std.proofs.lemmas.Bool.{and_from}
use Rattle.dc_math.specs.Rational.{ℚ, of_ℤ, ◌-ℚ◌, ◌*ℚ◌, ◌+ℚ◌, neg_ℚ, zero-*ℚ, zero-+ℚ}
use Rattle.dc_math.specs.RationalRing.{ring, reads, read_nat, same_form, linear₁}
use Rattle.dc_math.specs.Inverse.{inverse, ◌/ℚ◌}
use Rattle.dc_math.specs.Tests.{is_zero, eq_ℚ_true}
use Rattle.dc_frac.specs.Fits.{fits, quotient_fits, product_fits, sum_fits}
use Rattle.dc_frac.proofs.ZeroSums.{left_zero, fits-zero}
use Rattle.dc_lp.proofs.Belows.{or_true}
use Rattle.dc_start.specs.Changes.{step_fits}

pub quotient-zero : (x by : ℚ) → is_zero x ≡ true → IsTrue (quotient_fits x by) × (x ≡ x /ℚ by)
quotient-zero x by h =
    let e : x ≡ of_ℤ (pos 0) = eq_ℚ_true x (of_ℤ (pos 0)) h in
    let z : x *ℚ inverse by ≡ of_ℤ (pos 0) = ap (λ y. y *ℚ inverse by) e ∙ zero-*ℚ (inverse by) in
    (ap fits z ∙ fits-zero, e ∙ sym z)

nothing_taken : (factor x y : ℚ) → x ≡ of_ℤ (pos 0) → y ≡ y +ℚ neg_ℚ (factor *ℚ x)
nothing_taken factor x y e = linear₁ factor _ _ _ _ e (ring (factor ∷ x ∷ y ∷ []) (λ ρ p₁ p₂ p₃. simp (p₁, p₂, p₃, read_nat ρ, reads) (same_form _ _ _ refl)))

pub step-zero : (factor x y : ℚ) → is_zero x ≡ true → IsTrue (step_fits factor x y) × (y ≡ y -ℚ factor *ℚ x)
step-zero factor x y h = (rw h refl, nothing_taken factor x y (eq_ℚ_true x (of_ℤ (pos 0)) h))

filled : (factor x y p r : ℚ) → y ≡ of_ℤ (pos 0) → p ≡ factor *ℚ x → r ≡ neg_ℚ p → r ≡ y +ℚ neg_ℚ (factor *ℚ x)
filled factor x y p r e f g = g ∙ ap neg_ℚ f ∙ sym (zero-+ℚ (neg_ℚ (factor *ℚ x))) ∙ ap (λ z. z +ℚ neg_ℚ (factor *ℚ x)) (sym e)

-- where y is 0, the negated product is the difference, and both fit alike
pub step-filled : (factor x y p r : ℚ) → is_zero y ≡ true → product_fits factor x ≡ true → p ≡ factor *ℚ x → r ≡ neg_ℚ p → fits r ≡ true
    → IsTrue (step_fits factor x y) × (r ≡ y -ℚ factor *ℚ x)
step-filled factor x y p r z f e g h =
    let y0 : y ≡ of_ℤ (pos 0) = eq_ℚ_true y (of_ℤ (pos 0)) z in
    let k : fits (neg_ℚ (factor *ℚ x)) ≡ true = ap (λ w. fits (neg_ℚ w)) (sym e) ∙ ap fits (sym g) ∙ h in
    let d : sum_fits y (neg_ℚ (factor *ℚ x)) ≡ true = ap (λ w. sum_fits w (neg_ℚ (factor *ℚ x))) y0 ∙ left_zero (neg_ℚ (factor *ℚ x)) ∙ k in
    (ap (λ b. is_zero x || b) (and_from (product_fits factor x) (sum_fits y (neg_ℚ (factor *ℚ x))) f d) ∙ or_true (is_zero x), filled factor x y p r y0 e g)

pub ruleset changes = (quotient-zero, step-zero)
