-- A fold that fits is the sum, which fits, and terms that are 0 can be left out.
use Rattle.std.specs.Prelude.{◌≡◌, ◌⊎◌, ℕ, zero, suc, ℤ, pos, Bool, true, false, ◌&&◌, cond, Option, Some, None}
use Rattle.std.specs.Option.{option_and_then}
use Rattle.std.proofs.Common.{refl, sym, ◌∙◌, ap, inl, inr, arith}
use Rattle.std.proofs.lemmas.Bool.{and_from}
use Rattle.std.proofs.lemmas.Option.{same_Some}
use Rattle.dc_math.specs.Rational.{ℚ, ◌+ℚ◌, ◌*ℚ◌, of_ℤ, zero-*ℚ, *ℚ_comm, +ℚ-zero}
use Rattle.dc_math.specs.Sums.{sum_ℚ, sum_ℚ_none, sum_ℚ_last}
use Rattle.dc_frac.specs.Fits.{fits, product_fits, sum_fits}
use Rattle.dc_frac.proofs.FitLaws.{sum-fits}
use Rattle.dc_frac.proofs.ZeroSums.{right_zero, fits-zero, product_fits-zero}
use Rattle.dc_lp.specs.Folds.{added, folded, folded_over, checked}
use Rattle.dc_lp.specs.Laws.{LeavesOut, SumsFit}

pub added-sum : (s : ℚ) (a : ℤ) (x t : ℚ) → added s a x ≡ Some t → t ≡ s +ℚ of_ℤ a *ℚ x
unfolding added
added-sum s a x t e = by (product_fits (of_ℤ a) x && sum_fits s (of_ℤ a *ℚ x)) e
  where
    by : (fits : Bool) → checked fits (s +ℚ of_ℤ a *ℚ x) ≡ Some t → t ≡ s +ℚ of_ℤ a *ℚ x
    by true e = sym (same_Some (s +ℚ of_ℤ a *ℚ x) t e)
    by false e = absurd (cc)

pub folded-sum : (n : ℕ) (a : ℕ → ℤ) (x : ℕ → ℚ) (s : ℚ) → folded n a x ≡ Some s → s ≡ sum_ℚ n (λ k. of_ℤ (a k) *ℚ x k)
unfolding folded
folded-sum zero a x s e = sym (same_Some (of_ℤ (pos 0)) s e) ∙ sym (sum_ℚ_none (λ k. of_ℤ (a k) *ℚ x k))
folded-sum (suc n) a x s e = by (folded n a x) (folded-sum n a x) e
  where
    by : (o : Option ℚ) → ((r : ℚ) → o ≡ Some r → r ≡ sum_ℚ n (λ k. of_ℤ (a k) *ℚ x k)) → option_and_then (λ r. added r (a n) (x n)) o ≡ Some s → s ≡ sum_ℚ (suc n) (λ k. of_ℤ (a k) *ℚ x k)
    by None f g = absurd (cc)
    by (Some r) f g = added-sum r (a n) (x n) s g ∙ ap (λ z. z +ℚ of_ℤ (a n) *ℚ x n) (f r refl) ∙ sym (sum_ℚ_last n (λ k. of_ℤ (a k) *ℚ x k))

-- ---- a sum that exists fits
added-fits : (s : ℚ) (a : ℤ) (x t : ℚ) → added s a x ≡ Some t → fits t ≡ true
unfolding added
added-fits s a x t e = by (product_fits (of_ℤ a) x) (sum_fits s (of_ℤ a *ℚ x)) (sum-fits s (of_ℤ a *ℚ x)) e
  where
    by : (b c : Bool) → (c ≡ true → fits (s +ℚ of_ℤ a *ℚ x) ≡ true) → checked (b && c) (s +ℚ of_ℤ a *ℚ x) ≡ Some t → fits t ≡ true
    by true true f e = ap fits (sym (same_Some (s +ℚ of_ℤ a *ℚ x) t e)) ∙ f refl
    by true false f e = absurd (cc)
    by false c f e = absurd (cc)

pub folded-fits : (n : ℕ) (a : ℕ → ℤ) (x : ℕ → ℚ) (s : ℚ) → folded n a x ≡ Some s → fits s ≡ true
unfolding folded
folded-fits zero a x s e = ap fits (sym (same_Some (of_ℤ (pos 0)) s e)) ∙ fits-zero
folded-fits (suc n) a x s e = by (folded n a x) e
  where
    by : (o : Option ℚ) → option_and_then (λ r. added r (a n) (x n)) o ≡ Some s → fits s ≡ true
    by None g = absurd (cc)
    by (Some r) g = added-fits r (a n) (x n) s g

-- ---- a term that is 0 can be left out
pub added-none : (s : ℚ) (a : ℤ) (x : ℚ) → of_ℤ a *ℚ x ≡ of_ℤ (pos 0) → fits s ≡ true → added s a x ≡ Some s
unfolding added
added-none s a x z h =
    ap (λ b. checked b (s +ℚ of_ℤ a *ℚ x)) (and_from _ _ (product_fits-zero (of_ℤ a) x z) (ap (sum_fits s) z ∙ right_zero s ∙ h))
    ∙ ap Some (ap (λ y. s +ℚ y) z ∙ +ℚ-zero s)

pub zero-term : (a : ℤ) (x : ℚ) → (a ≡ pos 0) ⊎ (x ≡ of_ℤ (pos 0)) → of_ℤ a *ℚ x ≡ of_ℤ (pos 0)
zero-term a x (inl e) = ap (λ b. of_ℤ b *ℚ x) e ∙ zero-*ℚ x
zero-term a x (inr e) = ap (λ y. of_ℤ a *ℚ y) e ∙ *ℚ_comm (of_ℤ a) (of_ℤ (pos 0)) ∙ zero-*ℚ (of_ℤ a)

pub leaves_out : LeavesOut
unfolding folded folded_over
leaves_out test zero a x h = refl
leaves_out test (suc n) a x h = by (leaves_out test n a x (λ k l e. h k (omega arith) e)) (test n) refl
  where
    skips : (o : Option ℚ) → folded n a x ≡ o → of_ℤ (a n) *ℚ x n ≡ of_ℤ (pos 0) → o ≡ option_and_then (λ s. added s (a n) (x n)) o
    skips None e z = refl
    skips (Some s) e z = sym (added-none s (a n) (x n) z (folded-fits n a x s e))

    by : folded_over test n a x ≡ folded n a x → (b : Bool) → test n ≡ b
        → cond b (option_and_then (λ s. added s (a n) (x n)) (folded_over test n a x)) (folded_over test n a x) ≡ option_and_then (λ s. added s (a n) (x n)) (folded n a x)
    by before true e = ap (option_and_then (λ s. added s (a n) (x n))) before
    by before false e = before ∙ skips (folded n a x) refl (zero-term (a n) (x n) (h n (omega arith) e))

pub sums_fit : SumsFit
sums_fit n a x s e = record { value = folded-sum n a x s e; fits = folded-fits n a x s e }
