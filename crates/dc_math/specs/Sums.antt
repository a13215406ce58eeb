-- Finite sums of rational numbers by index, and the numbers of a list by index.
use Rattle.std.specs.Prelude.{◌≡◌, ℕ, zero, suc, ◌<◌, pos, List, [], ◌∷◌}
use Rattle.std.proofs.Common.{refl, ◌∙◌, ap, arith}
use Rattle.dc_math.specs.Rational.{ℚ, ◌+ℚ◌, ◌*ℚ◌, neg_ℚ, of_ℤ, ◌≤ℚ◌, ≤ℚ_refl, +ℚ_comm, +ℚ_assoc}
use Rattle.dc_math.specs.RationalRing.{ring, reads, read_nat, same_form, +ℚ-≤ℚ}
use Rattle.dc_math.specs.Field.{sum_to}
use Rattle.dc_math.specs.FieldSums.{sum-same, sum-add, sum-mul, sum-swap}
use Rattle.dc_math.specs.FieldOrder.{sum-zero}
use Rattle.dc_math.specs.RationalField.{rationals}

-- f 0 + .. + f (n - 1)
abbrev pub sum_ℚ : ℕ → (ℕ → ℚ) → ℚ
sum_ℚ n f = sum_to ℚ rationals n f

pub sum_ℚ_none : (f : ℕ → ℚ) → sum_ℚ 0 f ≡ of_ℤ (pos 0)
unfolding sum_to
sum_ℚ_none f = refl

pub sum_ℚ_last : (n : ℕ) (f : ℕ → ℚ) → sum_ℚ (suc n) f ≡ sum_ℚ n f +ℚ f n
unfolding sum_to
sum_ℚ_last n f = refl

pub sum_ℚ_first : (n : ℕ) (f : ℕ → ℚ) → sum_ℚ (suc n) f ≡ f 0 +ℚ sum_ℚ n (λ i. f (suc i))
unfolding sum_to
sum_ℚ_first zero f = +ℚ_comm (of_ℤ (pos 0)) (f 0)
sum_ℚ_first (suc n) f = ap (λ x. x +ℚ f (suc n)) (sum_ℚ_first n f) ∙ +ℚ_assoc (f 0) (sum_ℚ n (λ i. f (suc i))) (f (suc n))

pub sum_ℚ_same : (n : ℕ) (f g : ℕ → ℚ) → ((i : ℕ) → i < n → f i ≡ g i) → sum_ℚ n f ≡ sum_ℚ n g
sum_ℚ_same n f g h = sum-same ℚ rationals n f g h

pub sum_ℚ_zero : (n : ℕ) (f : ℕ → ℚ) → ((i : ℕ) → i < n → f i ≡ of_ℤ (pos 0)) → sum_ℚ n f ≡ of_ℤ (pos 0)
sum_ℚ_zero n f h = sum-zero ℚ rationals n f h

pub sum_ℚ-+ℚ : (n : ℕ) (f g : ℕ → ℚ) → sum_ℚ n (λ i. f i +ℚ g i) ≡ sum_ℚ n f +ℚ sum_ℚ n g
sum_ℚ-+ℚ n f g = sum-add ℚ rationals n f g

pub sum_ℚ-*ℚ : (n : ℕ) (f : ℕ → ℚ) (c : ℚ) → sum_ℚ n (λ i. f i *ℚ c) ≡ sum_ℚ n f *ℚ c
sum_ℚ-*ℚ n f c = sum-mul ℚ rationals n f c

pub sum_ℚ-neg_ℚ : (n : ℕ) (f : ℕ → ℚ) → sum_ℚ n (λ i. neg_ℚ (f i)) ≡ neg_ℚ (sum_ℚ n f)
unfolding sum_to
sum_ℚ-neg_ℚ zero f = ring [] (λ ρ. simp (read_nat ρ, reads) (same_form _ _ _ refl))
sum_ℚ-neg_ℚ (suc n) f = ap (λ x. x +ℚ neg_ℚ (f n)) (sum_ℚ-neg_ℚ n f) ∙ apart (sum_ℚ n f) (f n)
  where
    apart : (x y : ℚ) → neg_ℚ x +ℚ neg_ℚ y ≡ neg_ℚ (x +ℚ y)
    apart x y = ring (x ∷ y ∷ []) (λ ρ p q. simp (p, q, reads) (same_form _ _ _ refl))

pub sum_ℚ_swap : (m n : ℕ) (f : ℕ → ℕ → ℚ) → sum_ℚ m (λ i. sum_ℚ n (f i)) ≡ sum_ℚ n (λ k. sum_ℚ m (λ i. f i k))
sum_ℚ_swap m n f = sum-swap ℚ rationals m n f

pub sum_ℚ-≤ℚ : (n : ℕ) (f g : ℕ → ℚ) → ((i : ℕ) → i < n → f i ≤ℚ g i) → sum_ℚ n f ≤ℚ sum_ℚ n g
unfolding sum_to
sum_ℚ-≤ℚ zero f g h = ≤ℚ_refl (of_ℤ (pos 0))
sum_ℚ-≤ℚ (suc n) f g h = +ℚ-≤ℚ _ _ _ _ (sum_ℚ-≤ℚ n f g (λ i l. h i (omega arith))) (h n (omega arith))

-- ---- a list by index
-- the number at an index, and 0 past the end
abbrev pub at : List ℚ → ℕ → ℚ
at [] i = of_ℤ (pos 0)
at (x ∷ xs) zero = x
at (x ∷ xs) (suc i) = at xs i
