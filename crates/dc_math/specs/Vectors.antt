-- Lists of rational numbers as vectors: what is missing at the end counts as 0.
use Rattle.std.specs.Prelude.{◌≡◌, pos, List, [], ◌∷◌}
use Rattle.std.proofs.Common.{refl, ap₂}
use Rattle.dc_math.specs.Rational.{ℚ, ◌+ℚ◌, ◌*ℚ◌, of_ℤ, *ℚ_comm}
use Rattle.dc_math.specs.RationalRing.{ring, reads, read_nat, same_form}

abbrev pub zero_ℚ : ℚ
zero_ℚ = of_ℤ (pos 0)

abbrev pub dot : List ℚ → List ℚ → ℚ
dot [] ys = zero_ℚ
dot (x ∷ xs) [] = zero_ℚ
dot (x ∷ xs) (y ∷ ys) = x *ℚ y +ℚ dot xs ys

abbrev pub scale : ℚ → List ℚ → List ℚ
scale k [] = []
scale k (x ∷ xs) = (k *ℚ x) ∷ scale k xs

abbrev pub add : List ℚ → List ℚ → List ℚ
add [] ys = ys
add (x ∷ xs) [] = x ∷ xs
add (x ∷ xs) (y ∷ ys) = (x +ℚ y) ∷ add xs ys

pub dot_comm : (xs ys : List ℚ) → dot xs ys ≡ dot ys xs
dot_comm [] [] = refl
dot_comm [] (y ∷ ys) = refl
dot_comm (x ∷ xs) [] = refl
dot_comm (x ∷ xs) (y ∷ ys) = ap₂ ◌+ℚ◌ (*ℚ_comm x y) (dot_comm xs ys)

pub dot-nil : (xs : List ℚ) → dot xs [] ≡ zero_ℚ
dot-nil [] = refl
dot-nil (x ∷ xs) = refl

pub dot-scale : (k : ℚ) (xs ys : List ℚ) → dot xs (scale k ys) ≡ k *ℚ dot xs ys
dot-scale k [] ys = ring (k ∷ []) (λ ρ p. simp (p, read_nat ρ, reads) (same_form _ _ _ refl))
dot-scale k (x ∷ xs) [] = ring (k ∷ []) (λ ρ p. simp (p, read_nat ρ, reads) (same_form _ _ _ refl))
dot-scale k (x ∷ xs) (y ∷ ys) =
    rw (dot-scale k xs ys) (ring (k ∷ x ∷ y ∷ dot xs ys ∷ []) (λ ρ p q r s. simp (p, q, r, s, reads) (same_form _ _ _ refl)))

pub dot-add : (xs ys zs : List ℚ) → dot xs (add ys zs) ≡ dot xs ys +ℚ dot xs zs
dot-add [] ys zs = ring [] (λ ρ. simp (read_nat ρ, reads) (same_form _ _ _ refl))
dot-add (x ∷ xs) [] zs = ring (dot (x ∷ xs) zs ∷ []) (λ ρ p. simp (p, read_nat ρ, reads) (same_form _ _ _ refl))
dot-add (x ∷ xs) (y ∷ ys) [] = ring (dot (x ∷ xs) (y ∷ ys) ∷ []) (λ ρ p. simp (p, read_nat ρ, reads) (same_form _ _ _ refl))
dot-add (x ∷ xs) (y ∷ ys) (z ∷ zs) =
    rw (dot-add xs ys zs) (ring (x ∷ y ∷ z ∷ dot xs ys ∷ dot xs zs ∷ []) (λ ρ p q r s t. simp (p, q, r, s, t, reads) (same_form _ _ _ refl)))
