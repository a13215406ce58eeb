-- Lists of whole numbers as vectors: what is missing at the end counts as 0.
use Rattle.std.specs.Prelude.{◌≡◌, ◌≤◌, ℤ, pos, ◌+ℤ◌, ◌*ℤ◌, List, [], ◌∷◌, ◌++◌, length}
use Rattle.std.proofs.Common.{refl, ap, arith}

abbrev pub dot_ℤ : List ℤ → List ℤ → ℤ
dot_ℤ [] ys = pos 0
dot_ℤ (x ∷ xs) [] = pos 0
dot_ℤ (x ∷ xs) (y ∷ ys) = x *ℤ y +ℤ dot_ℤ xs ys

abbrev pub scale_ℤ : ℤ → List ℤ → List ℤ
scale_ℤ k [] = []
scale_ℤ k (x ∷ xs) = (k *ℤ x) ∷ scale_ℤ k xs

pub dot_ℤ-nil : (xs : List ℤ) → dot_ℤ xs [] ≡ pos 0
dot_ℤ-nil [] = refl
dot_ℤ-nil (x ∷ xs) = refl

-- numbers behind the last factor are not seen
pub dot_ℤ-longer : (cs x y : List ℤ) → length cs ≤ length x → dot_ℤ cs (x ++ y) ≡ dot_ℤ cs x
dot_ℤ-longer [] x y l = refl
dot_ℤ-longer (c ∷ cs) [] y l = absurd (omega arith)
dot_ℤ-longer (c ∷ cs) (a ∷ x) y l = ap (λ v. c *ℤ a +ℤ v) (dot_ℤ-longer cs x y (omega arith))
