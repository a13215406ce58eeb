-- The first state of a replay.
use Rattle.std.specs.Prelude.{◌≡◌, ℕ, suc, ◌+◌, ◌-◌, ◌<◌, ◌≤◌, max, List, [], ◌∷◌, ◌++◌, length, take, get_or, replicate, ℤ, pos, refl}
use Rattle.std.proofs.Common.{sym, ◌∙◌, ap, ap₂, arith}
use Rattle.std.proofs.lemmas.List.{take_all}
use Rattle.std.proofs.Math.Seq.{take-suc}

pub one_wider : (xs ys zs : List ℤ) (i : ℕ) (z : ℤ) → i < length xs → z ≡ get_or xs i z → ys ≡ take i xs → zs ≡ ys ++ z ∷ [] → zs ≡ take (i + 1) xs
one_wider xs ys zs i z h q e f =
    f ∙ ap (λ l. l ++ z ∷ []) e ∙ ap (λ w. take i xs ++ w ∷ []) q ∙ sym (take-suc xs i z h) ∙ ap (λ j. take j xs) (let k : suc i ≡ i + 1 = omega arith in k)

pub all_wide : (xs ys : List ℤ) (i : ℕ) → length xs ≤ i → ys ≡ take i xs → ys ≡ xs
all_wide xs ys i h e = e ∙ take_all i xs h

pub filled : (xs ys zs : List ℤ) (n m : ℕ) → ys ≡ xs → m ≡ max (length ys) n → zs ≡ take m ys ++ replicate (m - length ys) (pos 0) → zs ≡ xs ++ replicate (n - length xs) (pos 0)
filled xs ys zs n m e h k =
    k ∙ ap₂ ◌++◌ (take_all m ys (omega arith) ∙ e) (ap (λ j. replicate j (pos 0)) (let l = ap length e in let q : m - length ys ≡ n - length xs = omega arith in q))

pub no_length : {A : Type 0} (xs : List A) → length xs ≤ 0 → xs ≡ []
no_length [] h = refl
no_length (x ∷ xs) h = absurd (let e : length (x ∷ xs) ≡ suc (length xs) = refl in omega arith)
