-- The number of choices goes by Pascal's rule, so one division gives the next number.
use Rattle.std.specs.Prelude.{◌≡◌, ℕ, zero, suc, ◌+◌, ◌-◌, ◌*◌, ◌/◌, ◌≤◌, List, ◌∷◌, map, length, refl}
use Rattle.std.proofs.Common.{◌∙◌, ap₂, arith, length-append}
use Rattle.std.proofs.lemmas.List.{length-map}
use Rattle.dc_math.specs.Pascal as pascals
use Rattle.dc_math.specs.Pascal.{IsPascal}
use Rattle.dc_poly.proofs.Sizes.{mul_both}
use Rattle.dc_handelman.specs.Choices.{Choice, widened, of_size, below, choices_of}

-- the number does not depend on where the numbers begin
widened-same : (a b : ℕ) (f g : ℕ → List Choice) → ((k : ℕ) → length (f k) ≡ length (g k)) → (k : ℕ) → length (widened a f k) ≡ length (widened b g k)
widened-same a b f g h zero = refl
widened-same a b f g h (suc k) =
    length-append (map (λ c. a ∷ c) (widened a f k)) (f (suc k))
    ∙ ap₂ ◌+◌ (length-map (widened a f k) (λ c. a ∷ c) ∙ widened-same a b f g h k) (h (suc k))
    ∙ back
  where
    back : length (widened b g k) + length (g (suc k)) ≡ length (widened b g (suc k))
    back = (let x = length-append (map (λ c. b ∷ c) (widened b g k)) (g (suc k)) in let y = length-map (widened b g k) (λ c. b ∷ c) in omega arith)

same : (n a b k : ℕ) → length (of_size n a k) ≡ length (of_size n b k)
same zero a b zero = refl
same zero a b (suc k) = refl
same (suc n) a b k = widened-same a b (of_size n (suc a)) (of_size n (suc b)) (same n (suc a) (suc b)) k

below_more : (n k : ℕ) → length (below n (suc k)) ≡ length (below n k) + length (of_size n 0 k)
below_more n k = length-append (below n k) (of_size n 0 k)

next_more : (n k : ℕ) → length (of_size (suc n) 0 (suc k)) ≡ length (of_size (suc n) 0 k) + length (of_size n 0 (suc k))
next_more n k =
    let a = length-append (map (λ c. 0 ∷ c) (of_size (suc n) 0 k)) (of_size n 1 (suc k)) in
    let b = length-map (of_size (suc n) 0 k) (λ c. 0 ∷ c) in
    let d = same n 1 0 (suc k) in
    omega arith

none_taken : (n : ℕ) → length (of_size n 0 0) ≡ 1
none_taken zero = refl
none_taken (suc n) = refl

-- with one number more and of one size: as many as of at most that size
level_is : (n k : ℕ) → length (of_size (suc n) 0 k) ≡ length (choices_of n k)
level_is n zero = let a = none_taken n in let b = below_more n 0 in omega arith
level_is n (suc k) = let a = next_more n k in let b = below_more n (suc k) in let c = level_is n k in omega arith

rule : (n k : ℕ) → length (choices_of (suc n) (suc k)) ≡ length (choices_of (suc n) k) + length (choices_of n (suc k))
rule n k = let a = below_more (suc n) (suc k) in let b = level_is n (suc k) in omega arith

no_numbers : (k : ℕ) → length (choices_of 0 k) ≡ 1
no_numbers zero = refl
no_numbers (suc k) = let a = below_more 0 (suc k) in let b = no_numbers k in omega arith

pub no_factors : (n : ℕ) → length (choices_of n 0) ≡ 1
no_factors zero = refl
no_factors (suc n) = let a = below_more (suc n) 0 in let b = level_is n 0 in let c = no_factors n in omega arith

abbrev count : ℕ → ℕ → ℕ
count n k = length (choices_of n k)

pascal : IsPascal count
pascal = record { none = no_numbers; empty = no_factors; rule = rule }

higher : (n k : ℕ) → suc k * length (choices_of n (suc k)) ≡ suc (n + k) * length (choices_of n k)
higher n k = pascals.higher count pascal n k

pub next : (n k x : ℕ) → 1 ≤ k → x ≡ length (choices_of n (k - 1)) → x * (n + k) / k ≡ length (choices_of n k)
next n k x h e = pascals.next count pascal n k x h e

-- ---- a bound for the numbers that are asked for
next_small : (n k x y : ℕ) → n ≤ 2048 → k ≤ 2 → suc k * y ≡ suc (n + k) * x → y ≤ 2051 * x
next_small n k x y a b h = let f = mul_both (suc (n + k)) 2051 x x (omega arith) (omega arith) in let g = mul_both 1 (suc k) y y (omega arith) (omega arith) in omega arith

pub count_small : (n k : ℕ) → n ≤ 2048 → k ≤ 3 → length (choices_of n k) ≤ 2051 * (2051 * 2051)
count_small n zero a b = let c = no_factors n in omega arith
count_small n (suc zero) a b = let c = no_factors n in let d = next_small n 0 _ _ a (omega arith) (higher n 0) in omega arith
count_small n (suc (suc zero)) a b =
    let c = no_factors n in let d = next_small n 0 _ _ a (omega arith) (higher n 0) in let e = next_small n 1 _ _ a (omega arith) (higher n 1) in omega arith
count_small n (suc (suc (suc zero))) a b =
    let c = no_factors n in
    let d = next_small n 0 _ _ a (omega arith) (higher n 0) in
    let e = next_small n 1 _ _ a (omega arith) (higher n 1) in
    let f = next_small n 2 _ _ a (omega arith) (higher n 2) in
    omega arith
count_small n (suc (suc (suc (suc k)))) a b = absurd (omega arith)
