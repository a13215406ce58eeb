-- Numbers that obey Pascal's rule: one division gives the next, and none passes a power of 2.
use Rattle.std.specs.Prelude.{◌≡◌, ℕ, zero, suc, ◌+◌, ◌-◌, ◌*◌, ◌/◌, ◌^◌, ◌≤◌}
use Rattle.std.proofs.Common.{◌∙◌, ap, arith}
use Rattle.std.proofs.Math.Nat.{pow-succ', pow-zero, mul-div_cancel_left}

-- the numbers of choices of at most k of n things, repeats allowed: the binomial coefficient of n + k over k
pub record IsPascal (c : ℕ → ℕ → ℕ) : Type 0 where
  pub none : (k : ℕ) → c 0 k ≡ 1
  pub empty : (n : ℕ) → c n 0 ≡ 1
  pub rule : (n k : ℕ) → c (suc n) (suc k) ≡ c (suc n) k + c n (suc k)

up : (n k x y w : ℕ) → suc k * y ≡ suc (n + k) * x → suc n * w ≡ suc (n + k) * x → suc k * (w + y) ≡ suc (suc n + k) * w
up n k x y w f g = omega arith

wide : (n k x y w : ℕ) → suc k * y ≡ suc (n + k) * x → suc n * w ≡ suc (n + k) * x → suc n * (w + y) ≡ suc (n + suc k) * y
wide n k x y w f g = omega arith

module _ (c : ℕ → ℕ → ℕ) (pascal : IsPascal c) where
  wider : (n : ℕ) → ((k : ℕ) → suc k * c n (suc k) ≡ suc (n + k) * c n k) → (k : ℕ) → suc n * c (suc n) k ≡ suc (n + k) * c n k
  wider n h zero = rw (pascal.empty n, pascal.empty (suc n)) (omega arith)
  wider n h (suc k) = ap (λ z. suc n * z) (pascal.rule n k) ∙ wide n k (c n k) (c n (suc k)) (c (suc n) k) (h k) (wider n h k)

  -- by a product and a division, the number for one more
  pub higher : (n k : ℕ) → suc k * c n (suc k) ≡ suc (n + k) * c n k
  higher zero k = rw (pascal.none k, pascal.none (suc k)) (omega arith)
  higher (suc n) k = ap (λ z. suc k * z) (pascal.rule n k) ∙ up n k (c n k) (c n (suc k)) (c (suc n) k) (higher n k) (wider n (higher n) k)

  -- the same as a quotient, from any way to say the number before
  pub next : (n k x : ℕ) → 1 ≤ k → x ≡ c n (k - 1) → x * (n + k) / k ≡ c n k
  next n zero x h e = absurd (omega arith)
  next n (suc k) x h e = ap (λ y. y / suc k) product ∙ mul-div_cancel_left (c n (suc k)) h
    where
      product : x * (n + suc k) ≡ suc k * c n (suc k)
      product = let a : x ≡ c n k = e ∙ ap (c n) (let q : suc k - 1 ≡ k = omega arith in q) in turn x (c n k) (c n (suc k)) a (higher n k)
        where
          turn : (x y z : ℕ) → x ≡ y → suc k * z ≡ suc (n + k) * y → x * (n + suc k) ≡ suc k * z
          turn x y z a b = rw a (omega arith)

  -- at least 1 doubles to at least 1
  some : (n : ℕ) → 1 ≤ 2 ^ n
  some zero = rw (pow-zero 2) (omega arith)
  some (suc n) = rw (pow-succ' 2 n) (let h = some n in omega arith)

  pub doubled : (n k : ℕ) → c n k ≤ 2 ^ (n + k)
  doubled zero k = let a = pascal.none k in let b = some (0 + k) in omega arith
  doubled (suc n) zero = let a = pascal.empty (suc n) in let b = some (suc n + 0) in omega arith
  doubled (suc n) (suc k) =
      let a = pascal.rule n k in let b = doubled (suc n) k in let d = doubled n (suc k) in
      let e : 2 ^ (suc n + suc k) ≡ 2 * 2 ^ (suc n + k) = ap (λ i. 2 ^ i) (let q : suc n + suc k ≡ suc (suc n + k) = omega arith in q) ∙ pow-succ' 2 (suc n + k) in
      let f : 2 ^ (n + suc k) ≡ 2 ^ (suc n + k) = ap (λ i. 2 ^ i) (let q : n + suc k ≡ suc n + k = omega arith in q) in
      omega arith
