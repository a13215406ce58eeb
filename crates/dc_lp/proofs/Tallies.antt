-- Sums of the first n numbers of a sequence, and numbers that are 0 but at one index.
use Rattle.std.proofs.Common.{◌≡◌, ◌≢◌, ℕ, zero, suc, ◌+◌, ◌<◌, ◌≤◌, Bool, true, false, cond, ◌==◌, refl, sym, ◌∙◌, ap, arith, inl, inr}
use Rattle.std.proofs.lemmas.Bool.{cases_Bool, eqb-true, eqb-false}

-- f 0 + .. + f (n - 1)
abbrev pub tally : (ℕ → ℕ) → ℕ → ℕ
tally f zero = 0
tally f (suc n) = tally f n + f n

pub tally-none : (f : ℕ → ℕ) (n : ℕ) → ((a : ℕ) → a < n → f a ≡ 0) → tally f n ≡ 0
tally-none f zero h = refl
tally-none f (suc n) h = omega (arith, tally-none f n (λ a l. h a (omega arith)), h n (omega arith))

pub tally-first : (f : ℕ → ℕ) (n : ℕ) → tally f (suc n) ≡ f 0 + tally (λ a. f (suc a)) n
tally-first f zero = omega arith
tally-first f (suc n) = omega (arith, tally-first f n)

pub tally-at_most : (f g h : ℕ → ℕ) (n : ℕ) → ((a : ℕ) → f a ≤ g a + h a) → tally f n ≤ tally g n + tally h n
tally-at_most f g h zero l = omega arith
tally-at_most f g h (suc n) l = omega (arith, tally-at_most f g h n l, l n)

pub tally-same : (f g : ℕ → ℕ) (n : ℕ) → ((a : ℕ) → a < n → f a ≡ g a) → tally f n ≡ tally g n
tally-same f g zero h = refl
tally-same f g (suc n) h = omega (arith, tally-same f g n (λ a l. h a (omega arith)), h n (omega arith))

-- a term is at most the sum
pub tally-term : (f : ℕ → ℕ) (n a : ℕ) → a < n → f a ≤ tally f n
tally-term f zero a l = absurd (omega arith)
tally-term f (suc n) a l = elim (cases_Bool (a == n)) [
  | inl e ↦ (let same : a ≡ n = eqb-true a n e in let s : f a ≡ f n = ap f same in omega (arith, s))
  | inr e ↦ (let ne : a ≢ n = eqb-false a n e in omega (arith, tally-term f n a (omega arith)))
]

-- c where the test is true, and 0 elsewhere
abbrev pub hit : (ℕ → Bool) → ℕ → ℕ → ℕ
hit test c a = cond (test a) c 0

-- a test that is true at one index at most
abbrev pub IsOnce : (ℕ → Bool) → Type 0
IsOnce test = (a b : ℕ) → test a ≡ true → test b ≡ true → a ≡ b

pub once-at : (k : ℕ) → IsOnce (λ a. k == a)
once-at k a b e f = sym (eqb-true k a e) ∙ eqb-true k b f

pub once-from : (k c : ℕ) → IsOnce (λ a. k == c + a)
once-from k c a b e f = let p : k ≡ c + a = eqb-true k (c + a) e in let q : k ≡ c + b = eqb-true k (c + b) f in omega arith

pub tally-hit : (test : ℕ → Bool) (c n : ℕ) → IsOnce test → tally (hit test c) n ≤ c
tally-hit test c zero once = omega arith
tally-hit test c (suc n) once = by (test n) refl (tally-hit test c n once)
  where
    before : test n ≡ true → (a : ℕ) → a < n → hit test c a ≡ 0
    before e a l = or (test a) refl
      where
        or : (b : Bool) → test a ≡ b → cond b c 0 ≡ 0
        or true g = absurd (let q : a ≡ n = once a n g e in omega arith)
        or false g = refl

    by : (b : Bool) → test n ≡ b → tally (hit test c) n ≤ c → tally (hit test c) n + cond b c 0 ≤ c
    by true e r = let z = tally-none (hit test c) n (before e) in omega arith
    by false e r = omega arith
