-- The number that digits write, digit by digit.
use Rattle.std.proofs.Common.{ℕ, zero, suc, ◌+◌, ◌*◌, ◌-◌, ◌<◌, ◌≤◌, List, [], ◌∷◌, length, get_or, drop, fold, arith}

-- the number, where the digits before it wrote n
abbrev pub value_from : ℕ → List ℕ → ℕ
value_from n w = fold (λ m b. m * 10 + (b - 48)) n w

-- it only grows
pub at_least : (n : ℕ) (w : List ℕ) → n ≤ value_from n w
at_least n [] = omega arith
at_least n (b ∷ w) = omega (arith, at_least (n * 10 + (b - 48)) w)

-- a digit that passes a limit makes the whole number pass it
pub passes : (limit n : ℕ) (w : List ℕ) (i : ℕ) → i < length w → limit < n * 10 + (get_or w i 0 - 48) → limit < value_from n (drop i w)
passes limit n [] i h g = absurd (omega arith)
passes limit n (b ∷ w) zero h g = omega (arith, at_least (n * 10 + (b - 48)) w)
passes limit n (b ∷ w) (suc i) h g = passes limit n w i (omega arith) g
