-- Vectors in pairs: each unknown is the difference of two numbers that are not negative, and behind them stand the multipliers.
use Rattle.std.specs.Prelude.{◌≡◌, ℕ, zero, suc, ◌+◌, ◌*◌, ◌≤◌, ◌<◌, Bool, true, false, cond, [], ◌∷◌, pos}
use Rattle.std.proofs.Common.{refl, sym, ◌∙◌, ap, ap₂, arith}
use Rattle.dc_math.specs.Rational.{ℚ, ◌+ℚ◌, ◌*ℚ◌, ◌-ℚ◌, neg_ℚ, of_ℤ, le_ℚ, ≤ℚ_refl, ≤ℚ-sub, <ℚ-≤ℚ, NonNegative, zero-+ℚ}
use Rattle.dc_math.specs.RationalRing.{ring, reads, read_nat, same_form}
use Rattle.dc_math.specs.Tests.{le_ℚ_true, le_ℚ_false}
use Rattle.dc_math.specs.Sums.{sum_ℚ, sum_ℚ_none, sum_ℚ_first, sum_ℚ_same}

-- ---- a number in two
abbrev pub upper : ℚ → ℚ
upper v = cond (le_ℚ (of_ℤ (pos 0)) v) v (of_ℤ (pos 0))

abbrev pub lower : ℚ → ℚ
lower v = cond (le_ℚ (of_ℤ (pos 0)) v) (of_ℤ (pos 0)) (of_ℤ (pos 0) -ℚ v)

pub upper_sign : (v : ℚ) → NonNegative (upper v)
upper_sign v = by (le_ℚ (of_ℤ (pos 0)) v) refl
  where
    by : (b : Bool) → le_ℚ (of_ℤ (pos 0)) v ≡ b → NonNegative (cond b v (of_ℤ (pos 0)))
    by true e = le_ℚ_true (of_ℤ (pos 0)) v e
    by false e = ≤ℚ_refl (of_ℤ (pos 0))

pub lower_sign : (v : ℚ) → NonNegative (lower v)
lower_sign v = by (le_ℚ (of_ℤ (pos 0)) v) refl
  where
    by : (b : Bool) → le_ℚ (of_ℤ (pos 0)) v ≡ b → NonNegative (cond b (of_ℤ (pos 0)) (of_ℤ (pos 0) -ℚ v))
    by true e = ≤ℚ_refl (of_ℤ (pos 0))
    by false e = ≤ℚ-sub v (of_ℤ (pos 0)) (<ℚ-≤ℚ v (of_ℤ (pos 0)) (le_ℚ_false (of_ℤ (pos 0)) v e))

pub halves : (v : ℚ) → upper v -ℚ lower v ≡ v
halves v = by (le_ℚ (of_ℤ (pos 0)) v)
  where
    by : (b : Bool) → cond b v (of_ℤ (pos 0)) -ℚ cond b (of_ℤ (pos 0)) (of_ℤ (pos 0) -ℚ v) ≡ v
    by true = ring (v ∷ []) (λ ρ i. simp (i, read_nat ρ, reads) (same_form _ _ _ refl))
    by false = ring (v ∷ []) (λ ρ i. simp (i, read_nat ρ, reads) (same_form _ _ _ refl))

-- ---- indices: behind u pairs stands index j
abbrev pub behind : ℕ → ℕ → ℕ
behind zero j = j
behind (suc u) j = suc (suc (behind u j))

pub behind-is : (u j : ℕ) → behind u j ≡ u * 2 + j
behind-is zero j = omega arith
behind-is (suc u) j = let e = behind-is u j in omega arith

pub plus_index : (k : ℕ) → behind k 0 ≡ k * 2
plus_index k = behind-is k 0 ∙ (let e : k * 2 + 0 ≡ k * 2 = omega arith in e)

pub minus_index : (k : ℕ) → behind k 1 ≡ suc (k * 2)
minus_index k = behind-is k 1 ∙ (let e : k * 2 + 1 ≡ suc (k * 2) = omega arith in e)

-- whose an index is: the first or the second of an unknown, or one behind all pairs
pub data Owner (u j : ℕ) : Type 0 where
  first_of : (k : ℕ) → k < u → j ≡ k * 2 → Owner u j
  second_of : (k : ℕ) → k < u → j ≡ suc (k * 2) → Owner u j
  after : u * 2 ≤ j → Owner u j

pub owner : (u j : ℕ) → Owner u j
owner zero j = after (omega arith)
owner (suc u) zero = first_of 0 (omega arith) (omega arith)
owner (suc u) (suc zero) = second_of 0 (omega arith) (omega arith)
owner (suc u) (suc (suc j)) = by (owner u j)
  where
    by : Owner u j → Owner (suc u) (suc (suc j))
    by (first_of k l e) = first_of (suc k) (omega arith) (omega arith)
    by (second_of k l e) = second_of (suc k) (omega arith) (omega arith)
    by (after l) = after (omega arith)

-- ---- vectors
pub vector : ℕ → (ℕ → ℚ) → (ℕ → ℚ) → ℕ → ℚ
vector zero a b j = b j
vector (suc u) a b zero = upper (a 0)
vector (suc u) a b (suc zero) = lower (a 0)
vector (suc u) a b (suc (suc j)) = vector u (λ k. a (suc k)) b j

pub vector_sign : (u j : ℕ) (a b : ℕ → ℚ) → ((k : ℕ) → NonNegative (b k)) → NonNegative (vector u a b j)
unfolding vector
vector_sign zero j a b h = h j
vector_sign (suc u) zero a b h = upper_sign (a 0)
vector_sign (suc u) (suc zero) a b h = lower_sign (a 0)
vector_sign (suc u) (suc (suc j)) a b h = vector_sign u j (λ k. a (suc k)) b h

-- ---- sums
pub sum_split : (m n : ℕ) (g : ℕ → ℚ) → sum_ℚ (m + n) g ≡ sum_ℚ m g +ℚ sum_ℚ n (λ k. g (m + k))
sum_split zero n g =
    ap (λ i. sum_ℚ i g) (let e : 0 + n ≡ n = omega arith in e)
    ∙ sum_ℚ_same n g (λ k. g (0 + k)) (λ k l. ap g (let e : k ≡ 0 + k = omega arith in e))
    ∙ plain (sum_ℚ 0 g) (sum_ℚ n (λ k. g (0 + k))) (sum_ℚ_none g)
  where
    plain : (x y : ℚ) → x ≡ of_ℤ (pos 0) → y ≡ x +ℚ y
    plain x y e = sym (zero-+ℚ y) ∙ ap (λ z. z +ℚ y) (sym e)
sum_split (suc m) n g =
    ap (λ i. sum_ℚ i g) (let e : suc m + n ≡ suc (m + n) = omega arith in e)
    ∙ sum_ℚ_first (m + n) g
    ∙ ap (λ x. g 0 +ℚ x) (sum_split m n (λ i. g (suc i)))
    ∙ turn (g 0) (sum_ℚ m (λ i. g (suc i))) (sum_ℚ n (λ k. g (suc (m + k))))
    ∙ ap₂ ◌+ℚ◌ (sym (sum_ℚ_first m g)) (sum_ℚ_same n (λ k. g (suc (m + k))) (λ k. g (suc m + k)) (λ k l. ap g (let e : suc (m + k) ≡ suc m + k = omega arith in e)))
  where
    turn : (x y z : ℚ) → x +ℚ (y +ℚ z) ≡ (x +ℚ y) +ℚ z
    turn x y z = ring (x ∷ y ∷ z ∷ []) (λ ρ i j k. simp (i, j, k, reads) (same_form _ _ _ refl))

-- a sum over a vector is one over the unknowns and the multipliers
pub vector_sum : (u n : ℕ) (c a b : ℕ → ℚ) → ((k : ℕ) → k < u → c (behind k 1) ≡ neg_ℚ (c (behind k 0)))
    → sum_ℚ (behind u n) (λ j. c j *ℚ vector u a b j) ≡ sum_ℚ u (λ k. c (behind k 0) *ℚ a k) +ℚ sum_ℚ n (λ k. c (behind u k) *ℚ b k)
unfolding vector
vector_sum zero n c a b h = sym (zero-+ℚ _) ∙ ap (λ z. z +ℚ sum_ℚ n (λ k. c k *ℚ b k)) (sym (sum_ℚ_none (λ k. c (behind k 0) *ℚ a k)))
vector_sum (suc u) n c a b h =
    sum_ℚ_first (suc (behind u n)) (λ j. c j *ℚ vector (suc u) a b j)
    ∙ ap (λ z. c 0 *ℚ upper (a 0) +ℚ z) (sum_ℚ_first (behind u n) (λ j. c (suc j) *ℚ vector (suc u) a b (suc j)))
    ∙ ap (λ z. c 0 *ℚ upper (a 0) +ℚ (c 1 *ℚ lower (a 0) +ℚ z)) (vector_sum u n (λ j. c (suc (suc j))) (λ k. a (suc k)) b (λ k l. h (suc k) (omega arith)))
    ∙ shape (c 0) (c 1) (upper (a 0)) (lower (a 0)) (a 0) _ _ (h 0 (omega arith)) (halves (a 0))
    ∙ ap (λ z. z +ℚ sum_ℚ n (λ k. c (behind (suc u) k) *ℚ b k)) (sym (sum_ℚ_first u (λ k. c (behind k 0) *ℚ a k)))
  where
    turn : (c p q y z : ℚ) → c *ℚ p +ℚ (neg_ℚ c *ℚ q +ℚ (y +ℚ z)) ≡ (c *ℚ (p -ℚ q) +ℚ y) +ℚ z
    turn c p q y z = ring (c ∷ p ∷ q ∷ y ∷ z ∷ []) (λ ρ i j k l m. simp (i, j, k, l, m, reads) (same_form _ _ _ refl))

    shape : (c d p q a y z : ℚ) → d ≡ neg_ℚ c → p -ℚ q ≡ a → c *ℚ p +ℚ (d *ℚ q +ℚ (y +ℚ z)) ≡ (c *ℚ a +ℚ y) +ℚ z
    shape c d p q a y z e f = ap (λ w. c *ℚ p +ℚ (w *ℚ q +ℚ (y +ℚ z))) e ∙ turn c p q y z ∙ ap (λ w. (c *ℚ w +ℚ y) +ℚ z) f
