-- The greatest common divisor by binary steps: twos are taken out of numbers, and differences of odd numbers are halved.
use Rattle.std.specs.Prelude.{◌≡◌, ◌⊎◌, ℕ, zero, suc, ◌+◌, ◌-◌, ◌*◌, ◌/◌, ◌%◌, ◌<◌, ◌≤◌, ◌^◌, min}
use Rattle.std.specs.Int.{IsGcd, w64, trailing_zeros, abs_diff}
use Rattle.std.specs.Int.Count.{count_trailing_zeros, under}
use Rattle.std.proofs.Common.{refl, sym, ◌∙◌, ap, subst, arith, inl, inr, mul_comm, mul_assoc, mul-div_cancel, pow_pos, pow-suc, pow-add, mod-eq_of_lt, le-mul_of_pos_right}
use Rattle.std.proofs.lemmas.Bool.{cases_lt}
use Rattle.std.proofs.lemmas.Nat.Gcd.{IsGcd-from_sub, IsGcd-from_zero, IsGcd-from_mod, IsGcd-swap, dvd_refl}
use Rattle.std.proofs.Math.Nat.{dvd-add_iff_right, dvd-mul_right_of_dvd}
use Prim.Native.Nat.{◌∣◌}
use Rattle.dc_math.specs.Gcd.{gcd, gcd_is, gcd-le, gcd-scaled, IsGcd-gcd, Coprime, Coprime-swap, Coprime-*, Coprime_of_dvd, dvd_other}
use Rattle.dc_frac.specs.Parts.{IsOddPart}

-- ---- halvings
abbrev Halved : ℕ → ℕ → Type 0
Halved n t = (q : ℕ) × (n ≡ q * 2 ^ t) × (q % 2 ≡ 1)

halved_by : (n t d : ℕ) → n % 2 ≡ d → 0 < n → (0 < n / 2 → Halved (n / 2) t) → Halved n (under d t)
halved_by n t (suc d) e some h = (n, omega arith, omega arith)
halved_by n t zero e some h =
    let half = h (omega arith) in
    (half.0, twice half.0 half.1, half.2)
  where
    twice : (q : ℕ) → n / 2 ≡ q * 2 ^ t → n ≡ q * 2 ^ suc t
    twice q s =
        let d : n ≡ q * 2 ^ t * 2 = omega (arith, s, e) in
        d ∙ mul_assoc q (2 ^ t) 2 ∙ ap (λ k. q * k) (sym (pow-suc 2 t))

halved : (k n : ℕ) → 0 < n → n < 2 ^ k → Halved n (count_trailing_zeros k n)
unfolding count_trailing_zeros
halved zero n some fits = absurd (omega arith)
halved (suc k) n some fits = halved_by n (count_trailing_zeros k (n / 2)) (n % 2) refl some (λ rest. halved k (n / 2) rest (omega (arith, pow-suc 2 k)))

pub odd_part_is : (n : ℕ) → 0 < n → n < 2 ^ 64 → IsOddPart n (trailing_zeros w64 n) (n / 2 ^ trailing_zeros w64 n)
odd_part_is n some fits = by (trailing_zeros w64 n) (halved 64 n some fits)
  where
    by : (t : ℕ) → Halved n t → IsOddPart n t (n / 2 ^ t)
    by t (q, s, o) =
        let e : n / 2 ^ t ≡ q = ap (λ x. x / 2 ^ t) s ∙ mul-div_cancel q (pow_pos t) in
        record { is = subst (λ m. n ≡ m * 2 ^ t) (sym e) s; odd = subst (λ m. m % 2 ≡ 1) (sym e) o }

-- ---- odd numbers and twos
two_odd : (p : ℕ) → p % 2 ≡ 1 → Coprime 2 p
two_odd p o d u v =
    let e : p ≡ 2 * (p / 2) + 1 = omega arith in
    (dvd-add_iff_right d (dvd-mul_right_of_dvd d u (p / 2))).1 (subst (λ n. d ∣ n) e v)

twos_odd : (p t : ℕ) → p % 2 ≡ 1 → Coprime (2 ^ t) p
twos_odd p zero o = λ d u v. u
twos_odd p (suc t) o = subst (λ n. Coprime n p) (sym (pow-suc 2 t)) (Coprime-* (2 ^ t) 2 p (twos_odd p t o) (two_odd p o))

-- what divides an odd number and a number times twos divides that number
without_twos : (d p q t : ℕ) → p % 2 ≡ 1 → d ∣ p → d ∣ q * 2 ^ t → d ∣ q
without_twos d p q t o u v = dvd_other d (2 ^ t) q (Coprime_of_dvd d p (2 ^ t) u (Coprime-swap _ _ (twos_odd p t o))) (subst (λ n. d ∣ n) (mul_comm q (2 ^ t)) v)

pub IsGcd-twos : (x y t g : ℕ) → y % 2 ≡ 1 → IsGcd x y g → IsGcd (x * 2 ^ t) y g
IsGcd-twos x y t g o h = (dvd-mul_right_of_dvd g h.0 (2 ^ t), h.1, λ d u v. h.2 d (without_twos d y x t o v u) v)

-- ---- a step by the difference of odd numbers
pub record OddSteps (a b x y : ℕ) : Type 0 where
  pub left : x % 2 ≡ 1
  pub right : y % 2 ≡ 1
  pub kept : (g : ℕ) → IsGcd x y g → IsGcd a b g

down : (x y z t g : ℕ) → y % 2 ≡ 1 → y ≤ x → x - y ≡ z * 2 ^ t → IsGcd z y g → IsGcd x y g
down x y z t g o l e h = IsGcd-from_sub x y g l (subst (λ n. IsGcd n y g) (sym e) (IsGcd-twos z y t g o h))

pub first_steps : (a b : ℕ) → a % 2 ≡ 1 → b % 2 ≡ 1 → OddSteps a b a b
first_steps a b o p = record { left = o; right = p; kept = λ g h. h }

pub next_steps : (a b x y n t z m : ℕ) → OddSteps a b x y → n ≡ abs_diff x y → IsOddPart n t z → m ≡ min x y → OddSteps a b z m
next_steps a b x y n t z m s apart p e = by (cases_lt x y)
  where
    by : (x < y) ⊎ (y ≤ x) → OddSteps a b z m
    by (inl h) =
        let same : m ≡ x = omega (arith, e, h) in
        let rest : y - x ≡ z * 2 ^ t = omega (arith, p.is, apart, h) in
        record {
          left = p.odd;
          right = subst (λ k. k % 2 ≡ 1) (sym same) s.left;
          kept = λ g k. s.kept g (IsGcd-swap y x g (down y x z t g s.left (omega (arith, h)) rest (subst (λ n. IsGcd z n g) same k)));
        }
    by (inr h) =
        let same : m ≡ y = omega (arith, e, h) in
        let rest : x - y ≡ z * 2 ^ t = omega (arith, p.is, apart, h) in
        record {
          left = p.odd;
          right = subst (λ k. k % 2 ≡ 1) (sym same) s.right;
          kept = λ g k. s.kept g (down x y z t g s.right h rest (subst (λ n. IsGcd z n g) same k));
        }

pub last_steps : (a b x y : ℕ) → OddSteps a b x y → x ≡ y → x ≡ gcd a b
last_steps a b x y s e = IsGcd-gcd a b x (s.kept x (subst (λ n. IsGcd x n x) e (dvd_refl x, dvd_refl x, λ d u v. u)))

pub smaller_part : (n t z : ℕ) → IsOddPart n t z → z ≤ n
smaller_part n t z p = subst (λ k. z ≤ k) (sym p.is) (le-mul_of_pos_right z (pow_pos t))

-- ---- the twos that both numbers have
gcd-twos : (p q t : ℕ) → p % 2 ≡ 1 → gcd p q ≡ gcd p (q * 2 ^ t)
gcd-twos p q t o =
    let h = gcd_is p q in
    IsGcd-gcd p (q * 2 ^ t) (gcd p q) (h.0, dvd-mul_right_of_dvd _ h.1 (2 ^ t), λ d u v. h.2 d u (without_twos d p q t o u v))

pub gcd-swap : (a b : ℕ) → gcd a b ≡ gcd b a
gcd-swap a b = IsGcd-gcd b a (gcd a b) (IsGcd-swap a b (gcd a b) (gcd_is a b))

put_back : (a b p q i m : ℕ) → a ≡ p * 2 ^ i → b ≡ q * 2 ^ (i + m) → p % 2 ≡ 1 → gcd p q * 2 ^ i ≡ gcd a b
put_back a b p q i m e f o =
    let s = gcd-scaled (2 ^ i) p (q * 2 ^ m) in
    let u : 2 ^ i * p ≡ a = mul_comm (2 ^ i) p ∙ sym e in
    let v : 2 ^ i * (q * 2 ^ m) ≡ b = omega (arith, f, pow-add 2 i m, ap (λ n. q * n) (pow-add 2 i m), mul_assoc q (2 ^ i) (2 ^ m), mul_assoc (2 ^ i) q (2 ^ m), ap (λ n. n * 2 ^ m) (mul_comm q (2 ^ i))) in
    ap (λ n. n * 2 ^ i) (gcd-twos p q m o) ∙ mul_comm (gcd p (q * 2 ^ m)) (2 ^ i) ∙ IsGcd-gcd a b _ (subst (λ n. IsGcd a n (2 ^ i * gcd p (q * 2 ^ m))) v (subst (λ n. IsGcd n (2 ^ i * (q * 2 ^ m)) (2 ^ i * gcd p (q * 2 ^ m))) u s))

pub put_back_left : (a b p q i j : ℕ) → IsOddPart a i p → IsOddPart b j q → i ≤ j → gcd p q * 2 ^ i ≡ gcd a b
put_back_left a b p q i j h k l =
    let e : j ≡ i + (j - i) = omega (arith, l) in
    put_back a b p q i (j - i) h.is (subst (λ n. b ≡ q * 2 ^ n) e k.is) h.odd

pub put_back_right : (a b p q i j : ℕ) → IsOddPart a i p → IsOddPart b j q → j ≤ i → gcd p q * 2 ^ j ≡ gcd a b
put_back_right a b p q i j h k l = ap (λ n. n * 2 ^ j) (gcd-swap p q) ∙ put_back_left b a q p j i k h l ∙ gcd-swap b a

-- what is shifted stays below 2^64
pub shifted_is : (a b n : ℕ) → n ≡ gcd a b → a < 2 ^ 64 → b < 2 ^ 64 → n % 2 ^ 64 ≡ gcd a b
shifted_is a b n e h k =
    let small : gcd a b < 2 ^ 64 = omega (arith, gcd-le a b, h, k) in
    ap (λ m. m % 2 ^ 64) e ∙ mod-eq_of_lt small

-- ---- one step by a remainder
pub gcd-zero : (a b : ℕ) → b ≡ 0 → a ≡ gcd a b
gcd-zero a b e = IsGcd-gcd a b a (IsGcd-from_zero a b e)

pub gcd-rest : (a b r : ℕ) → r ≡ gcd b (a % b) → r ≡ gcd a b
gcd-rest a b r e = IsGcd-gcd a b r (IsGcd-from_mod a b r (subst (λ n. IsGcd b (a % b) n) (sym e) (gcd_is b (a % b))))
