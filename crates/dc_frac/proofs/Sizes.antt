-- Fractions of naturals are compared by whole parts and remainders.
use Rattle.std.specs.Prelude.{◌≡◌, ℕ, suc, ◌+◌, ◌*◌, ◌/◌, ◌%◌, ◌<◌, ◌≤◌}
use Rattle.std.specs.Ordering.{MatchOrdering}
use Rattle.std.specs.declared.cmp.Ordering.{Ordering}
use Rattle.std.specs.declared.cmp.Ordering.TheVariants.{Less, Equal, Greater}
use Rattle.std.proofs.Common.{arith, sym, ap, subst, ◌∙◌, mul-le-mul_left, mul-le-mul_right, mod-lt, mul_comm, mul_assoc}
use Rattle.std.proofs.Math.Nat.{div-add-mod}

swap : (b q d : ℕ) → (b * q) * d ≡ (d * q) * b
swap b q d = mul_assoc b q d ∙ mul_comm b (q * d) ∙ ap (λ n. n * b) (mul_comm q d)

pub map_ordering : {P P' Q Q' R R' : Type 0} (o : Ordering) → (P → P') → (Q → Q') → (R → R') → MatchOrdering o P Q R → MatchOrdering o P' Q' R'
map_ordering Less f g h m = f m
map_ordering Equal f g h m = g m
map_ordering Greater f g h m = h m

-- the smaller whole part
pub whole_less : (a b c d : ℕ) → 0 < b → 0 < d → a / b < c / d → a * d < c * b
whole_less a b c d hb hd h = by (a / b) (a % b) (c / d) (c % d) (div-add-mod a b) (mod-lt a hb) (div-add-mod c d) h
  where
    by : (p r q s : ℕ) → b * p + r ≡ a → r < b → d * q + s ≡ c → p < q → a * d < c * b
    by p r q s e l f k =
        let n₁ : b * suc p ≤ b * q = mul-le-mul_left b k in
        let n₂ : suc a ≤ b * q = omega (arith, n₁) in
        let n₃ : suc a * d ≤ (b * q) * d = mul-le-mul_right d n₂ in
        let n₄ : (d * q) * b ≤ c * b = mul-le-mul_right b (omega arith) in
        omega (arith, n₃, n₄, swap b q d)

-- equal whole parts, and the remainders r and s
pub record SameWhole (a b c d r s : ℕ) : Type 0 where
  pub whole : ℕ
  pub left : a * d ≡ whole + r * d
  pub right : c * b ≡ whole + s * b

pub same_whole : (a b c d : ℕ) → a / b ≡ c / d → SameWhole a b c d (a % b) (c % d)
same_whole a b c d h = by (a / b) (a % b) (c / d) (c % d) (div-add-mod a b) (div-add-mod c d) h
  where
    by : (p r q s : ℕ) → b * p + r ≡ a → d * q + s ≡ c → p ≡ q → SameWhole a b c d r s
    by p r q s e f k = record {
      whole = (b * p) * d;
      left = omega (arith, ap (λ (n : ℕ). n * d) e);
      right = ap (λ (n : ℕ). n * b) (sym f) ∙ ap (λ (n : ℕ). (d * n + s) * b) (sym k) ∙ right_is p s;
    }
      where
        right_is : (p s : ℕ) → (d * p + s) * b ≡ (b * p) * d + s * b
        right_is p s = omega (arith, swap b p d)

module _ (a b c d r s : ℕ) (hb : 0 < b) (hd : 0 < d) (w : SameWhole a b c d r s) where
  pub no_rests : r ≡ 0 → s ≡ 0 → a * d ≡ c * b
  no_rests e f =
      let l : a * d ≡ w.whole + 0 * d = subst (λ (n : ℕ). a * d ≡ w.whole + n * d) e w.left in
      let k : c * b ≡ w.whole + 0 * b = subst (λ (n : ℕ). c * b ≡ w.whole + n * b) f w.right in
      omega (arith, l, k)

  pub left_rest : 0 < r → s ≡ 0 → c * b < a * d
  left_rest h f =
      let l = w.left in
      let k : c * b ≡ w.whole + 0 * b = subst (λ (n : ℕ). c * b ≡ w.whole + n * b) f w.right in
      let m : 1 * d ≤ r * d = mul-le-mul_right d h in
      omega (arith, l, k, m)

  pub right_rest : r ≡ 0 → 0 < s → a * d < c * b
  right_rest e h =
      let l : a * d ≡ w.whole + 0 * d = subst (λ (n : ℕ). a * d ≡ w.whole + n * d) e w.left in
      let k = w.right in
      let m : 1 * b ≤ s * b = mul-le-mul_right b h in
      omega (arith, l, k, m)

  -- d/s against b/r
  pub by_rests : (o : Ordering) → MatchOrdering o (d * r < b * s) (d * r ≡ b * s) (b * s < d * r) → MatchOrdering o (a * d < c * b) (a * d ≡ c * b) (c * b < a * d)
  by_rests o m =
      let l = w.left in
      let k = w.right in
      let p : r * d ≡ d * r = mul_comm r d in
      let q : s * b ≡ b * s = mul_comm s b in
      map_ordering o (λ h. omega (arith, l, k, p, q, h)) (λ h. omega (arith, l, k, p, q, h)) (λ h. omega (arith, l, k, p, q, h)) m
