-- The laws of whole numbers that std lacks: product and order.
use Rattle.std.specs.Prelude.{◌≡◌, ℕ, ◌+◌, ◌*◌, ◌≤◌, ℤ, pos, negsuc, neg_ℤ, ◌+ℤ◌, ◌*ℤ◌, ◌≤ℤ◌, ◌<ℤ◌, ◌<◌, unsigned_abs, ◌⊎◌, Bool, true, false, T}
use Rattle.std.proofs.Common.{refl, sym, subst, inl, inr, ◌∙◌, ap, ap₂, arith, zero, suc, mul-le-mul_right, le_of_mul-le-mul_right, zero-lt-suc}
use Rattle.std.proofs.lemmas.Int.{ints}
use lib.IntN.{*ℤ_comm}
use lib.Signed.{le_z}
use borrow.Author.Differences.{up, down, sum_is_lem, product_is, same_in, at_most_in, le_out}

-- the product's two parts
up-* : (a b : ℤ) → up (a *ℤ b) ≡ up a * up b + down a * down b
up-* a b = (product_is a b).0

down-* : (a b : ℤ) → down (a *ℤ b) ≡ up a * down b + down a * up b
down-* a b = (product_is a b).1

pub *ℤ_assoc : (a b c : ℤ) → (a *ℤ b) *ℤ c ≡ a *ℤ (b *ℤ c)
*ℤ_assoc a b c = same_in _ _ (simp (up-*, down-*) (omega arith))

pub *ℤ-+ℤ : (a b c : ℤ) → a *ℤ (b +ℤ c) ≡ a *ℤ b +ℤ a *ℤ c
*ℤ-+ℤ a b c =
    let s = sum_is_lem b c in
    let p = ap (λ (x : ℕ). up a * x) s in
    let q = ap (λ (x : ℕ). down a * x) s in
    omega (arith, ints, p, q)

pub +ℤ-*ℤ : (a b c : ℤ) → (a +ℤ b) *ℤ c ≡ a *ℤ c +ℤ b *ℤ c
+ℤ-*ℤ a b c = *ℤ_comm (a +ℤ b) c ∙ *ℤ-+ℤ c a b ∙ ap₂ ◌+ℤ◌ (*ℤ_comm c a) (*ℤ_comm c b)

pub one-*ℤ : (a : ℤ) → pos 1 *ℤ a ≡ a
one-*ℤ a = omega (arith, ints)

pub *ℤ-one : (a : ℤ) → a *ℤ pos 1 ≡ a
*ℤ-one a = omega (arith, ints)

pub neg_ℤ_is : (a : ℤ) → neg_ℤ a ≡ negsuc 0 *ℤ a
neg_ℤ_is a = omega (arith, ints)

-- ---- order
pub neg_ℤ-*ℤ : (a b : ℤ) → neg_ℤ a *ℤ b ≡ neg_ℤ (a *ℤ b)
neg_ℤ-*ℤ a b = ap (λ z. z *ℤ b) (neg_ℤ_is a) ∙ *ℤ_assoc (negsuc 0) a b ∙ sym (neg_ℤ_is (a *ℤ b))

pub 0≤ℤ-*ℤ : (a b : ℤ) → pos 0 ≤ℤ a → pos 0 ≤ℤ b → pos 0 ≤ℤ (a *ℤ b)
0≤ℤ-*ℤ (pos m) (pos n) h k = omega (arith, ints)
0≤ℤ-*ℤ (pos m) (negsuc n) h k = absurd (omega (arith, ints))
0≤ℤ-*ℤ (negsuc m) b h k = absurd (omega (arith, ints))

pub ≤ℤ-*ℤ_right : (a b c : ℤ) → a ≤ℤ b → pos 0 ≤ℤ c → (a *ℤ c) ≤ℤ (b *ℤ c)
≤ℤ-*ℤ_right a b (pos n) h k =
    let s = mul-le-mul_right n (le_out a b h) in
    omega (arith, ints, s)
≤ℤ-*ℤ_right a b (negsuc n) h k = absurd (omega (arith, ints))

pub ≤ℤ-*ℤ_cancel : (a b c : ℤ) → pos 0 <ℤ c → (a *ℤ c) ≤ℤ (b *ℤ c) → a ≤ℤ b
≤ℤ-*ℤ_cancel a b (pos zero) h k = absurd (omega (arith, ints))
≤ℤ-*ℤ_cancel a b (pos (suc n)) h k =
    let s : (up a + down b) * suc n ≤ (up b + down a) * suc n = omega (arith, ints) in
    let t : up a + down b ≤ up b + down a = le_of_mul-le-mul_right s (zero-lt-suc n) in
    at_most_in _ _ t
≤ℤ-*ℤ_cancel a b (negsuc n) h k = absurd (omega (arith, ints))

pub ≤ℤ_or : (a b : ℤ) → (a ≤ℤ b) ⊎ (b <ℤ a)
≤ℤ_or a b = by (le_z a b) refl
  where
    by : (t : Bool) → le_z a b ≡ t → (a ≤ℤ b) ⊎ (b <ℤ a)
    by true e = inl (record { le = subst T (sym e) tt })
    by false e = inr (omega (arith, ints))

pub *ℤ_cancel : (a b c : ℤ) → pos 0 <ℤ c → a *ℤ c ≡ b *ℤ c → a ≡ b
*ℤ_cancel a b c h e =
    let k = ≤ℤ-*ℤ_cancel a b c h (omega (arith, ints)) in
    let l = ≤ℤ-*ℤ_cancel b a c h (omega (arith, ints)) in
    omega (arith, ints)

-- ---- sizes
pub size-neg_ℤ : (a : ℤ) → unsigned_abs (neg_ℤ a) ≡ unsigned_abs a
size-neg_ℤ a = omega (arith, ints)

pub size-+ℤ : (a b : ℤ) → unsigned_abs (a +ℤ b) ≤ unsigned_abs a + unsigned_abs b
size-+ℤ a b = omega (arith, ints)

pub size_positive : (a : ℤ) → pos 1 ≤ℤ a → 0 < unsigned_abs a
size_positive a h = omega (arith, ints)
