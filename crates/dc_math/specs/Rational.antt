-- Rational numbers: fractions of whole numbers, where equal fractions are one number.
use Rattle.std.specs.Prelude.{◌≡◌, zero, suc, ℤ, pos, negsuc, neg_ℤ, ◌+ℤ◌, ◌-ℤ◌, ◌*ℤ◌, ◌≤ℤ◌, ◌<ℤ◌, Bool, true, false, T, not, [], ◌∷◌, ◌⊎◌}
use Rattle.std.proofs.Common.{⊎_elim, T_not, refl, sym, ◌∙◌, arith, subst, inl, inr}
use Rattle.std.proofs.lemmas.Int.{ints}
use mathlib.Core.Quot.{Quot, mk, sound, ind, lift, Quot-set}
use mathlib.Core.Bool.{Bool-set}
use lib.Dec.{T_prop}
use lib.Signed.{le_z}
use Rattle.dc_math.specs.Integers.{≤ℤ-*ℤ_right, ≤ℤ-*ℤ_cancel, 0≤ℤ-*ℤ}
use Rattle.dc_math.specs.Ring.{Ring, var, nat, ◌⊕◌, ◌⊗◌, ⊖◌}
use Rattle.dc_math.specs.WholeRing.{by_form, reads, read_minus, same_form, ring, linear₁}

-- ---- fractions
pub record Fraction : Type 0 where
  pub num : ℤ
  pub den : ℤ
  pub den_positive : pos 1 ≤ℤ den

abbrev pub IsSameFraction : Fraction → Fraction → Type 0
IsSameFraction p q = p.num *ℤ q.den ≡ q.num *ℤ p.den

abbrev pub IsAtMost : Fraction → Fraction → Type 0
IsAtMost p q = (p.num *ℤ q.den) ≤ℤ (q.num *ℤ p.den)

pub product_positive : (a b : ℤ) → pos 1 ≤ℤ a → pos 1 ≤ℤ b → pos 1 ≤ℤ (a *ℤ b)
product_positive (pos zero) b h k = absurd (omega (arith, ints))
product_positive (pos (suc m)) (pos zero) h k = absurd (omega (arith, ints))
product_positive (pos (suc m)) (pos (suc n)) h k = omega (arith, ints)
product_positive (pos (suc m)) (negsuc n) h k = absurd (omega (arith, ints))
product_positive (negsuc m) b h k = absurd (omega (arith, ints))

abbrev pub fraction_add : Fraction → Fraction → Fraction
fraction_add p q = record { num = p.num *ℤ q.den +ℤ q.num *ℤ p.den; den = p.den *ℤ q.den; den_positive = product_positive p.den q.den p.den_positive q.den_positive }

abbrev pub fraction_mul : Fraction → Fraction → Fraction
fraction_mul p q = record { num = p.num *ℤ q.num; den = p.den *ℤ q.den; den_positive = product_positive p.den q.den p.den_positive q.den_positive }

abbrev pub fraction_neg : Fraction → Fraction
fraction_neg p = record { num = neg_ℤ p.num; den = p.den; den_positive = p.den_positive }

abbrev pub fraction_of : ℤ → Fraction
fraction_of z = record { num = z; den = pos 1; den_positive = omega (arith, ints) }

-- ---- numbers
pub ℚ : Type 0
ℚ = Quot IsSameFraction

pub ratio : Fraction → ℚ
unfolding ℚ
ratio p = mk p

pub ratio_same : (p q : Fraction) → IsSameFraction p q → ratio p ≡ ratio q
unfolding ℚ ratio
ratio_same p q h = sound {r = IsSameFraction} h

pub ℚ_set : IsSet ℚ
unfolding ℚ
ℚ_set = Quot-set {r = IsSameFraction}

-- what holds of each fraction holds of each number
pub ℚ_ind : (P : ℚ → Type 0) → ((x : ℚ) → IsProp (P x)) → ((p : Fraction) → P (ratio p)) → (x : ℚ) → P x
unfolding ℚ ratio
ℚ_ind P isp h x = ind {r = IsSameFraction} {β = P} isp h x

lift₂ : {B : Type 0} → IsSet B → (f : Fraction → Fraction → B) → ((p p' q : Fraction) → IsSameFraction p p' → f p q ≡ f p' q) → ((p q q' : Fraction) → IsSameFraction q q' → f p q ≡ f p q') → ℚ → ℚ → B
unfolding ℚ
lift₂ s f l r x y = lift {r = IsSameFraction} s (λ p. lift {r = IsSameFraction} s (f p) (r p) y) (λ p p' e. ind {r = IsSameFraction} {β = λ z. lift {r = IsSameFraction} s (f p) (r p) z ≡ lift {r = IsSameFraction} s (f p') (r p') z} (λ z. s _ _) (λ q. l p p' q e) y) x

-- ---- sums and products
add_left : (p p' q : Fraction) → IsSameFraction p p' → IsSameFraction (fraction_add p q) (fraction_add p' q)
add_left p p' q h =
    linear₁ (q.den *ℤ q.den) _ _ _ _ h
    (ring (p.num ∷ p.den ∷ p'.num ∷ p'.den ∷ q.num ∷ q.den ∷ []) (λ ρ a b c d e f. simp (a, b, c, d, e, f, reads) (same_form _ _ _ refl)))

add_right : (p q q' : Fraction) → IsSameFraction q q' → IsSameFraction (fraction_add p q) (fraction_add p q')
add_right p q q' h =
    linear₁ (p.den *ℤ p.den) _ _ _ _ h
    (ring (q.num ∷ q.den ∷ q'.num ∷ q'.den ∷ p.num ∷ p.den ∷ []) (λ ρ a b c d e f. simp (a, b, c, d, e, f, reads) (same_form _ _ _ refl)))

mul_left : (p p' q : Fraction) → IsSameFraction p p' → IsSameFraction (fraction_mul p q) (fraction_mul p' q)
mul_left p p' q h =
    linear₁ (q.num *ℤ q.den) _ _ _ _ h
    (ring (p.num ∷ p.den ∷ p'.num ∷ p'.den ∷ q.num ∷ q.den ∷ []) (λ ρ a b c d e f. simp (a, b, c, d, e, f, reads) (same_form _ _ _ refl)))

mul_right : (p q q' : Fraction) → IsSameFraction q q' → IsSameFraction (fraction_mul p q) (fraction_mul p q')
mul_right p q q' h =
    linear₁ (p.num *ℤ p.den) _ _ _ _ h
    (ring (q.num ∷ q.den ∷ q'.num ∷ q'.den ∷ p.num ∷ p.den ∷ []) (λ ρ a b c d e f. simp (a, b, c, d, e, f, reads) (same_form _ _ _ refl)))

neg_same : (p q : Fraction) → IsSameFraction p q → IsSameFraction (fraction_neg p) (fraction_neg q)
neg_same p q h =
    linear₁ (negsuc 0) _ _ _ _ h
    (ring (p.num ∷ p.den ∷ q.num ∷ q.den ∷ []) (λ ρ a b c d. simp (a, b, c, d, read_minus ρ, reads) (same_form _ _ _ refl)))

infixl 6 ◌+ℚ◌ ◌-ℚ◌
infixl 7 ◌*ℚ◌
pub ◌+ℚ◌ : ℚ → ℚ → ℚ
◌+ℚ◌ = lift₂ ℚ_set (λ p q. ratio (fraction_add p q)) (λ p p' q h. ratio_same _ _ (add_left p p' q h)) (λ p q q' h. ratio_same _ _ (add_right p q q' h))

pub ◌*ℚ◌ : ℚ → ℚ → ℚ
◌*ℚ◌ = lift₂ ℚ_set (λ p q. ratio (fraction_mul p q)) (λ p p' q h. ratio_same _ _ (mul_left p p' q h)) (λ p q q' h. ratio_same _ _ (mul_right p q q' h))

pub neg_ℚ : ℚ → ℚ
unfolding ℚ
neg_ℚ = lift {r = IsSameFraction} ℚ_set (λ p. ratio (fraction_neg p)) (λ p q h. ratio_same _ _ (neg_same p q h))

abbrev pub ◌-ℚ◌ : ℚ → ℚ → ℚ
x -ℚ y = x +ℚ neg_ℚ y

pub of_ℤ : ℤ → ℚ
of_ℤ z = ratio (fraction_of z)

pub ratio-add : (p q : Fraction) → ratio p +ℚ ratio q ≡ ratio (fraction_add p q)
unfolding ◌+ℚ◌ lift₂ ratio ℚ
ratio-add p q = refl

pub ratio-mul : (p q : Fraction) → ratio p *ℚ ratio q ≡ ratio (fraction_mul p q)
unfolding ◌*ℚ◌ lift₂ ratio ℚ
ratio-mul p q = refl

pub ratio-neg : (p : Fraction) → neg_ℚ (ratio p) ≡ ratio (fraction_neg p)
unfolding neg_ℚ ratio ℚ
ratio-neg p = refl

-- ---- the laws of the ring
equal₁ : (f g : ℚ → ℚ) → ((p : Fraction) → f (ratio p) ≡ g (ratio p)) → (x : ℚ) → f x ≡ g x
equal₁ f g h = ℚ_ind (λ x. f x ≡ g x) (λ x. ℚ_set _ _) h

equal₂ : (f g : ℚ → ℚ → ℚ) → ((p q : Fraction) → f (ratio p) (ratio q) ≡ g (ratio p) (ratio q)) → (x y : ℚ) → f x y ≡ g x y
equal₂ f g h x y = equal₁ (λ x. f x y) (λ x. g x y) (λ p. equal₁ (f (ratio p)) (g (ratio p)) (h p) y) x

equal₃ : (f g : ℚ → ℚ → ℚ → ℚ) → ((p q r : Fraction) → f (ratio p) (ratio q) (ratio r) ≡ g (ratio p) (ratio q) (ratio r)) → (x y z : ℚ) → f x y z ≡ g x y z
equal₃ f g h x y z = equal₁ (λ x. f x y z) (λ x. g x y z) (λ p. equal₂ (f (ratio p)) (g (ratio p)) (h p) y z) x

pub +ℚ_assoc : (x y z : ℚ) → (x +ℚ y) +ℚ z ≡ x +ℚ (y +ℚ z)
+ℚ_assoc = equal₃ (λ x y z. (x +ℚ y) +ℚ z) (λ x y z. x +ℚ (y +ℚ z)) (λ p q r. simp ratio-add (ratio_same _ _
    (ring (p.num ∷ p.den ∷ q.num ∷ q.den ∷ r.num ∷ r.den ∷ []) (λ ρ a b c d e f. simp (a, b, c, d, e, f, reads) (same_form _ _ _ refl)))))

pub +ℚ_comm : (x y : ℚ) → x +ℚ y ≡ y +ℚ x
+ℚ_comm = equal₂ (λ x y. x +ℚ y) (λ x y. y +ℚ x) (λ p q. simp ratio-add (ratio_same _ _
    (ring (p.num ∷ p.den ∷ q.num ∷ q.den ∷ []) (λ ρ a b c d. simp (a, b, c, d, reads) (same_form _ _ _ refl)))))

pub *ℚ_assoc : (x y z : ℚ) → (x *ℚ y) *ℚ z ≡ x *ℚ (y *ℚ z)
*ℚ_assoc = equal₃ (λ x y z. (x *ℚ y) *ℚ z) (λ x y z. x *ℚ (y *ℚ z)) (λ p q r. simp ratio-mul (ratio_same _ _
    (ring (p.num ∷ p.den ∷ q.num ∷ q.den ∷ r.num ∷ r.den ∷ []) (λ ρ a b c d e f. simp (a, b, c, d, e, f, reads) (same_form _ _ _ refl)))))

pub *ℚ_comm : (x y : ℚ) → x *ℚ y ≡ y *ℚ x
*ℚ_comm = equal₂ (λ x y. x *ℚ y) (λ x y. y *ℚ x) (λ p q. simp ratio-mul (ratio_same _ _
    (ring (p.num ∷ p.den ∷ q.num ∷ q.den ∷ []) (λ ρ a b c d. simp (a, b, c, d, reads) (same_form _ _ _ refl)))))

pub *ℚ-+ℚ : (x y z : ℚ) → x *ℚ (y +ℚ z) ≡ x *ℚ y +ℚ x *ℚ z
*ℚ-+ℚ = equal₃ (λ x y z. x *ℚ (y +ℚ z)) (λ x y z. x *ℚ y +ℚ x *ℚ z) (λ p q r. simp (ratio-add, ratio-mul) (ratio_same _ _
    (ring (p.num ∷ p.den ∷ q.num ∷ q.den ∷ r.num ∷ r.den ∷ []) (λ ρ a b c d e f. simp (a, b, c, d, e, f, reads) (same_form _ _ _ refl)))))

pub of_ℤ-+ℤ : (m n : ℤ) → of_ℤ (m +ℤ n) ≡ of_ℤ m +ℚ of_ℤ n
unfolding of_ℤ
of_ℤ-+ℤ m n = rw ratio-add (ratio_same _ _ (let x = var 0 in let y = var 1 in
    by_form (m ∷ n ∷ []) ((x ⊕ y) ⊗ (nat 1 ⊗ nat 1)) ((x ⊗ nat 1 ⊕ y ⊗ nat 1) ⊗ nat 1) refl))

pub of_ℤ-*ℤ : (m n : ℤ) → of_ℤ (m *ℤ n) ≡ of_ℤ m *ℚ of_ℤ n
unfolding of_ℤ
of_ℤ-*ℤ m n = rw ratio-mul (ratio_same _ _ (let x = var 0 in let y = var 1 in
    by_form (m ∷ n ∷ []) ((x ⊗ y) ⊗ (nat 1 ⊗ nat 1)) ((x ⊗ y) ⊗ nat 1) refl))

pub zero-+ℚ : (x : ℚ) → of_ℤ (pos 0) +ℚ x ≡ x
unfolding of_ℤ
zero-+ℚ = equal₁ (λ x. ratio (fraction_of (pos 0)) +ℚ x) (λ x. x) (λ p. rw ratio-add (ratio_same _ _ (let x = var 0 in let y = var 1 in
    by_form (p.num ∷ p.den ∷ []) ((nat 0 ⊗ y ⊕ x ⊗ nat 1) ⊗ y) (x ⊗ (nat 1 ⊗ y)) refl)))

pub one-*ℚ : (x : ℚ) → of_ℤ (pos 1) *ℚ x ≡ x
unfolding of_ℤ
one-*ℚ = equal₁ (λ x. ratio (fraction_of (pos 1)) *ℚ x) (λ x. x) (λ p. rw ratio-mul (ratio_same _ _ (let x = var 0 in let y = var 1 in
    by_form (p.num ∷ p.den ∷ []) ((nat 1 ⊗ x) ⊗ y) (x ⊗ (nat 1 ⊗ y)) refl)))

pub zero-*ℚ : (x : ℚ) → of_ℤ (pos 0) *ℚ x ≡ of_ℤ (pos 0)
unfolding of_ℤ
zero-*ℚ = equal₁ (λ x. ratio (fraction_of (pos 0)) *ℚ x) (λ x. ratio (fraction_of (pos 0))) (λ p. rw ratio-mul (ratio_same _ _ (let x = var 0 in let y = var 1 in
    by_form (p.num ∷ p.den ∷ []) ((nat 0 ⊗ x) ⊗ nat 1) (nat 0 ⊗ (nat 1 ⊗ y)) refl)))

pub +ℚ-zero : (x : ℚ) → x +ℚ of_ℤ (pos 0) ≡ x
+ℚ-zero x = +ℚ_comm x (of_ℤ (pos 0)) ∙ zero-+ℚ x

pub *ℚ-one : (x : ℚ) → x *ℚ of_ℤ (pos 1) ≡ x
*ℚ-one x = *ℚ_comm x (of_ℤ (pos 1)) ∙ one-*ℚ x

pub *ℚ-zero : (x : ℚ) → x *ℚ of_ℤ (pos 0) ≡ of_ℤ (pos 0)
*ℚ-zero x = *ℚ_comm x (of_ℤ (pos 0)) ∙ zero-*ℚ x

pub neg_ℚ_is : (x : ℚ) → neg_ℚ x ≡ of_ℤ (negsuc 0) *ℚ x
unfolding of_ℤ
neg_ℚ_is = equal₁ (λ x. neg_ℚ x) (λ x. ratio (fraction_of (negsuc 0)) *ℚ x) (λ p. rw (ratio-neg, ratio-mul) (ratio_same _ _ (let x = var 0 in let y = var 1 in
    by_form (p.num ∷ p.den ∷ []) ((⊖ x) ⊗ (nat 1 ⊗ y)) (((⊖ nat 1) ⊗ x) ⊗ y) refl)))

abbrev pub rational : Ring ℚ
rational = record {
  of_int = of_ℤ;
  ◌⊹◌ = ◌+ℚ◌;
  ◌∗◌ = ◌*ℚ◌;
  neg = neg_ℚ;
  add_assoc = +ℚ_assoc;
  add_comm = +ℚ_comm;
  zero-add = zero-+ℚ;
  mul_assoc = *ℚ_assoc;
  mul_comm = *ℚ_comm;
  one-mul = one-*ℚ;
  zero-mul = zero-*ℚ;
  mul-add = *ℚ-+ℚ;
  neg_is = neg_ℚ_is;
  of_int-add = of_ℤ-+ℤ;
  of_int-mul = of_ℤ-*ℤ;
}

-- ---- order
abbrev fraction_le : Fraction → Fraction → Bool
fraction_le p q = le_z (p.num *ℤ q.den) (q.num *ℤ p.den)

same_bool : (b c : Bool) → (T b → T c) → (T c → T b) → b ≡ c
same_bool true true f g = refl
same_bool true false f g = absurd (f tt)
same_bool false true f g = absurd (g tt)
same_bool false false f g = refl

same_sym : (p q : Fraction) → IsSameFraction p q → IsSameFraction q p
same_sym p q h = sym h

le_left' : (p p' q : Fraction) → IsSameFraction p p' → T (fraction_le p q) → T (fraction_le p' q)
le_left' p p' q h t =
    let k : (p.num *ℤ q.den) ≤ℤ (q.num *ℤ p.den) = record { le = t } in
    let d : pos 0 ≤ℤ p'.den = let e = p'.den_positive in omega (arith, ints) in
    let d' : pos 0 <ℤ p.den = let e = p.den_positive in omega (arith, ints) in
    let m = ≤ℤ-*ℤ_right _ _ p'.den k d in
    let e₁ : (p.num *ℤ q.den) *ℤ p'.den ≡ (p'.num *ℤ q.den) *ℤ p.den = linear₁ q.den _ _ _ _ h
    (ring (p.num ∷ p.den ∷ p'.num ∷ p'.den ∷ q.den ∷ []) (λ ρ a b c d e. simp (a, b, c, d, e, reads) (same_form _ _ _ refl))) in
    let e₂ : (q.num *ℤ p.den) *ℤ p'.den ≡ (q.num *ℤ p'.den) *ℤ p.den =
    ring (p.den ∷ p'.den ∷ q.num ∷ []) (λ ρ a b c. simp (a, b, c, reads) (same_form _ _ _ refl)) in
    let n : ((p'.num *ℤ q.den) *ℤ p.den) ≤ℤ ((q.num *ℤ p'.den) *ℤ p.den) = rw (← e₁, ← e₂) m in
    (≤ℤ-*ℤ_cancel _ _ p.den d' n).le

le_right' : (p q q' : Fraction) → IsSameFraction q q' → T (fraction_le p q) → T (fraction_le p q')
le_right' p q q' h t =
    let k : (p.num *ℤ q.den) ≤ℤ (q.num *ℤ p.den) = record { le = t } in
    let d : pos 0 ≤ℤ q'.den = let e = q'.den_positive in omega (arith, ints) in
    let d' : pos 0 <ℤ q.den = let e = q.den_positive in omega (arith, ints) in
    let m = ≤ℤ-*ℤ_right _ _ q'.den k d in
    let e₁ : (q.num *ℤ p.den) *ℤ q'.den ≡ (q'.num *ℤ p.den) *ℤ q.den = linear₁ p.den _ _ _ _ h
    (ring (q.num ∷ q.den ∷ q'.num ∷ q'.den ∷ p.den ∷ []) (λ ρ a b c d e. simp (a, b, c, d, e, reads) (same_form _ _ _ refl))) in
    let e₂ : (p.num *ℤ q.den) *ℤ q'.den ≡ (p.num *ℤ q'.den) *ℤ q.den =
    ring (q.den ∷ q'.den ∷ p.num ∷ []) (λ ρ a b c. simp (a, b, c, reads) (same_form _ _ _ refl)) in
    let n : ((p.num *ℤ q'.den) *ℤ q.den) ≤ℤ ((q'.num *ℤ p.den) *ℤ q.den) = rw (← e₁, ← e₂) m in
    (≤ℤ-*ℤ_cancel _ _ q.den d' n).le

pub le_ℚ : ℚ → ℚ → Bool
le_ℚ = lift₂ Bool-set fraction_le
    (λ p p' q h. same_bool _ _ (le_left' p p' q h) (le_left' p' p q (same_sym p p' h)))
    (λ p q q' h. same_bool _ _ (le_right' p q q' h) (le_right' p q' q (same_sym q q' h)))

infix 50 ◌≤ℚ◌ ◌<ℚ◌
pub record ◌≤ℚ◌ (x y : ℚ) : Type 0 where
  pub le : T (le_ℚ x y)

pub record ◌<ℚ◌ (x y : ℚ) : Type 0 where
  pub lt : T (not (le_ℚ y x))

ratio-le : (p q : Fraction) → le_ℚ (ratio p) (ratio q) ≡ fraction_le p q
unfolding le_ℚ lift₂ ratio ℚ
ratio-le p q = refl

-- the order of fractions
pub ratio_at_most : (p q : Fraction) → IsAtMost p q → ratio p ≤ℚ ratio q
ratio_at_most p q h = record { le = rw (ratio-le p q) h.le }

pub at_most_ratio : (p q : Fraction) → ratio p ≤ℚ ratio q → IsAtMost p q
at_most_ratio p q h = record { le = rw (ratio-le p q) at h.le }

-- equal numbers are equal fractions
pub same_ratio : (p q : Fraction) → ratio p ≡ ratio q → IsSameFraction p q
same_ratio p q e =
    let r : ratio p ≤ℚ ratio p = ratio_at_most p p (omega (arith, ints)) in
    let h = at_most_ratio p q (subst (λ x. ratio p ≤ℚ x) e r) in
    let k = at_most_ratio q p (subst (λ x. x ≤ℚ ratio p) e r) in
    omega (arith, ints)

pub ≤ℚ_prop : (x y : ℚ) → IsProp (x ≤ℚ y)
≤ℚ_prop x y = hlevel T_prop

pub <ℚ_prop : (x y : ℚ) → IsProp (x <ℚ y)
<ℚ_prop x y = hlevel T_prop

pub ≤ℚ_refl : (x : ℚ) → x ≤ℚ x
≤ℚ_refl = ℚ_ind (λ x. x ≤ℚ x) (λ x. ≤ℚ_prop x x) (λ p. ratio_at_most p p (omega (arith, ints)))

pub ≤ℚ_antisymm : (x y : ℚ) → x ≤ℚ y → y ≤ℚ x → x ≡ y
≤ℚ_antisymm = ℚ_ind (λ x. (y : ℚ) → x ≤ℚ y → y ≤ℚ x → x ≡ y) (λ x. hlevel ℚ_set) (λ p. ℚ_ind (λ y. ratio p ≤ℚ y → y ≤ℚ ratio p → ratio p ≡ y) (λ y. hlevel ℚ_set)
    (λ q h k. let h' = at_most_ratio p q h in let k' = at_most_ratio q p k in ratio_same p q (omega (arith, ints))))

not_le : (x y : ℚ) → T (not (le_ℚ x y)) → y ≤ℚ x
not_le = ℚ_ind (λ x. (y : ℚ) → T (not (le_ℚ x y)) → y ≤ℚ x) (λ x. hlevel ≤ℚ_prop) (λ p. ℚ_ind (λ y. T (not (le_ℚ (ratio p) y)) → y ≤ℚ ratio p) (λ y. hlevel ≤ℚ_prop)
    (λ q h. ratio_at_most q p (by p q (rw (ratio-le p q) at h))))
  where
    by : (p q : Fraction) → T (not (fraction_le p q)) → IsAtMost q p
    by p q t = omega (arith, ints)

pub <ℚ-≤ℚ : (x y : ℚ) → x <ℚ y → x ≤ℚ y
<ℚ-≤ℚ x y h = not_le y x h.lt

pub ≤ℚ_or : (x y : ℚ) → (x ≤ℚ y) ⊎ (y <ℚ x)
≤ℚ_or x y = by (le_ℚ x y) refl
  where
    by : (b : Bool) → le_ℚ x y ≡ b → (x ≤ℚ y) ⊎ (y <ℚ x)
    by true e = inl (record { le = subst T (sym e) tt })
    by false e = inr (record { lt = subst (λ (b : Bool). T (not b)) (sym e) tt })

pub ≤ℚ_total : (x y : ℚ) → (x ≤ℚ y) ⊎ (y ≤ℚ x)
≤ℚ_total x y = ⊎_elim inl (λ h. inr (<ℚ-≤ℚ y x h)) (≤ℚ_or x y)

pub <ℚ-not : (x y : ℚ) → x <ℚ y → ¬ (y ≤ℚ x)
<ℚ-not x y h k = T_not _ h.lt k.le

pub ℚ_trichotomy : (x y : ℚ) → (x <ℚ y) ⊎ ((x ≡ y) ⊎ (y <ℚ x))
ℚ_trichotomy x y = ⊎_elim (λ h. ⊎_elim (λ k. inr (inl (≤ℚ_antisymm x y h k))) (λ k. inl k) (≤ℚ_or y x)) (λ h. inr (inr h)) (≤ℚ_or x y)

pub ℚ_discrete : (x y : ℚ) → Dec (x ≡ y)
ℚ_discrete x y = by (ℚ_trichotomy x y)
  where
    by : (x <ℚ y) ⊎ ((x ≡ y) ⊎ (y <ℚ x)) → Dec (x ≡ y)
    by (inl h) = no (λ e. <ℚ-not x y h (subst (λ z. z ≤ℚ x) e (≤ℚ_refl x)))
    by (inr (inl e)) = yes e
    by (inr (inr h)) = no (λ e. <ℚ-not y x h (subst (λ z. x ≤ℚ z) e (≤ℚ_refl x)))

-- ---- not negative
zero_ℚ : ℚ
zero_ℚ = of_ℤ (pos 0)

abbrev pub NonNegative : ℚ → Type 0
NonNegative x = of_ℤ (pos 0) ≤ℚ x

num_non_negative : (p : Fraction) → NonNegative (ratio p) → pos 0 ≤ℤ p.num
unfolding of_ℤ
num_non_negative p h = let k = at_most_ratio (fraction_of (pos 0)) p h in omega (arith, ints)

pub non_negative_num : (p : Fraction) → pos 0 ≤ℤ p.num → NonNegative (ratio p)
unfolding of_ℤ
non_negative_num p h = ratio_at_most (fraction_of (pos 0)) p (omega (arith, ints))

den_non_negative : (p : Fraction) → pos 0 ≤ℤ p.den
den_non_negative p = let e = p.den_positive in omega (arith, ints)

pub NonNegative-+ℚ : (x y : ℚ) → NonNegative x → NonNegative y → NonNegative (x +ℚ y)
NonNegative-+ℚ = ℚ_ind (λ x. (y : ℚ) → NonNegative x → NonNegative y → NonNegative (x +ℚ y)) (λ x. hlevel ≤ℚ_prop) (λ p. ℚ_ind (λ y. NonNegative (ratio p) → NonNegative y → NonNegative (ratio p +ℚ y)) (λ y. hlevel ≤ℚ_prop)
    (λ q h k. rw ratio-add (non_negative_num _ (
    let a = 0≤ℤ-*ℤ p.num q.den (num_non_negative p h) (den_non_negative q) in
    let b = 0≤ℤ-*ℤ q.num p.den (num_non_negative q k) (den_non_negative p) in
    omega (arith, ints)))))

pub NonNegative-*ℚ : (x y : ℚ) → NonNegative x → NonNegative y → NonNegative (x *ℚ y)
NonNegative-*ℚ = ℚ_ind (λ x. (y : ℚ) → NonNegative x → NonNegative y → NonNegative (x *ℚ y)) (λ x. hlevel ≤ℚ_prop) (λ p. ℚ_ind (λ y. NonNegative (ratio p) → NonNegative y → NonNegative (ratio p *ℚ y)) (λ y. hlevel ≤ℚ_prop)
    (λ q h k. rw ratio-mul (non_negative_num _ (0≤ℤ-*ℤ p.num q.num (num_non_negative p h) (num_non_negative q k)))))

pub ≤ℚ-sub : (x y : ℚ) → x ≤ℚ y → NonNegative (y -ℚ x)
≤ℚ-sub = ℚ_ind (λ x. (y : ℚ) → x ≤ℚ y → NonNegative (y -ℚ x)) (λ x. hlevel ≤ℚ_prop) (λ p. ℚ_ind (λ y. ratio p ≤ℚ y → NonNegative (y -ℚ ratio p)) (λ y. hlevel ≤ℚ_prop)
    (λ q h. rw (ratio-neg, ratio-add) (non_negative_num _ (
    let k = at_most_ratio p q h in
    let e : q.num *ℤ p.den +ℤ neg_ℤ p.num *ℤ q.den ≡ q.num *ℤ p.den -ℤ p.num *ℤ q.den =
    ring (p.num ∷ p.den ∷ q.num ∷ q.den ∷ []) (λ ρ a b c d. simp (a, b, c, d, reads) (same_form _ _ _ refl)) in
    rw e (omega (arith, ints))))))

pub sub-≤ℚ : (x y : ℚ) → NonNegative (y -ℚ x) → x ≤ℚ y
sub-≤ℚ = ℚ_ind (λ x. (y : ℚ) → NonNegative (y -ℚ x) → x ≤ℚ y) (λ x. hlevel ≤ℚ_prop) (λ p. ℚ_ind (λ y. NonNegative (y -ℚ ratio p) → ratio p ≤ℚ y) (λ y. hlevel ≤ℚ_prop)
    (λ q h.
    let k = num_non_negative _ (rw (ratio-neg, ratio-add) at h) in
    let e : q.num *ℤ p.den +ℤ neg_ℤ p.num *ℤ q.den ≡ q.num *ℤ p.den -ℤ p.num *ℤ q.den =
    ring (p.num ∷ p.den ∷ q.num ∷ q.den ∷ []) (λ ρ a b c d. simp (a, b, c, d, reads) (same_form _ _ _ refl)) in
    let l = rw e at k in
    ratio_at_most p q (omega (arith, ints))))

-- a function of fractions that gives equal fractions one value
pub ℚ_lift : {B : Type 0} → IsSet B → (f : Fraction → B) → ((p q : Fraction) → IsSameFraction p q → f p ≡ f q) → ℚ → B
unfolding ℚ
ℚ_lift s f h x = lift {r = IsSameFraction} s f h x

pub ℚ_lift-ratio : {B : Type 0} (s : IsSet B) (f : Fraction → B) (h : (p q : Fraction) → IsSameFraction p q → f p ≡ f q) (p : Fraction) → ℚ_lift s f h (ratio p) ≡ f p
unfolding ℚ_lift ratio ℚ
ℚ_lift-ratio s f h p = refl

pub of_ℤ_is : (z : ℤ) → of_ℤ z ≡ ratio (fraction_of z)
unfolding of_ℤ
of_ℤ_is z = refl
