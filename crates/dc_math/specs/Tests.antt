-- The comparisons of rational numbers as tests, and what their answers say.
use Rattle.std.specs.Prelude.{◌≡◌, Bool, true, false, not, ◌&&◌, T, pos}
use Rattle.std.proofs.Common.{refl, sym, ◌∙◌, ap, subst}
use Rattle.std.proofs.lemmas.Bool.Decides.{same_from_decides}
use Rattle.dc_math.specs.Rational.{ℚ, of_ℤ, le_ℚ, ◌≤ℚ◌, ◌<ℚ◌, ◌-ℚ◌, ≤ℚ_refl, ≤ℚ_antisymm, ≤ℚ-sub, sub-≤ℚ}

abbrev pub lt_ℚ : ℚ → ℚ → Bool
lt_ℚ x y = not (le_ℚ y x)

abbrev pub eq_ℚ : ℚ → ℚ → Bool
eq_ℚ x y = le_ℚ x y && le_ℚ y x

abbrev pub is_negative : ℚ → Bool
is_negative x = lt_ℚ x (of_ℤ (pos 0))

abbrev pub is_positive : ℚ → Bool
is_positive x = lt_ℚ (of_ℤ (pos 0)) x

abbrev pub is_zero : ℚ → Bool
is_zero x = eq_ℚ x (of_ℤ (pos 0))

pub to_true : (b : Bool) → T b → b ≡ true
to_true true t = refl
to_true false t = absurd t

pub le_ℚ-true : (x y : ℚ) → x ≤ℚ y → le_ℚ x y ≡ true
le_ℚ-true x y h = to_true (le_ℚ x y) h.le

pub le_ℚ_true : (x y : ℚ) → le_ℚ x y ≡ true → x ≤ℚ y
le_ℚ_true x y e = record { le = subst T (sym e) tt }

-- their difference decides
pub le_ℚ-sub : (x y : ℚ) → le_ℚ x y ≡ le_ℚ (of_ℤ (pos 0)) (y -ℚ x)
le_ℚ-sub x y = same_from_decides {P = x ≤ℚ y} _ _ (le_ℚ_true _ _, le_ℚ-true _ _) (
  λ e. sub-≤ℚ x y (le_ℚ_true _ _ e),
  λ h. le_ℚ-true _ _ (≤ℚ-sub x y h),
)

pub lt_ℚ-true : (x y : ℚ) → x <ℚ y → lt_ℚ x y ≡ true
lt_ℚ-true x y h = to_true (lt_ℚ x y) h.lt

pub lt_ℚ_true : (x y : ℚ) → lt_ℚ x y ≡ true → x <ℚ y
lt_ℚ_true x y e = record { lt = subst T (sym e) tt }

pub le_ℚ-false : (x y : ℚ) → y <ℚ x → le_ℚ x y ≡ false
le_ℚ-false x y h = by (le_ℚ x y) h.lt
  where
    by : (b : Bool) → T (not b) → b ≡ false
    by true t = absurd t
    by false t = refl

pub le_ℚ_false : (x y : ℚ) → le_ℚ x y ≡ false → y <ℚ x
le_ℚ_false x y e = record { lt = subst (λ b. T (not b)) (sym e) tt }

pub lt_ℚ-false : (x y : ℚ) → y ≤ℚ x → lt_ℚ x y ≡ false
lt_ℚ-false x y h = ap not (le_ℚ-true y x h)

pub eq_ℚ-true : (x y : ℚ) → x ≡ y → eq_ℚ x y ≡ true
eq_ℚ-true x y e = rw (e, le_ℚ-true y y (≤ℚ_refl y)) refl

pub eq_ℚ_true : (x y : ℚ) → eq_ℚ x y ≡ true → x ≡ y
eq_ℚ_true x y e = by (le_ℚ x y) (le_ℚ y x) refl refl e
  where
    by : (b c : Bool) → le_ℚ x y ≡ b → le_ℚ y x ≡ c → b && c ≡ true → x ≡ y
    by true true p q e = ≤ℚ_antisymm x y (le_ℚ_true x y p) (le_ℚ_true y x q)
    by true false p q e = absurd (cc)
    by false c p q e = absurd (cc)

pub eq_ℚ_false : (x y : ℚ) → eq_ℚ x y ≡ false → ¬ (x ≡ y)
eq_ℚ_false x y e h = by (sym e ∙ eq_ℚ-true x y h)
  where
    by : false ≡ true → ⊥
    by e = absurd (cc)
