-- Linear inequalities over ℚ from others: the multipliers are given, and a computation compares both sides.
use Rattle.std.specs.Prelude.{◌≡◌, ℕ, pos, List, [], ◌∷◌, unsigned_abs}
use Rattle.std.proofs.Common.{refl, sym, ap, ap₂, subst, ◌∙◌}
use Rattle.dc_math.specs.Ring.{Expr, Term, nat, ◌⊕◌, ◌⊗◌, ◌⊝◌, normal}
use Rattle.dc_math.specs.Rational.{ℚ, ◌+ℚ◌, ◌*ℚ◌, ◌-ℚ◌, of_ℤ, ◌≤ℚ◌, NonNegative, NonNegative-+ℚ, NonNegative-*ℚ, ≤ℚ-sub, sub-≤ℚ}
use Rattle.dc_math.specs.RationalRing.{value_ℚ, same_form, ring, reads, read_add, read_mul, read_sub, read_nat}
use Rattle.dc_math.specs.Signs.{nat_non_negative}

-- an inequality between expressions, and its multiplier
pub record Fact : Type 0 where
  pub low : Expr
  pub high : Expr
  pub times : ℕ

-- the sum of the differences, each times its multiplier
abbrev pub total : List Fact → Expr
total [] = nat 0
total (f ∷ fs) = nat f.times ⊗ (f.high ⊝ f.low) ⊕ total fs

-- from each of the facts to the conclusion
abbrev pub From : List ℚ → List Fact → Type 0 → Type 0
From ρ [] P = P
From ρ (f ∷ fs) P = value_ℚ ρ f.low ≤ℚ value_ℚ ρ f.high → From ρ fs P

-- the constant of a normal form
abbrev pub constant : List Term → ℕ
constant [] = 0
constant (t ∷ p) = unsigned_abs t.coef

-- what is left when the facts are taken off is a constant that is not negative
abbrev pub Follows : List Fact → Expr → Expr → Type 0
Follows fs low high = normal ((high ⊝ low) ⊝ total fs) ≡ normal (nat (constant (normal ((high ⊝ low) ⊝ total fs))))

total_first : (ρ : List ℚ) (f : Fact) (fs : List Fact) → of_ℤ (pos f.times) *ℚ (value_ℚ ρ f.high -ℚ value_ℚ ρ f.low) +ℚ value_ℚ ρ (total fs) ≡ value_ℚ ρ (total (f ∷ fs))
total_first ρ f fs =
    ap₂ ◌+ℚ◌ (ap₂ ◌*ℚ◌ (read_nat ρ f.times) (read_sub ρ f.high f.low) ∙ read_mul ρ (nat f.times) (f.high ⊝ f.low)) refl
    ∙ read_add ρ (nat f.times ⊗ (f.high ⊝ f.low)) (total fs)

collected : (ρ : List ℚ) (fs : List Fact) {P : Type 0} → (NonNegative (value_ℚ ρ (total fs)) → P) → From ρ fs P
collected ρ [] k = k (subst NonNegative (read_nat ρ 0) (nat_non_negative 0))
collected ρ (f ∷ fs) k = λ h. collected ρ fs (λ t. k (subst NonNegative (total_first ρ f fs) (NonNegative-+ℚ _ _ (NonNegative-*ℚ _ _ (nat_non_negative f.times) (≤ℚ-sub _ _ h)) t)))

back : (a t : ℚ) → (a -ℚ t) +ℚ t ≡ a
back a t = ring (a ∷ t ∷ []) (λ ρ p q. simp (p, q, reads) (same_form _ _ _ refl))

pub follows : (ρ : List ℚ) (fs : List Fact) (low high : Expr) → Follows fs low high → From ρ fs (value_ℚ ρ low ≤ℚ value_ℚ ρ high)
follows ρ fs low high e = collected ρ fs (λ t. sub-≤ℚ _ _ (subst NonNegative (sum t) (NonNegative-+ℚ _ _ rest t)))
  where
    n : ℕ
    n = constant (normal ((high ⊝ low) ⊝ total fs))

    rest : NonNegative (value_ℚ ρ ((high ⊝ low) ⊝ total fs))
    rest = subst NonNegative (read_nat ρ n ∙ sym (same_form ρ ((high ⊝ low) ⊝ total fs) (nat n) e)) (nat_non_negative n)

    sum : NonNegative (value_ℚ ρ (total fs)) → value_ℚ ρ ((high ⊝ low) ⊝ total fs) +ℚ value_ℚ ρ (total fs) ≡ value_ℚ ρ high -ℚ value_ℚ ρ low
    sum t = ap (λ x. x +ℚ value_ℚ ρ (total fs)) (sym (read_sub ρ (high ⊝ low) (total fs))) ∙ back _ _ ∙ sym (read_sub ρ high low)

-- ---- one line: `from₂ h k (ring (x ∷ y ∷ []) (λ ρ p q. simp (p, q, reads) (follows _ (times 3 _ _ ∷ times 2 _ _ ∷ []) _ _ refl)))`
abbrev pub times : ℕ → Expr → Expr → Fact
times m l h = record { low = l; high = h; times = m }

-- the facts first, so that their types are known
pub from₁ : {A C : Type 0} → A → (A → C) → C
from₁ a f = f a

pub from₂ : {A B C : Type 0} → A → B → (A → B → C) → C
from₂ a b f = f a b

pub from₃ : {A B C D : Type 0} → A → B → C → (A → B → C → D) → D
from₃ a b c f = f a b c
