-- The order of choices is strict.
use Rattle.std.specs.Prelude.{◌≡◌, [], ◌∷◌, length, refl}
use Rattle.std.proofs.Common.{◌∙◌, ap, subst, arith, inl, inr}
use Rattle.dc_math.specs.OrderedLists.{IsStrict}
use Rattle.dc_handelman.specs.Choices.{Choice, Smaller, Before, fewer, level}

Smaller-not : (c : Choice) → Smaller c c → ⊥
Smaller-not [] h = h
Smaller-not (i ∷ c) (inl h) = omega arith
Smaller-not (i ∷ c) (inr h) = Smaller-not c h.1

Smaller-trans : (c d e : Choice) → Smaller c d → Smaller d e → Smaller c e
Smaller-trans [] d e h g = absurd h
Smaller-trans (i ∷ c) [] e h g = absurd h
Smaller-trans (i ∷ c) (j ∷ d) [] h g = absurd g
Smaller-trans (i ∷ c) (j ∷ d) (l ∷ e) (inl h) (inl g) = inl (omega arith)
Smaller-trans (i ∷ c) (j ∷ d) (l ∷ e) (inl h) (inr g) = inl (let q = g.0 in omega arith)
Smaller-trans (i ∷ c) (j ∷ d) (l ∷ e) (inr h) (inl g) = inl (let q = h.0 in omega arith)
Smaller-trans (i ∷ c) (j ∷ d) (l ∷ e) (inr h) (inr g) = inr (h.0 ∙ g.0, Smaller-trans c d e h.1 g.1)

Before-not : (c : Choice) → Before c c → ⊥
Before-not c h = at_same c c h refl
  where
    at_same : (c d : Choice) → Before c d → c ≡ d → ⊥
    at_same c d (fewer h) e = let l = ap length e in omega arith
    at_same c d (level l h) e = Smaller-not d (subst (λ x. Smaller x d) e h)

Before-trans : (c d e : Choice) → Before c d → Before d e → Before c e
Before-trans c d e (fewer h) (fewer g) = fewer (omega arith)
Before-trans c d e (fewer h) (level l g) = fewer (omega arith)
Before-trans c d e (level l h) (fewer g) = fewer (omega arith)
Before-trans c d e (level l h) (level m g) = level (l ∙ m) (Smaller-trans c d e h g)

pub strict : IsStrict Before
strict = record { not = Before-not; trans = Before-trans }
