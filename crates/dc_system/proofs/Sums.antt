-- A sum of products, one after another.
use Rattle.std.specs.Prelude.{◌≡◌, ◌⊎◌, ℕ, zero, suc, ◌+◌, ◌*◌, ◌≤◌, ◌<◌, min, List, [], ◌∷◌, length, get_or, drop, ℤ, pos, ◌+ℤ◌, ◌*ℤ◌, unsigned_abs, refl}
use Rattle.std.proofs.Common.{sym, ◌∙◌, ap, ap₂, subst, arith, inl, inr}
use Rattle.std.proofs.lemmas.Int.{ints, unsigned_abs-mul}
use Rattle.std.proofs.lemmas.Bool.{cases_lt}
use Rattle.std.proofs.lemmas.List.{drop_more, drop_all}
use Rattle.dc_poly.specs.Terms.{Exponents, coef, Polynomial}
use Rattle.dc_poly.proofs.Sizes.{mul_both}
use Rattle.dc_poly.specs.NormalForm.{most}
use Rattle.dc_affine.specs.Atoms.{AllFit}
use Rattle.dc_system.specs.Composed.{coef_at}

pub product_small : (x y : ℤ) → unsigned_abs x ≤ most → unsigned_abs y ≤ most → unsigned_abs (x *ℤ y) ≤ most * most
product_small x y h k = let a = unsigned_abs-mul x y in let b = mul_both (unsigned_abs x) most (unsigned_abs y) most h k in omega arith

pub fit_at : (cs : List ℤ) (k : ℕ) (c : ℤ) → AllFit cs → k < length cs → c ≡ get_or cs k (pos 0) → unsigned_abs c ≤ most
fit_at [] k c h l e = absurd (omega arith)
fit_at (x ∷ cs) zero c h l e = subst (λ z. unsigned_abs z ≤ most) (sym e) h.0
fit_at (x ∷ cs) (suc k) c h l e = fit_at cs k c h.1 (omega arith) e

pub dot_step : (cs : List ℤ) (vs : List Polynomial) (k : ℕ) (c : ℤ) (v : Polynomial) (u : Exponents) (o p q f : ℤ) → k < length cs → k < length vs → c ≡ get_or cs k (pos 0) → v ≡ get_or vs k v → p ≡ c *ℤ coef v.terms u → q ≡ o +ℤ p
    → o +ℤ coef_at (drop k cs) (drop k vs) u ≡ f → q +ℤ coef_at (drop (k + 1) cs) (drop (k + 1) vs) u ≡ f
dot_step cs vs k c v u o p q f h g a b d e i =
    let x : coef_at (drop k cs) (drop k vs) u ≡ c *ℤ coef v.terms u +ℤ coef_at (drop (k + 1) cs) (drop (k + 1) vs) u =
    ap₂ (λ y z. coef_at y z u) (drop_more cs k (pos 0) h ∙ ap (λ y. y ∷ drop (k + 1) cs) (sym a)) (drop_more vs k v g ∙ ap (λ y. y ∷ drop (k + 1) vs) (sym b)) in
    turn o p q f (coef_at (drop k cs) (drop k vs) u) (c *ℤ coef v.terms u) (coef_at (drop (k + 1) cs) (drop (k + 1) vs) u) d e i x
  where
    turn : (o p q f x y z : ℤ) → p ≡ y → q ≡ o +ℤ p → o +ℤ x ≡ f → x ≡ y +ℤ z → q +ℤ z ≡ f
    turn o p q f x y z a b c d = omega (arith, ints)

pub dot_end : (cs : List ℤ) (vs : List Polynomial) (k : ℕ) (u : Exponents) (o f : ℤ) → min (length cs) (length vs) ≤ k → o +ℤ coef_at (drop k cs) (drop k vs) u ≡ f → o ≡ f
dot_end cs vs k u o f h i = by (cases_of (cases_lt k (length cs)))
  where
    nil : (cs : List ℤ) → coef_at cs [] u ≡ pos 0
    nil [] = refl
    nil (c ∷ cs) = refl

    zero_end : coef_at (drop k cs) (drop k vs) u ≡ pos 0 → o ≡ f
    zero_end e = let j = i in omega (arith, ints)

    cases_of : (k < length cs) ⊎ (length cs ≤ k) → (length cs ≤ k) ⊎ (k < length cs)
    cases_of (inl l) = inr l
    cases_of (inr l) = inl l

    by : (length cs ≤ k) ⊎ (k < length cs) → o ≡ f
    by (inl l) = zero_end (ap (λ y. coef_at y (drop k vs) u) (drop_all k cs l))
    by (inr l) = zero_end (ap (λ y. coef_at (drop k cs) y u) (drop_all k vs (omega arith)) ∙ nil (drop k cs))

pub sum_small : (s p : ℤ) (k : ℕ) → unsigned_abs s ≤ k * (most * most) → unsigned_abs p ≤ most * most → unsigned_abs (s +ℤ p) ≤ (k + 1) * (most * most)
sum_small s p k h g = omega (arith, ints)
