-- The number of monomials goes by Pascal's rule.
use Rattle.std.specs.Prelude.{◌≡◌, ℕ, zero, suc, ◌+◌, List, ◌∷◌, map, length, refl}
use Rattle.std.proofs.Common.{◌∙◌, ap₂, arith, length-append}
use Rattle.std.proofs.lemmas.List.{length-map}
use Rattle.dc_math.specs.Pascal.{IsPascal}
use Rattle.dc_poly.specs.Terms.{Exponents}
use Rattle.dc_poly.specs.Monomials.{raised, widened, of_degree, below, monomials_of}

-- one place more: as many as with one degree less, and those without the place
next_zero : (f : ℕ → List Exponents) → length (widened f 0) ≡ length (f 0)
next_zero f = length-map (f 0) (λ m. 0 ∷ m)

next_more : (f : ℕ → List Exponents) (d : ℕ) → length (widened f (suc d)) ≡ length (widened f d) + length (f (suc d))
next_more f d =
    let a = length-append (map raised (widened f d)) (map (λ m. 0 ∷ m) (f (suc d))) in
    let b = length-map (widened f d) raised in
    let c = length-map (f (suc d)) (λ m. 0 ∷ m) in
    a ∙ ap₂ (λ x y. x + y) b c

below_more : (n d : ℕ) → length (below n (suc d)) ≡ length (below n d) + length (of_degree n d)
below_more n d = length-append (below n d) (of_degree n d)

-- with one place more and of one degree: as many as of at most that degree
level_is : (n d : ℕ) → length (of_degree (suc n) d) ≡ length (monomials_of n d)
level_is n zero = let a = next_zero (of_degree n) in let b = below_more n 0 in omega arith
level_is n (suc d) = let a = next_more (of_degree n) d in let b = below_more n (suc d) in let c = level_is n d in omega arith

rule : (n d : ℕ) → length (monomials_of (suc n) (suc d)) ≡ length (monomials_of (suc n) d) + length (monomials_of n (suc d))
rule n d = let a = below_more (suc n) (suc d) in let b = level_is n (suc d) in omega arith

no_places : (d : ℕ) → length (monomials_of 0 d) ≡ 1
no_places zero = refl
no_places (suc d) = let a = below_more 0 (suc d) in let b = no_places d in omega arith

pub no_degree : (n : ℕ) → length (monomials_of n 0) ≡ 1
no_degree zero = refl
no_degree (suc n) = let a = below_more (suc n) 0 in let b = level_is n 0 in let c = no_degree n in omega arith

pub pascal : IsPascal (λ n d. length (monomials_of n d))
pascal = record { none = no_places; empty = no_degree; rule = rule }
