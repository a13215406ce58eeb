-- The list of monomials has each of them and nothing else, in graded order.
use Rattle.std.specs.Prelude.{◌≡◌, ◌⊎◌, ℕ, zero, suc, ◌<◌, ◌≤◌, List, [], ◌∷◌, map, length, refl}
use Rattle.std.specs.List.{AllByRecursion}
use Rattle.std.proofs.Common.{ap, arith, inl, inr}
use Rattle.std.proofs.lemmas.Bool.{cases_lt}
use Rattle.dc_math.specs.Members.{Among, head, each-weaker, each-++, each-map_weaker, among-left, among-right, among_map}
use Rattle.dc_math.specs.OrderedLists.{Ordered, ordered-append, ordered-map}
use Rattle.dc_poly.specs.Terms.{Exponents, degree, Before, lower, level}
use Rattle.dc_poly.specs.Monomials.{IsWithin, raised, widened, of_degree, below, monomials_of}

-- of n places and of degree d
pub record IsExact (n d : ℕ) (m : Exponents) : Type 0 where
  pub places : length m ≡ n
  pub level : degree m ≡ d

raised-exact : (n d : ℕ) (m : Exponents) → IsExact (suc n) d m → IsExact (suc n) (suc d) (raised m)
raised-exact n d [] h = absurd (let l = h.places in omega arith)
raised-exact n d (e ∷ m) h = record { places = h.places; level = (let l = h.level in omega arith) }

wide-exact : (n d : ℕ) (m : Exponents) → IsExact n d m → IsExact (suc n) d (0 ∷ m)
wide-exact n d m h = record { places = ap suc h.places; level = (let l = h.level in omega arith) }

widened-exact : (n : ℕ) (f : ℕ → List Exponents) → ((d : ℕ) → AllByRecursion (IsExact n d) (f d)) → (d : ℕ) → AllByRecursion (IsExact (suc n) d) (widened f d)
widened-exact n f h zero = each-map_weaker (IsExact n 0) (IsExact (suc n) 0) (λ m. 0 ∷ m) (wide-exact n 0) (f zero) (h zero)
widened-exact n f h (suc d) =
    each-++ (IsExact (suc n) (suc d)) (map raised (widened f d)) (map (λ m. 0 ∷ m) (f (suc d)))
    (each-map_weaker (IsExact (suc n) d) (IsExact (suc n) (suc d)) raised (raised-exact n d) (widened f d) (widened-exact n f h d))
    (each-map_weaker (IsExact n (suc d)) (IsExact (suc n) (suc d)) (λ m. 0 ∷ m) (wide-exact n (suc d)) (f (suc d)) (h (suc d)))

pub exact : (n d : ℕ) → AllByRecursion (IsExact n d) (of_degree n d)
exact zero zero = (record { places = refl; level = refl }, tt)
exact zero (suc d) = tt
exact (suc n) d = widened-exact n (of_degree n) (exact n) d

-- ---- order
raised-before : (n d : ℕ) (m k : Exponents) → IsExact (suc n) d m → IsExact (suc n) d k → Before m k → Before (raised m) (raised k)
raised-before n d [] k h g b = absurd (let l = h.places in omega arith)
raised-before n d (e ∷ m) [] h g b = absurd (let l = g.places in omega arith)
raised-before n d (e ∷ m) (f ∷ k) h g (lower b) = lower (omega arith)
raised-before n d (e ∷ m) (f ∷ k) h g (level q (inl b)) = level (omega arith) (inl (omega arith))
raised-before n d (e ∷ m) (f ∷ k) h g (level q (inr b)) = level (omega arith) (inr (ap suc b.0, b.1))

wide-before : (n d : ℕ) (m k : Exponents) → IsExact n d m → IsExact n d k → Before m k → Before (0 ∷ m) (0 ∷ k)
wide-before n d m k h g (lower b) = lower (omega arith)
wide-before n d m k h g (level q b) = level (omega arith) (inr (refl, b))

raised-first : (n d : ℕ) (m k : Exponents) → IsExact (suc n) d m → IsExact n (suc d) k → Before (raised m) (0 ∷ k)
raised-first n d [] k h g = absurd (let l = h.places in omega arith)
raised-first n d (e ∷ m) k h g = level (let a = h.level in let b = g.level in omega arith) (inl (omega arith))

widened-ordered : (n : ℕ) (f : ℕ → List Exponents) → ((d : ℕ) → AllByRecursion (IsExact n d) (f d)) → ((d : ℕ) → Ordered Before (f d)) → (d : ℕ) → Ordered Before (widened f d)
widened-ordered n f h o zero = ordered-map Before (IsExact n 0) (λ m. 0 ∷ m) (wide-before n 0) (f zero) (h zero) (o zero)
widened-ordered n f h o (suc d) =
    ordered-append Before (map raised (widened f d)) (map (λ m. 0 ∷ m) (f (suc d)))
    (ordered-map Before (IsExact (suc n) d) raised (raised-before n d) (widened f d) (widened-exact n f h d) (widened-ordered n f h o d))
    (ordered-map Before (IsExact n (suc d)) (λ m. 0 ∷ m) (wide-before n (suc d)) (f (suc d)) (h (suc d)) (o (suc d)))
    (each-map_weaker (IsExact (suc n) d) (λ x. AllByRecursion (Before x) (map (λ m. 0 ∷ m) (f (suc d)))) raised
    (λ m g. each-map_weaker (IsExact n (suc d)) (Before (raised m)) (λ k. 0 ∷ k) (λ k j. raised-first n d m k g j) (f (suc d)) (h (suc d))) (widened f d) (widened-exact n f h d))

ordered : (n d : ℕ) → Ordered Before (of_degree n d)
ordered zero zero = (tt, tt)
ordered zero (suc d) = tt
ordered (suc n) d = widened-ordered n (of_degree n) (exact n) (ordered n) d

-- ---- each of them
widened-every : (n : ℕ) (f : ℕ → List Exponents) → ((d : ℕ) (m : Exponents) → IsExact n d m → Among m (f d)) → (d e : ℕ) (m : Exponents) → IsExact (suc n) d (e ∷ m) → Among (e ∷ m) (widened f d)
widened-every n f h zero zero m g = among_map (λ k. 0 ∷ k) (h zero m (record { places = (let l = g.places in omega arith); level = (let l = g.level in omega arith) }))
widened-every n f h zero (suc e) m g = absurd (let l = g.level in omega arith)
widened-every n f h (suc d) zero m g =
    among-right (map raised (widened f d))
    (among_map (λ k. 0 ∷ k) (h (suc d) m (record { places = (let l = g.places in omega arith); level = (let l = g.level in omega arith) })))
widened-every n f h (suc d) (suc e) m g =
    among-left (map (λ k. 0 ∷ k) (f (suc d)))
    (among_map raised (widened-every n f h d e m (record { places = g.places; level = (let l = g.level in omega arith) })))

every : (n d : ℕ) (m : Exponents) → IsExact n d m → Among m (of_degree n d)
every zero zero [] h = head
every zero (suc d) [] h = absurd (let l = h.level in omega arith)
every zero d (e ∷ m) h = absurd (let l = h.places in omega arith)
every (suc n) d [] h = absurd (let l = h.places in omega arith)
every (suc n) d (e ∷ m) h = widened-every n (of_degree n) (every n) d e m h

-- ---- of all degrees below d
pub record IsBelow (n d : ℕ) (m : Exponents) : Type 0 where
  pub places : length m ≡ n
  pub low : degree m < d

pub below-only : (n d : ℕ) → AllByRecursion (IsBelow n d) (below n d)
below-only n zero = tt
below-only n (suc d) =
    each-++ (IsBelow n (suc d)) (below n d) (of_degree n d)
    (each-weaker (IsBelow n d) (IsBelow n (suc d)) (λ m h. record { places = h.places; low = (let l = h.low in omega arith) }) (below n d) (below-only n d))
    (each-weaker (IsExact n d) (IsBelow n (suc d)) (λ m h. record { places = h.places; low = (let l = h.level in omega arith) }) (of_degree n d) (exact n d))

pub below-ordered : (n d : ℕ) → Ordered Before (below n d)
below-ordered n zero = tt
below-ordered n (suc d) =
    ordered-append Before (below n d) (of_degree n d) (below-ordered n d) (ordered n d)
    (each-weaker (IsBelow n d) (λ x. AllByRecursion (Before x) (of_degree n d))
    (λ m h. each-weaker (IsExact n d) (Before m) (λ k g. lower (let a = h.low in let b = g.level in omega arith)) (of_degree n d) (exact n d)) (below n d) (below-only n d))

below-every : (n d : ℕ) (m : Exponents) → length m ≡ n → degree m < d → Among m (below n d)
below-every n zero m l h = absurd (omega arith)
below-every n (suc d) m l h = by (below-every n d m l) (cases_lt (degree m) d)
  where
    by : (degree m < d → Among m (below n d)) → (degree m < d) ⊎ (d ≤ degree m) → Among m (below n (suc d))
    by r (inl g) = among-left (of_degree n d) (r g)
    by r (inr g) = among-right (below n d) (every n d m (record { places = l; level = omega arith }))

-- a list in order of monomials of n places and of degree at most d
pub list_ordered : (n d : ℕ) → Ordered Before (monomials_of n d)
list_ordered n d = below-ordered n (suc d)

pub list_every : (n d : ℕ) (m : Exponents) → IsWithin n d m → Among m (monomials_of n d)
list_every n d m h = below-every n (suc d) m h.places (let l = h.low in omega arith)
