-- The list of choices has each of them and nothing else, in order.
use Rattle.std.specs.Prelude.{◌≡◌, ◌⊎◌, ℕ, zero, suc, ◌+◌, ◌<◌, ◌≤◌, List, [], ◌∷◌, map, length, refl}
use Rattle.std.specs.List.{AllByRecursion}
use Rattle.std.proofs.Common.{ap, subst, arith, inl, inr}
use Rattle.std.proofs.lemmas.Bool.{cases_lt}
use Rattle.dc_math.specs.Members.{Among, head, each-weaker, each-++, each-map_weaker, each_among, among-left, among-right, among_image}
use Rattle.dc_handelman.specs.Choices.{Choice, Rises, IsChoice, Before, fewer, level, AreChoices, AreFixed, widened, of_size, below, choices_of}
use Rattle.dc_math.specs.OrderedLists.{Ordered, ordered-append, ordered-map, same_members, pairs_ordered, ordered_pairs}
use Rattle.dc_handelman.proofs.Orders.{strict}

-- k numbers, from low on and below n
pub record IsExact (n low k : ℕ) (c : Choice) : Type 0 where
  pub size : length c ≡ k
  pub rises : Rises n low c

with-exact : (n low k : ℕ) (c : Choice) → low < n → IsExact n low k c → IsExact n low (suc k) (low ∷ c)
with-exact n low k c h e = record { size = ap suc e.size; rises = (omega arith, h, e.rises) }

without-exact : (n low k : ℕ) (c : Choice) → IsExact n (suc low) k c → IsExact n low k c
without-exact n low k [] e = record { size = e.size; rises = tt }
without-exact n low k (i ∷ c) e = record { size = e.size; rises = ((let l = e.rises.0 in omega arith), e.rises.1, e.rises.2) }

widened-exact : (n low : ℕ) (f : ℕ → List Choice) → low < n → ((k : ℕ) → AllByRecursion (IsExact n (suc low) k) (f k)) → (k : ℕ) → AllByRecursion (IsExact n low k) (widened low f k)
widened-exact n low f l h zero = (record { size = refl; rises = tt }, tt)
widened-exact n low f l h (suc k) =
    each-++ (IsExact n low (suc k)) (map (λ c. low ∷ c) (widened low f k)) (f (suc k))
    (each-map_weaker (IsExact n low k) (IsExact n low (suc k)) (λ c. low ∷ c) (λ c. with-exact n low k c l) (widened low f k) (widened-exact n low f l h k))
    (each-weaker (IsExact n (suc low) (suc k)) (IsExact n low (suc k)) (without-exact n low (suc k)) (f (suc k)) (h (suc k)))

exact : (more low n k : ℕ) → n ≡ more + low → AllByRecursion (IsExact n low k) (of_size more low k)
exact zero low n zero e = (record { size = refl; rises = tt }, tt)
exact zero low n (suc k) e = tt
exact (suc more) low n k e = widened-exact n low (of_size more (suc low)) (omega arith) (λ j. exact more (suc low) n j (omega arith)) k

-- ---- order
with-before : (low : ℕ) (c d : Choice) → Before c d → Before (low ∷ c) (low ∷ d)
with-before low c d (fewer h) = fewer (omega arith)
with-before low c d (level l h) = level (omega arith) (inr (refl, h))

with-first : (n low k : ℕ) (c d : Choice) → IsExact n low k c → IsExact n (suc low) (suc k) d → Before (low ∷ c) d
with-first n low k c [] h g = absurd (let l = g.size in omega arith)
with-first n low k c (i ∷ d) h g = level (let a = h.size in let b = g.size in omega arith) (inl (let l = g.rises.0 in omega arith))

widened-ordered : (n low : ℕ) (f : ℕ → List Choice) → low < n → ((k : ℕ) → AllByRecursion (IsExact n (suc low) k) (f k)) → ((k : ℕ) → Ordered Before (f k)) → (k : ℕ) → Ordered Before (widened low f k)
widened-ordered n low f l h o zero = (tt, tt)
widened-ordered n low f l h o (suc k) =
    ordered-append Before (map (λ c. low ∷ c) (widened low f k)) (f (suc k))
    (ordered-map Before (IsExact n low k) (λ c. low ∷ c) (λ c d g j. with-before low c d) (widened low f k) (widened-exact n low f l h k) (widened-ordered n low f l h o k)) (o (suc k))
    (each-map_weaker (IsExact n low k) (λ x. AllByRecursion (Before x) (f (suc k))) (λ c. low ∷ c)
    (λ c g. each-weaker (IsExact n (suc low) (suc k)) (Before (low ∷ c)) (λ d j. with-first n low k c d g j) (f (suc k)) (h (suc k))) (widened low f k) (widened-exact n low f l h k))

ordered : (more low n k : ℕ) → n ≡ more + low → Ordered Before (of_size more low k)
ordered zero low n zero e = (tt, tt)
ordered zero low n (suc k) e = tt
ordered (suc more) low n k e =
    widened-ordered n low (of_size more (suc low)) (omega arith) (λ j. exact more (suc low) n j (omega arith)) (λ j. ordered more (suc low) n j (omega arith)) k

-- ---- each of them
widened-every : (n low : ℕ) (f : ℕ → List Choice) → ((k : ℕ) (c : Choice) → IsExact n (suc low) k c → Among c (f k)) → (k : ℕ) (c : Choice) → IsExact n low k c → Among c (widened low f k)
widened-every n low f h zero [] g = head
widened-every n low f h zero (i ∷ c) g = absurd (let l = g.size in omega arith)
widened-every n low f h (suc k) [] g = absurd (let l = g.size in omega arith)
widened-every n low f h (suc k) (i ∷ c) g = by (widened-every n low f h k c) (cases_lt low i)
  where
    by : (IsExact n low k c → Among c (widened low f k)) → (low < i) ⊎ (i ≤ low) → Among (i ∷ c) (widened low f (suc k))
    by r (inl a) =
        among-right (map (λ d. low ∷ d) (widened low f k)) (h (suc k) (i ∷ c) (record { size = g.size; rises = (omega arith, g.rises.1, g.rises.2) }))
    by r (inr a) =
        let q : i ≡ low = (let l = g.rises.0 in omega arith) in
        among-left (f (suc k))
        (among_image (λ d. low ∷ d) (ap (λ j. j ∷ c) q) (r (record { size = (let l = g.size in omega arith); rises = subst (λ j. Rises n j c) q g.rises.2 })))

every : (more low n k : ℕ) (c : Choice) → n ≡ more + low → IsExact n low k c → Among c (of_size more low k)
every zero low n zero [] e h = head
every zero low n (suc k) [] e h = absurd (let l = h.size in omega arith)
every zero low n k (i ∷ c) e h = absurd (let a = h.rises.0 in let b = h.rises.1 in omega arith)
every (suc more) low n k c e h = widened-every n low (of_size more (suc low)) (λ j d. every more (suc low) n j d (omega arith)) k c h

-- ---- of all sizes below k
record IsBelow (n k : ℕ) (c : Choice) : Type 0 where
  few : length c < k
  rises : Rises n 0 c

below-only : (n k : ℕ) → AllByRecursion (IsBelow n k) (below n k)
below-only n zero = tt
below-only n (suc k) =
    each-++ (IsBelow n (suc k)) (below n k) (of_size n 0 k)
    (each-weaker (IsBelow n k) (IsBelow n (suc k)) (λ c h. record { few = (let l = h.few in omega arith); rises = h.rises }) (below n k) (below-only n k))
    (each-weaker (IsExact n 0 k) (IsBelow n (suc k)) (λ c h. record { few = (let l = h.size in omega arith); rises = h.rises }) (of_size n 0 k) (exact n 0 n k (omega arith)))

below-ordered : (n k : ℕ) → Ordered Before (below n k)
below-ordered n zero = tt
below-ordered n (suc k) =
    ordered-append Before (below n k) (of_size n 0 k) (below-ordered n k) (ordered n 0 n k (omega arith))
    (each-weaker (IsBelow n k) (λ x. AllByRecursion (Before x) (of_size n 0 k))
    (λ c h. each-weaker (IsExact n 0 k) (Before c) (λ d g. fewer (let a = h.few in let b = g.size in omega arith)) (of_size n 0 k) (exact n 0 n k (omega arith))) (below n k) (below-only n k))

below-every : (n k : ℕ) (c : Choice) → Rises n 0 c → length c < k → Among c (below n k)
below-every n zero c l h = absurd (omega arith)
below-every n (suc k) c l h = by (below-every n k c l) (cases_lt (length c) k)
  where
    by : (length c < k → Among c (below n k)) → (length c < k) ⊎ (k ≤ length c) → Among c (below n (suc k))
    by r (inl g) = among-left (of_size n 0 k) (r g)
    by r (inr g) = among-right (below n k) (every n 0 n k c (omega arith) (record { size = omega arith; rises = l }))

-- ---- the two laws
pub are_choices : (n k : ℕ) → AreChoices n k (choices_of n k)
are_choices n k = record {
  only = each-weaker (IsBelow n (suc k)) (IsChoice n k) (λ c h. record { few = (let l = h.few in omega arith); rises = h.rises }) (choices_of n k) (below-only n (suc k));
  each = λ c h. below-every n (suc k) c h.rises (let l = h.few in omega arith);
  in_order = pairs_ordered Before (choices_of n k) (below-ordered n (suc k));
}

pub are_fixed : AreFixed
are_fixed n k cs ds h g = same_members Before strict cs ds (ordered_pairs Before cs h.in_order) (ordered_pairs Before ds g.in_order) (within cs ds h g) (within ds cs g h)
  where
    within : (cs ds : List Choice) → AreChoices n k cs → AreChoices n k ds → (c : Choice) → Among c cs → Among c ds
    within cs ds h g c i = g.each c (each_among (IsChoice n k) h.only i)
