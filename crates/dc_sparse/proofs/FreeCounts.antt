-- How many nodes are free.
use Rattle.std.proofs.Common.{◌≡◌, ◌≢◌, ℕ, zero, suc, ◌+◌, ◌<◌, ◌≤◌, Bool, true, false, cond, not, List, [], ◌∷◌, ◌++◌, length, refl, arith}
use Rattle.std.proofs.lemmas.List.Sums.{sum_by-cons, count_by-le-length}
use Rattle.dc_math.specs.Tests.{is_zero}
use Rattle.dc_frac.specs.Value.{value}
use Rattle.dc_sparse.specs.declared.web.Node.{Node}
use Rattle.dc_sparse.specs.Nodes.{item, is_live}
use Rattle.dc_sparse.specs.Webs.{free_count}

abbrev pub unit_of : Bool → ℕ
unit_of b = cond b 1 0

abbrev pub weight : Node → ℕ
weight n = unit_of (is_zero (value n.value))

pub free_count-cons : (x : Node) (xs : List Node) → free_count (x ∷ xs) ≡ weight x + free_count xs
free_count-cons x xs = sum_by-cons weight x xs

pub weight-live : (x : Node) → not (is_zero (value x.value)) ≡ true → weight x ≡ 0
weight-live x e = by (is_zero (value x.value)) e
  where
    by : (b : Bool) → not b ≡ true → unit_of b ≡ 0
    by true e = absurd (cc)
    by false e = refl

pub weight-dead : (x : Node) → not (is_zero (value x.value)) ≡ false → weight x ≡ 1
weight-dead x e = by (is_zero (value x.value)) e
  where
    by : (b : Bool) → not b ≡ false → unit_of b ≡ 1
    by true e = refl
    by false e = absurd (cc)

weight-most : (x : Node) → weight x ≤ 1
weight-most x = by (is_zero (value x.value))
  where
    by : (b : Bool) → unit_of b ≤ 1
    by true = omega arith
    by false = omega arith

weight-same : (x y : Node) → not (is_zero (value x.value)) ≡ not (is_zero (value y.value)) → weight x ≡ weight y
weight-same x y e = by (is_zero (value x.value)) (is_zero (value y.value)) e
  where
    by : (b c : Bool) → not b ≡ not c → unit_of b ≡ unit_of c
    by true true e = refl
    by true false e = absurd (cc)
    by false true e = absurd (cc)
    by false false e = refl

pub free_count-same : (xs ys : List Node) → length ys ≡ length xs → ((a : ℕ) → is_live ys a ≡ is_live xs a) → free_count ys ≡ free_count xs
unfolding item
free_count-same [] [] l h = refl
free_count-same [] (y ∷ ys) l h = absurd (omega arith)
free_count-same (x ∷ xs) [] l h = absurd (omega arith)
free_count-same (x ∷ xs) (y ∷ ys) l h =
    let r = free_count-same xs ys (omega arith) (λ a. h (suc a)) in
    omega (arith, free_count-cons x xs, free_count-cons y ys, weight-same y x (h 0))

-- a free node comes to be linked
pub free_count-less : (xs ys : List Node) (n : ℕ) → length ys ≡ length xs → n < length xs → is_live xs n ≡ false → is_live ys n ≡ true → ((a : ℕ) → a ≢ n → is_live ys a ≡ is_live xs a) → free_count ys + 1 ≡ free_count xs
unfolding item
free_count-less [] ys n l lt d e h = absurd (omega arith)
free_count-less (x ∷ xs) [] n l lt d e h = absurd (omega arith)
free_count-less (x ∷ xs) (y ∷ ys) zero l lt d e h =
    let r = free_count-same xs ys (omega arith) (λ a. h (suc a) (λ z. absurd (omega arith))) in
    omega (arith, free_count-cons x xs, free_count-cons y ys, weight-dead x d, weight-live y e)
free_count-less (x ∷ xs) (y ∷ ys) (suc n) l lt d e h =
    let r = free_count-less xs ys n (omega arith) (omega arith) d e (λ a ne. h (suc a) (λ z. ne (let q : suc a ≡ suc n = z in omega arith))) in
    omega (arith, free_count-cons x xs, free_count-cons y ys, weight-same y x (h 0 (λ z. absurd (omega arith))))

pub free_count-at_most : (xs : List Node) → free_count xs ≤ length xs
free_count-at_most xs = count_by-le-length (λ (n : Node). is_zero (value n.value)) xs

-- where a node is linked, not all are free
pub free_count-below : (xs : List Node) (n : ℕ) → n < length xs → is_live xs n ≡ true → free_count xs < length xs
unfolding item
free_count-below [] n lt e = absurd (omega arith)
free_count-below (x ∷ xs) zero lt e = omega (arith, free_count-cons x xs, weight-live x e, free_count-at_most xs)
free_count-below (x ∷ xs) (suc n) lt e = (let r = free_count-below xs n (omega arith) e in omega (arith, free_count-cons x xs, weight-most x))

pub free_count-more : (xs : List Node) (x : Node) → not (is_zero (value x.value)) ≡ false → free_count (xs ++ x ∷ []) ≡ free_count xs + 1
free_count-more [] x e = omega (arith, free_count-cons x [], weight-dead x e)
free_count-more (y ∷ ys) x e = (let r = free_count-more ys x e in omega (arith, free_count-cons y ys, free_count-cons y (ys ++ x ∷ [])))

pub free_count-first : (x : Node) (xs : List Node) → not (is_zero (value x.value)) ≡ false → free_count (x ∷ xs) ≡ 1 + free_count xs
free_count-first x xs e = omega (arith, free_count-cons x xs, weight-dead x e)
