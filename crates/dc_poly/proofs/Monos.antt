-- What the functions of monomials need: degrees, graded order by a scan, products and units place by place.
use Rattle.std.specs.Prelude.{◌≡◌, ℕ, zero, suc, ◌+◌, ◌<◌, ◌≤◌, min, List, [], ◌∷◌, ◌++◌, length, get_or, take, drop, set, replicate, refl}
use Rattle.std.proofs.Common.{sym, ◌∙◌, ap, arith, add-one, subst, inl, inr}
use Rattle.std.proofs.Math.Seq.{drop-cons}
use Rattle.std.proofs.lemmas.List.{drop_all, append_assoc, append-nil, take_all}
use Rattle.std.specs.declared.cmp.Ordering.{Ordering}
use Rattle.std.specs.declared.cmp.Ordering.TheVariants.{Less, Equal, Greater}
use Rattle.std.specs.Ordering.{MatchOrdering, nat_cmp}
use Rattle.std.proofs.lemmas.Cmp.{ranked}
use Rattle.dc_poly.specs.Terms as terms
use Rattle.dc_poly.specs.Terms.{degree, Before, lower, level}
use Rattle.dc_poly.proofs.Graded.{Before-not, Before-trans, graded_told}
use Rattle.dc_poly.specs.Order.{graded, Told}
use Rattle.dc_poly.specs.Sums.{times_mono, zeros, unit_at}

-- ---- degrees
pub degree_step : (i : ℕ) (m : List ℕ) → i < length m → degree (drop i m) ≡ get_or m i 0 + degree (drop (i + 1) m)
degree_step i m h = rw add-one (ap degree (drop-cons m i 0 h))

pub degree_done : (i : ℕ) (m : List ℕ) → length m ≤ i → degree (drop i m) ≡ 0
degree_done i m h = ap degree (drop_all i m h)

pub ruleset degrees = (degree_step, degree_done)

-- an exponent is at most the degree
pub exponent_low : (i : ℕ) (m : List ℕ) → i < length m → get_or m i 0 ≤ degree m
exponent_low i [] h = absurd (omega arith)
exponent_low zero (e ∷ m) h = omega arith
exponent_low (suc i) (e ∷ m) h = let k = exponent_low i m (omega arith) in omega arith

-- ---- graded order
one_told : (m k : List ℕ) (a b : Ordering) → Told m k a → Told m k b → a ≡ b
one_told m k Less Less h t = refl
one_told m k Less Equal h t = absurd (Before-not k (subst (λ x. Before x k) t h))
one_told m k Less Greater h t = absurd (Before-not m (Before-trans m k m h t))
one_told m k Equal Less h t = absurd (Before-not k (subst (λ x. Before x k) h t))
one_told m k Equal Equal h t = refl
one_told m k Equal Greater h t = absurd (Before-not k (subst (λ x. Before k x) h t))
one_told m k Greater Less h t = absurd (Before-not m (Before-trans m k m t h))
one_told m k Greater Equal h t = absurd (Before-not k (subst (λ x. Before k x) t h))
one_told m k Greater Greater h t = refl

graded_is : (m k : List ℕ) (r : Ordering) → Told m k r → graded m k ≡ r
graded_is m k r t = one_told m k (graded m k) r (graded_told m k) t

pub graded_lower : (m k : List ℕ) → degree m < degree k → graded m k ≡ Less
graded_lower m k h = graded_is m k Less (lower h)

pub graded_higher : (m k : List ℕ) → degree k < degree m → graded m k ≡ Greater
graded_higher m k h = graded_is m k Greater (lower h)

greater_at : (i : ℕ) (a b : List ℕ) → i < length a → i < length b → take i a ≡ take i b → get_or b i 0 < get_or a i 0 → terms.Greater a b
greater_at i [] b h k e l = absurd (omega arith)
greater_at i (x ∷ a) [] h k e l = absurd (omega arith)
greater_at zero (x ∷ a) (y ∷ b) h k e l = inl l
greater_at (suc i) (x ∷ a) (y ∷ b) h k e l = inr ((let q : x ≡ y = cc in q), greater_at i a b (omega arith) (omega arith) (let q : take i a ≡ take i b = cc in q) l)

pub graded_first : (i : ℕ) (a b : List ℕ) → degree a ≡ degree b → i < length a → i < length b → take i a ≡ take i b → get_or b i 0 < get_or a i 0 → graded a b ≡ Less
graded_first i a b d h l e g = graded_is a b Less (level d (greater_at i a b h l e g))

pub graded_second : (i : ℕ) (a b : List ℕ) → degree a ≡ degree b → i < length a → i < length b → take i a ≡ take i b → get_or a i 0 < get_or b i 0 → graded a b ≡ Greater
graded_second i a b d h l e g = graded_is a b Greater (level (sym d) (greater_at i b a l h (sym e) g))

greater_end : (a b : List ℕ) → length a < length b → take (length a) a ≡ take (length a) b → terms.Greater a b
greater_end [] [] h e = absurd (omega arith)
greater_end [] (y ∷ b) h e = tt
greater_end (x ∷ a) [] h e = absurd (omega arith)
greater_end (x ∷ a) (y ∷ b) h e = inr ((let q : x ≡ y = cc in q), greater_end a b (omega arith) (let q : take (length a) a ≡ take (length a) b = cc in q))

pub graded_end : (a b : List ℕ) (r : Ordering) → degree a ≡ degree b → take (min (length a) (length b)) a ≡ take (min (length a) (length b)) b → r ≡ nat_cmp (length a) (length b) → r ≡ graded a b
graded_end a b r d e h = sym (graded_is a b r (told r (ranked (length a) (length b) r h)))
  where
    upto : (n : ℕ) → n ≡ min (length a) (length b) → take n a ≡ take n b
    upto n q = subst (λ k. take k a ≡ take k b) (sym q) e

    told : (r : Ordering) → MatchOrdering r (length a < length b) (length a ≡ length b) (length b < length a) → Told a b r
    told Less m = level d (greater_end a b m (upto (length a) (omega arith)))
    told Equal m = sym (take_all (length a) a (omega arith)) ∙ upto (length a) (omega arith) ∙ take_all (length a) b (omega arith)
    told Greater m = level (sym d) (greater_end b a m (sym (upto (length b) (omega arith))))

pub ruleset orders = (graded_lower, graded_higher, graded_first, graded_second, graded_end)

-- ---- products
times_step : (i : ℕ) (a b : List ℕ) → i < length a → i < length b → times_mono (drop i a) (drop i b) ≡ (get_or a i 0 + get_or b i 0) ∷ times_mono (drop (i + 1) a) (drop (i + 1) b)
times_step i a b h k = rw (drop-cons a i 0 h, drop-cons b i 0 k, add-one) refl

pub times_push : (i : ℕ) (o a b : List ℕ) (x : ℕ) → i < length a → length b ≡ length a → x ≡ get_or a i 0 + get_or b i 0 → o ++ times_mono (drop i a) (drop i b) ≡ times_mono a b → (o ++ x ∷ []) ++ times_mono (drop (i + 1) a) (drop (i + 1) b) ≡ times_mono a b
times_push i o a b x h l e k = rw (append_assoc, e, ← times_step i a b h (omega arith)) k

pub times_done : (i : ℕ) (o a b : List ℕ) → length a ≤ i → length b ≡ length a → o ++ times_mono (drop i a) (drop i b) ≡ times_mono a b → o ≡ times_mono a b
times_done i o a b h l k = sym (append-nil o) ∙ ap (λ y. o ++ y) (sym none) ∙ k
  where
    none : times_mono (drop i a) (drop i b) ≡ []
    none = rw (drop_all i a h, drop_all i b (omega arith)) refl

pub sum_low : (i : ℕ) (a b : List ℕ) → i < length a → i < length b → degree a + degree b ≤ 255 → get_or a i 0 + get_or b i 0 ≤ 255
sum_low i a b h k l = let x = exponent_low i a h in let y = exponent_low i b k in omega arith

pub ruleset products = (times_push, times_done, sum_low)

-- ---- constants and variables
zeros_taken : (n m : ℕ) → n ≤ m → take n (replicate m 0) ≡ zeros n
zeros_taken zero m h = refl
zeros_taken (suc n) zero h = absurd (omega arith)
zeros_taken (suc n) (suc m) h = ap (λ l. 0 ∷ l) (zeros_taken n m (omega arith))

pub unit_taken : (n m k : ℕ) → k < n → n ≤ m → take n (set (replicate m 0) k 1) ≡ unit_at n k
unit_taken zero m k h l = absurd (omega arith)
unit_taken (suc n) zero k h l = absurd (omega arith)
unit_taken (suc n) (suc m) zero h l = ap (λ l. 1 ∷ l) (zeros_taken n m (omega arith))
unit_taken (suc n) (suc m) (suc k) h l = ap (λ l. 0 ∷ l) (unit_taken n m k (omega arith) (omega arith))

pub one_taken : (n : ℕ) → n ≤ 11 → take n (replicate 11 0) ≡ zeros n
one_taken n h = zeros_taken n 11 h

pub ruleset starts = (one_taken, unit_taken)
