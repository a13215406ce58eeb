-- One step of the walk that makes the list, and of the loop that counts it.
use Rattle.std.specs.Prelude.{◌≡◌, ℕ, zero, suc, ◌+◌, ◌-◌, ◌*◌, ◌/◌, ◌≤◌, ◌<◌, List, [], ◌∷◌, ◌++◌, map, length, refl}
use Rattle.std.specs.List.{AllByRecursion}
use Rattle.std.proofs.Common.{sym, ◌∙◌, ap, ap₂, arith, append_assoc}
use Rattle.std.proofs.lemmas.List.{map-append, append-nil}
use Rattle.dc_poly.specs.Terms.{Exponents, degree}
use Rattle.dc_poly.specs.Sums.{times_mono, zeros, unit_at}
use Rattle.dc_poly.proofs.Padded.{length-times, length-unit_at, length-zeros}
use Rattle.dc_poly.proofs.Degrees.{degree-times_mono, degree-unit_at, degree-zeros}
use Rattle.dc_poly.specs.Monomials.{raised, of_degree, below, monomials_of}
use Rattle.dc_template.specs.Monomials.{joined, continued}
use Rattle.dc_poly.proofs.Listed.{IsExact, exact}
use Rattle.dc_poly.proofs.Counts.{no_degree}
use Rattle.dc_template.proofs.Counts.{next, count_small}

times-zeros : (m : Exponents) (n : ℕ) → n ≤ length m → times_mono m (zeros n) ≡ m
times-zeros [] zero h = refl
times-zeros [] (suc n) h = absurd (omega arith)
times-zeros (e ∷ m) zero h = refl
times-zeros (e ∷ m) (suc n) h = ap₂ ◌∷◌ (let q : e + 0 ≡ e = omega arith in q) (times-zeros m n (omega arith))

times-nil : (m : Exponents) → times_mono m [] ≡ m
times-nil [] = refl
times-nil (e ∷ m) = refl

mapped : (f g h : Exponents → Exponents) → ((k : Exponents) → f (g k) ≡ h k) → (ks : List Exponents) → map f (map g ks) ≡ map h ks
mapped f g h s [] = refl
mapped f g h s (k ∷ ks) = ap₂ ◌∷◌ (s k) (mapped f g h s ks)

-- ---- with the variable at the place, and without it
joined-raised : (m : Exponents) (at n : ℕ) (k : Exponents) → n ≡ length m → at < length m → joined m at (raised k) ≡ joined (times_mono m (unit_at n at)) at k
joined-raised [] at n k q h = absurd (omega arith)
joined-raised (e ∷ m) at zero k q h = absurd (omega arith)
joined-raised (e ∷ m) zero (suc n) [] q h = ap (λ l. (e + 1) ∷ l) (times-nil m ∙ sym (times-zeros m n (omega arith)))
joined-raised (e ∷ m) zero (suc n) (f ∷ k) q h =
    ap₂ (λ x l. x ∷ times_mono l k) (let g : e + suc f ≡ (e + 1) + f = omega arith in g) (sym (times-zeros m n (omega arith)))
joined-raised (e ∷ m) (suc at) (suc n) k q h =
    ap₂ ◌∷◌ (let g : e + 0 ≡ (e + 0) + 0 = omega arith in g) (joined-raised m at n k (omega arith) (omega arith))

moved : (at : ℕ) (k : Exponents) → zeros at ++ (0 ∷ k) ≡ zeros (suc at) ++ k
moved zero k = refl
moved (suc at) k = ap (λ l. 0 ∷ l) (moved at k)

joined-wide : (m : Exponents) (at : ℕ) (k : Exponents) → joined m at (0 ∷ k) ≡ joined m (suc at) k
joined-wide m at k = ap (times_mono m) (moved at k)

zeros-append : (a b : ℕ) → zeros a ++ zeros b ≡ zeros (a + b)
zeros-append zero b = ap zeros (let q : b ≡ zero + b = omega arith in q)
zeros-append (suc a) b = ap (λ l. 0 ∷ l) (zeros-append a b) ∙ ap zeros (let q : suc (a + b) ≡ suc a + b = omega arith in q)

pub degree_zero : (n : ℕ) → of_degree n 0 ≡ zeros n ∷ []
degree_zero zero = refl
degree_zero (suc n) = ap (map (λ m. 0 ∷ m)) (degree_zero n)

-- ---- one call of the walk
continued-zero : (m : Exponents) (at : ℕ) → at ≤ length m → continued m at 0 ≡ m ∷ []
continued-zero m at h =
    ap (map (joined m at)) (degree_zero (length m - at))
    ∙ ap (λ k. k ∷ []) (ap (times_mono m) (zeros-append at (length m - at) ∙ ap zeros (let q : at + (length m - at) ≡ length m = omega arith in q)) ∙ times-zeros m (length m) (omega arith))

continued-end : (m : Exponents) (at d : ℕ) → length m ≤ at → continued m at (suc d) ≡ []
continued-end m at d h = ap (λ n. map (joined m at) (of_degree n (suc d))) (let q : length m - at ≡ 0 = omega arith in q)

continued-more : (m t : Exponents) (at d : ℕ) → at < length m → t ≡ times_mono m (unit_at (length m) at) → continued m at (suc d) ≡ continued t at d ++ continued m (suc at) (suc d)
continued-more m t at d h e =
    ap (λ n. map (joined m at) (of_degree n (suc d))) (let q : length m - at ≡ suc (length m - suc at) = omega arith in q)
    ∙ map-append (joined m at) (map raised (of_degree (suc (length m - suc at)) d)) (map (λ k. 0 ∷ k) (of_degree (length m - suc at) (suc d)))
    ∙ ap₂ ◌++◌ first (mapped (joined m at) (λ k. 0 ∷ k) (joined m (suc at)) (joined-wide m at) (of_degree (length m - suc at) (suc d)))
  where
    same : length t ≡ length m
    same = ap length e ∙ length-times (length m) m (unit_at (length m) at) refl (length-unit_at (length m) at)

    left : suc (length m - suc at) ≡ length t - at
    left = (let s = same in omega arith)

    first : map (joined m at) (map raised (of_degree (suc (length m - suc at)) d)) ≡ continued t at d
    first =
        mapped (joined m at) raised (joined t at) (λ k. joined-raised m at (length m) k refl h ∙ ap (λ l. joined l at k) (sym e)) (of_degree (suc (length m - suc at)) d)
        ∙ ap (λ n. map (joined t at) (of_degree n d)) left

pub walk_base : (m : Exponents) (at d : ℕ) (o p : List Exponents) → p ≡ o ++ m ∷ [] → d ≡ 0 → at ≤ length m → p ≡ o ++ continued m at d
walk_base m at d o p e z h = e ∙ ap (λ l. o ++ l) (sym (ap (continued m at) z ∙ continued-zero m at h))

pub walk_end : (m : Exponents) (at d : ℕ) (o p : List Exponents) → p ≡ o → ¬ (d ≡ 0) → length m ≤ at → p ≡ o ++ continued m at d
walk_end m at zero o p e n h = absurd (n refl)
walk_end m at (suc d) o p e n h = e ∙ sym (append-nil o) ∙ ap (λ l. o ++ l) (sym (continued-end m at d h))

pub walk_more : (m t u : Exponents) (at d : ℕ) (o p q : List Exponents) → u ≡ unit_at (length m) at → t ≡ times_mono m u → p ≡ o ++ continued t at (d - 1) → q ≡ p ++ continued m (at + 1) d
    → ¬ (d ≡ 0) → at < length m → q ≡ o ++ continued m at d
walk_more m t u at zero o p q e f g k n h = absurd (n refl)
walk_more m t u at (suc d) o p q e f g k n h =
    k ∙ ap₂ ◌++◌ (g ∙ ap (λ i. o ++ continued t at i) (let y : suc d - 1 ≡ d = omega arith in y)) (ap (λ i. continued m i (suc d)) (let y : at + 1 ≡ suc at = omega arith in y))
    ∙ append_assoc o (continued t at d) (continued m (suc at) (suc d))
    ∙ ap (λ l. o ++ l) (sym (continued-more m t at d h (f ∙ ap (times_mono m) e)))

-- what the calls require
pub more_low : (m t u : Exponents) (n at : ℕ) → u ≡ unit_at n at → t ≡ times_mono m u → degree t ≤ degree m + 1
more_low m t u n at e f = let a = degree-times_mono m u in let b = degree-unit_at n at in let c = ap degree e in let d = ap degree f in omega arith

pub more_long : (m t u : Exponents) (at : ℕ) → u ≡ unit_at (length m) at → t ≡ times_mono m u → length t ≡ length m
more_long m t u at e f = ap length f ∙ length-times (length m) m u refl (ap length e ∙ length-unit_at (length m) at)

-- ---- the list
zeros-times : (n : ℕ) (k : Exponents) → length k ≡ n → times_mono (zeros n) k ≡ k
zeros-times zero k h = refl
zeros-times (suc n) [] h = absurd (omega arith)
zeros-times (suc n) (f ∷ k) h = ap₂ ◌∷◌ (let q : 0 + f ≡ f = omega arith in q) (zeros-times n k (omega arith))

joined-one : (n d : ℕ) (ks : List Exponents) → AllByRecursion (IsExact n d) ks → map (joined (zeros n) 0) ks ≡ ks
joined-one n d [] h = refl
joined-one n d (k ∷ ks) h = ap₂ ◌∷◌ (zeros-times n k h.0.places) (joined-one n d ks h.1)

pub list_step : (n d : ℕ) (m : Exponents) (o p : List Exponents) → m ≡ zeros n → o ≡ below n d → p ≡ o ++ continued m 0 d → p ≡ below n (d + 1)
list_step n d m o p e f g =
    g ∙ ap₂ ◌++◌ f (ap (λ l. continued l 0 d) e ∙ ap (λ i. map (joined (zeros n) 0) (of_degree i d)) long ∙ joined-one n d (of_degree n d) (exact n d))
    ∙ ap (below n) (let q : suc d ≡ d + 1 = omega arith in q)
  where
    long : length (zeros n) - 0 ≡ n
    long = (let l = length-zeros n in omega arith)

pub list_end : (n d k : ℕ) (o : List Exponents) → o ≡ below n k → k ≡ d + 1 → o ≡ monomials_of n d
list_end n d k o e f = e ∙ ap (below n) (f ∙ (let q : d + 1 ≡ suc d = omega arith in q))

-- ---- the count
pub count_start : (n : ℕ) → 1 ≡ length (monomials_of n 0)
count_start n = sym (no_degree n)

pub count_step : (n k x : ℕ) → 1 ≤ k → x ≡ length (monomials_of n (k - 1)) → x * (n + k) / k ≡ length (monomials_of n (k + 1 - 1))
count_step n k x h e = next n k x h e ∙ ap (λ i. length (monomials_of n i)) (let q : k ≡ k + 1 - 1 = omega arith in q)

pub count_fits : (n k x : ℕ) → n ≤ 10 → 1 ≤ k → k ≤ 3 → x ≡ length (monomials_of n (k - 1)) → x ≤ 8192
count_fits n k x a b c e = let s = count_small n (k - 1) (omega arith) in omega arith

pub ruleset walks = (walk_base, walk_end, walk_more, more_low, more_long)

pub ruleset lists = (list_step, list_end, degree-zeros, length-zeros)

pub ruleset counts = (count_start, count_step, count_fits)
