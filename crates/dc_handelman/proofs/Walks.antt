-- One step of the walk that makes the list, and of the loop that counts it.
use Rattle.std.specs.Prelude.{◌≡◌, ℕ, zero, suc, ◌+◌, ◌-◌, ◌*◌, ◌/◌, ◌≤◌, ◌<◌, List, [], ◌∷◌, ◌++◌, map, length, All, ℤ, pos, refl}
use Rattle.std.specs.List.{AllByRecursion}
use Rattle.std.proofs.Common.{sym, ◌∙◌, ap, ap₂, subst, arith, append_assoc, get_or, take, drop}
use Rattle.std.proofs.lemmas.List.{map-append, take_all}
use Rattle.dc_poly.specs.Terms.{Polynomial}
use Rattle.dc_poly.specs.Sums.{constant, variable, sum_of, product_of}
use Rattle.dc_poly.specs.Conditions.{CanAdd, CanMul}
use Rattle.dc_affine.specs.declared.atom.Atom.{Atom}
use Rattle.dc_affine.specs.Atoms.{AllFit, IsAtom}
use Rattle.dc_handelman.specs.Choices.{Choice, of_size, below, choices_of}
use Rattle.dc_handelman.specs.Products.{linear_of, form_of, factor_at, times_choice, product_at, products_of, IsProduct}
use Rattle.dc_handelman.proofs.Counts.{next, no_factors, count_small}
use Rattle.dc_handelman.proofs.Values.{can_scale, can_add_rest, can_add_constant, can_times, is_times, is_more, is_one, factor_is, all_factors, all_products}

-- ---- the count
pub count_start : (n : ℕ) → 1 ≡ length (choices_of n 0)
count_start n = sym (no_factors n)

pub count_step : (n k x : ℕ) → 1 ≤ k → x ≡ length (choices_of n (k - 1)) → x * (n + k) / k ≡ length (choices_of n (k + 1 - 1))
count_step n k x h e = next n k x h e ∙ ap (λ i. length (choices_of n i)) (let q : k ≡ k + 1 - 1 = omega arith in q)

pub count_fits : (n k x : ℕ) → n ≤ 2048 → 1 ≤ k → k ≤ 3 → x ≡ length (choices_of n (k - 1)) → x ≤ 2051 * (2051 * 2051)
count_fits n k x a b c e = let s = count_small n (k - 1) (omega arith) (omega arith) in omega arith

pub ruleset counts = (count_start, count_step, count_fits)

-- ---- a linear form, from its first coefficient
pub linear_can : (n at : ℕ) (cs : List ℤ) (v q t o : Polynomial) → n ≤ 11 → at + length cs ≤ n → AllFit cs → 1 ≤ length cs
    → v ≡ variable at n → q ≡ constant (get_or cs 0 (pos 0)) n → t ≡ product_of q v → o ≡ linear_of n (at + 1) (take (length cs - 1) (drop 1 cs)) → CanAdd t o
linear_can n at [] v q t o f h k l a b d e = absurd (omega arith)
linear_can n at (c ∷ cs) v q t o f h k l a b d e =
    let t-is : t ≡ product_of (constant c n) (variable at n) = d ∙ ap₂ product_of b a in
    let o-is : o ≡ linear_of n (suc at) cs = e ∙ ap₂ (linear_of n) (let s : at + 1 ≡ suc at = omega arith in s) (take_all (suc (length cs) - 1) cs (omega arith)) in
    subst (λ x. CanAdd x o) (sym t-is) (subst (λ x. CanAdd (product_of (constant c n) (variable at n)) x) (sym o-is) (can_add_rest n at c cs f (omega arith) k.0 k.1))

pub linear_is : (n at : ℕ) (cs : List ℤ) (v q t o s : Polynomial) → 1 ≤ length cs
    → v ≡ variable at n → q ≡ constant (get_or cs 0 (pos 0)) n → t ≡ product_of q v → o ≡ linear_of n (at + 1) (take (length cs - 1) (drop 1 cs)) → s ≡ sum_of t o → s ≡ linear_of n at cs
linear_is n at [] v q t o s l a b d e g = absurd (omega arith)
linear_is n at (c ∷ cs) v q t o s l a b d e g =
    g ∙ ap₂ sum_of (d ∙ ap₂ product_of b a) (e ∙ ap₂ (linear_of n) (let i : at + 1 ≡ suc at = omega arith in i) (take_all (suc (length cs) - 1) cs (omega arith)))

-- ---- one call of the walk
still : List Polynomial → Polynomial → ℕ → ℕ → List Polynomial
still fs p i k = map (times_choice fs p) (of_size (length fs - i) i k)

mapped : (fs : List Polynomial) (p q : Polynomial) (i : ℕ) → q ≡ product_of p (factor_at fs i) → (cs : List Choice) → map (times_choice fs p) (map (λ c. i ∷ c) cs) ≡ map (times_choice fs q) cs
mapped fs p q i e [] = refl
mapped fs p q i e (c ∷ cs) = ap₂ ◌∷◌ (ap (λ x. times_choice fs x c) (sym e)) (mapped fs p q i e cs)

still-more : (fs : List Polynomial) (p q : Polynomial) (i k : ℕ) → i < length fs → q ≡ product_of p (factor_at fs i) → still fs p i (suc k) ≡ still fs q i k ++ still fs p (suc i) (suc k)
unfolding still
still-more fs p q i k h e =
    ap (λ n. map (times_choice fs p) (of_size n i (suc k))) long
    ∙ map-append (times_choice fs p) (map (λ c. i ∷ c) (of_size (suc (length fs - suc i)) i k)) (of_size (length fs - suc i) (suc i) (suc k))
    ∙ ap (λ l. l ++ still fs p (suc i) (suc k)) (mapped fs p q i e (of_size (suc (length fs - suc i)) i k) ∙ ap (λ n. map (times_choice fs q) (of_size n i k)) (sym long))
  where
    long : length fs - i ≡ suc (length fs - suc i)
    long = omega arith

pub walk_can : (fs : List Polynomial) (p f : Polynomial) (i k : ℕ) → k ≤ 3 → ¬ (k ≡ 0) → All (IsProduct p.places 1) fs → IsProduct p.places (3 - k) p → i < length fs → f ≡ get_or fs i f → CanMul p f
walk_can fs p f i k l n a h g e = can_times p.places (3 - k) p f (omega arith) h (subst (IsProduct p.places 1) (sym e) (a i f g))

pub walk_factors : (fs : List Polynomial) (p q : Polynomial) → q.places ≡ p.places → All (IsProduct p.places 1) fs → All (IsProduct q.places 1) fs
walk_factors fs p q e a = subst (λ n. All (IsProduct n 1) fs) (sym e) a

pub walk_product : (fs : List Polynomial) (p f q : Polynomial) (i k : ℕ) → k ≤ 3 → ¬ (k ≡ 0) → All (IsProduct p.places 1) fs → IsProduct p.places (3 - k) p → i < length fs → f ≡ get_or fs i f → q ≡ product_of p f
    → IsProduct q.places (3 - (k - 1)) q
walk_product fs p f q i k l n a h g e d =
    subst (λ (x : Polynomial). IsProduct x.places (3 - (k - 1)) x) (sym d)
    (subst (λ j. IsProduct p.places j (product_of p f)) (let s : suc (3 - k) ≡ 3 - (k - 1) = omega arith in s) (is_times p.places (3 - k) p f (omega arith) h (subst (IsProduct p.places 1) (sym e) (a i f g))))

pub walk_step : (fs : List Polynomial) (p f q : Polynomial) (i k : ℕ) (o r w : List Polynomial) → ¬ (k ≡ 0) → i < length fs → f ≡ get_or fs i f → q ≡ product_of p f
    → r ≡ o ++ map (times_choice fs q) (of_size (length fs - i) i (k - 1)) → o ++ map (times_choice fs p) (of_size (length fs - i) i k) ≡ w
    → r ++ map (times_choice fs p) (of_size (length fs - (i + 1)) (i + 1) k) ≡ w
unfolding still
walk_step fs p f q i zero o r w n h e d s g = absurd (n refl)
walk_step fs p f q i (suc k) o r w n h e d s g =
    ap₂ ◌++◌ (s ∙ ap (λ j. o ++ still fs q i j) (let y : suc k - 1 ≡ k = omega arith in y)) (ap (λ j. still fs p j (suc k)) (let y : i + 1 ≡ suc i = omega arith in y))
    ∙ append_assoc o (still fs q i k) (still fs p (suc i) (suc k))
    ∙ ap (λ l. o ++ l) (sym (still-more fs p q i k h (d ∙ ap (product_of p) (e ∙ factor_is fs i f h))))
    ∙ g

-- ---- the whole list
pub list_factors : (n : ℕ) (hyps : List Atom) (fs : List Polynomial) (o : Polynomial) → n ≤ 11 → AllByRecursion (IsAtom n) hyps → fs ≡ map (form_of n) hyps → o ≡ constant (pos 1) n → All (IsProduct o.places 1) fs
list_factors n hyps fs o l h e d = subst (λ (x : Polynomial). All (IsProduct x.places 1) fs) (sym d) (subst (All (IsProduct n 1)) (sym e) (all_factors n hyps l h))

pub list_product : (n k : ℕ) (o : Polynomial) → n ≤ 11 → o ≡ constant (pos 1) n → IsProduct o.places k o
list_product n k o l e = subst (λ (x : Polynomial). IsProduct x.places k x) (sym e) (is_more n 0 k (constant (pos 1) n) (omega arith) (is_one n l))

pub list_end : (n : ℕ) (hyps : List Atom) (k j : ℕ) (o : List Polynomial) → j ≡ k + 1 → o ≡ map (product_at n hyps) (below (length hyps) j) → o ≡ products_of n hyps k
list_end n hyps k j o e d = d ∙ ap (λ i. map (product_at n hyps) (below (length hyps) i)) (e ∙ (let y : k + 1 ≡ suc k = omega arith in y))

pub list_kinds : (n : ℕ) (hyps : List Atom) (k : ℕ) (o : List Polynomial) → n ≤ 11 → k ≤ 3 → AllByRecursion (IsAtom n) hyps → o ≡ products_of n hyps k → All (IsProduct n k) o
list_kinds n hyps k o f l h e = subst (All (IsProduct n k)) (sym e) (all_products n k hyps f l h)

pub ruleset sums = (can_scale, can_add_constant)
