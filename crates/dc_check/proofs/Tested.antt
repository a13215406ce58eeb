-- Steps that hold, as tests that are true.
use Rattle.std.specs.Prelude.{◌≡◌, ℕ, zero, suc, ◌+◌, ◌<◌, true, List, [], ◌∷◌, ◌++◌, map, length, Some}
use Rattle.std.specs.List.{range_with_len, AllByRecursion}
use Rattle.std.proofs.Common.{◌∙◌, ap, arith, get_or}
use Rattle.dc_clauses.specs.declared.step.Step.{Step}
use Rattle.dc_clauses.specs.Steps.{Test, AllHold, counted}
use Rattle.dc_clauses.specs.Sides.{paired, joined}

abbrev pub AreTrue : List Test → Type 0
AreTrue ts = AllByRecursion (λ t. t ≡ Some true) ts

pub hold_both : (a b : List Step) → AllHold (a ++ b) → AllHold a × AllHold b
hold_both [] b h = (tt, h)
hold_both (s ∷ a) b h = (let r = hold_both a b h.1 in ((h.0, r.0), r.1))

pub hold_true : (c k : ℕ) (ts : List Test) → AllHold (counted c k ts) → AreTrue ts
hold_true c k [] h = tt
hold_true c k (t ∷ ts) h = (h.0, hold_true c (suc k) ts h.1)

pub true_both : (a b : List Test) → AreTrue (a ++ b) → AreTrue a × AreTrue b
true_both [] b h = (tt, h)
true_both (t ∷ a) b h = (let r = true_both a b h.1 in ((h.0, r.0), r.1))

-- ---- of pairs
pub pair_true : {A B : Type 0} (f : A → B → Test) (xs : List A) (ys : List B) (k : ℕ) (x : A) (y : B) → AreTrue (paired f xs ys) → k < length xs → k < length ys → f (get_or xs k x) (get_or ys k y) ≡ Some true
pair_true f [] ys k x y h l g = absurd (omega arith)
pair_true f (a ∷ xs) [] k x y h l g = absurd (omega arith)
pair_true f (a ∷ xs) (b ∷ ys) zero x y h l g = h.0
pair_true f (a ∷ xs) (b ∷ ys) (suc k) x y h l g = pair_true f xs ys k x y h.1 (omega arith) (omega arith)

pub list_true : {A B : Type 0} (f : A → B → List Test) (xs : List A) (ys : List B) (k : ℕ) (x : A) (y : B) → AreTrue (joined (paired f xs ys)) → k < length xs → k < length ys → AreTrue (f (get_or xs k x) (get_or ys k y))
list_true f [] ys k x y h l g = absurd (omega arith)
list_true f (a ∷ xs) [] k x y h l g = absurd (omega arith)
list_true f (a ∷ xs) (b ∷ ys) zero x y h l g = (true_both (f a b) (joined (paired f xs ys)) h).0
list_true f (a ∷ xs) (b ∷ ys) (suc k) x y h l g = list_true f xs ys k x y (true_both (f a b) (joined (paired f xs ys)) h).1 (omega arith) (omega arith)

-- ---- numbered ones
numbered_from : (f : ℕ → Test) (k m : ℕ) → AreTrue (map f (range_with_len k m)) → (i : ℕ) → i < m → f (k + i) ≡ Some true
numbered_from f k zero h i l = absurd (omega arith)
numbered_from f k (suc m) h zero l = ap f (let e : k + 0 ≡ k = omega arith in e) ∙ h.0
numbered_from f k (suc m) h (suc i) l = ap f (let e : k + suc i ≡ k + 1 + i = omega arith in e) ∙ numbered_from f (k + 1) m h.1 i (omega arith)

pub numbered_true : (f : ℕ → Test) (n : ℕ) → AreTrue (map f (range_with_len 0 n)) → (i : ℕ) → i < n → f i ≡ Some true
numbered_true f n h i l = ap f (let e : i ≡ 0 + i = omega arith in e) ∙ numbered_from f 0 n h i l
