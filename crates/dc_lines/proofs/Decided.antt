-- Facts that are decided: there is a proof of each, or of its contrary. With them it is decided what a word or a line says.
use Rattle.std.specs.Prelude.{◌≡◌, ◌⊎◌, ℕ, zero, suc, ◌≤◌, ◌<◌, Bool, true, false, eqb, ltb, List, [], ◌∷◌, ◌++◌, length, ℤ, pos, negsuc, unsigned_abs, refl}
use Rattle.std.proofs.Common.{sym, ◌∙◌, ap, ap₂, subst, arith, inl, inr}
use Rattle.std.proofs.lemmas.Bool.{eqb-true, eqb-false, ltb-true, ltb-false}
use Rattle.std.proofs.lemmas.List.{length-append}
use Rattle.dc_lines.specs.Bytes.{Bytes, spaced}
use Rattle.dc_lines.proofs.Cutting.{cancel}

abbrev pub Decided : Type 0 → Type 0
Decided P = P ⊎ (P → ⊥)

pub decide_same : {P Q : Type 0} → (P → Q) → (Q → P) → Decided P → Decided Q
decide_same f g (inl p) = inl (f p)
decide_same f g (inr n) = inr (λ q. n (g q))

pub decide_both : {P Q : Type 0} → Decided P → Decided Q → Decided (P × Q)
decide_both (inl p) (inl q) = inl (p, q)
decide_both (inl p) (inr n) = inr (λ h. n h.1)
decide_both (inr n) d = inr (λ h. n h.0)

pub decide_either : {P Q : Type 0} → Decided P → Decided Q → Decided (P ⊎ Q)
decide_either (inl p) d = inl (inl p)
decide_either (inr n) (inl q) = inl (inr q)
decide_either {P = P} {Q = Q} (inr n) (inr m) = inr by
  where
    by : P ⊎ Q → ⊥
    by (inl p) = n p
    by (inr q) = m q

-- ---- numbers and words
pub decide_less : (m n : ℕ) → Decided (m < n)
decide_less m n = by (ltb m n) refl
  where
    by : (t : Bool) → ltb m n ≡ t → Decided (m < n)
    by true e = inl (ltb-true m n e)
    by false e = inr (λ h. let k = ltb-false m n e in omega arith)

pub decide_most : (m n : ℕ) → Decided (m ≤ n)
decide_most m n = decide_same (λ h. omega arith) (λ h. omega arith) (decide_less m (suc n))

pub decide_equal : (m n : ℕ) → Decided (m ≡ n)
decide_equal m n = by (eqb m n) refl
  where
    by : (t : Bool) → eqb m n ≡ t → Decided (m ≡ n)
    by true e = inl (eqb-true m n e)
    by false e = inr (eqb-false m n e)

pub decide_bool : (s t : Bool) → Decided (s ≡ t)
decide_bool true true = inl refl
decide_bool true false = inr (λ e. cc)
decide_bool false true = inr (λ e. cc)
decide_bool false false = inl refl

-- a text begins with a word
pub decide_front : (w t : Bytes) → Decided ((r : Bytes) × (w ++ r ≡ t))
decide_front [] t = inl (t, refl)
decide_front (x ∷ w) [] = inr (λ h. no h.0 h.1)
  where
    no : (r : Bytes) → ¬ (x ∷ (w ++ r) ≡ [])
    no r e = cc
decide_front (x ∷ w) (y ∷ t) = by (decide_equal x y) (decide_front w t)
  where
    first : (r : Bytes) → x ∷ (w ++ r) ≡ y ∷ t → x ≡ y
    first r e = cc

    rest : (r : Bytes) → x ∷ (w ++ r) ≡ y ∷ t → w ++ r ≡ t
    rest r e = cc

    by : Decided (x ≡ y) → Decided ((r : Bytes) × (w ++ r ≡ t)) → Decided ((r : Bytes) × (x ∷ (w ++ r) ≡ y ∷ t))
    by (inl e) (inl h) = inl (h.0, ap₂ ◌∷◌ e h.1)
    by (inl e) (inr n) = inr (λ h. n (h.0, rest h.0 h.1))
    by (inr n) d = inr (λ h. n (first h.0 h.1))

pub decide_bytes : (u v : Bytes) → Decided (u ≡ v)
decide_bytes [] [] = inl refl
decide_bytes [] (y ∷ v) = inr (λ e. cc)
decide_bytes (x ∷ u) [] = inr (λ e. cc)
decide_bytes (x ∷ u) (y ∷ v) = by (decide_equal x y) (decide_bytes u v)
  where
    first : x ∷ u ≡ y ∷ v → x ≡ y
    first e = cc

    rest : x ∷ u ≡ y ∷ v → u ≡ v
    rest e = cc

    by : Decided (x ≡ y) → Decided (u ≡ v) → Decided (x ∷ u ≡ y ∷ v)
    by (inl e) (inl h) = inl (ap₂ ◌∷◌ e h)
    by (inl e) (inr n) = inr (λ h. n (rest h))
    by (inr n) d = inr (λ h. n (first h))

-- ---- some number below a bound
pub decide_below : (n : ℕ) (P : ℕ → Type 0) → ((k : ℕ) → Decided (P k)) → Decided ((k : ℕ) × (k < n) × P k)
decide_below zero P d = inr (λ h. let l = h.1 in omega arith)
decide_below (suc n) P d = by (d n) (decide_below n P d)
  where
    by : Decided (P n) → Decided ((k : ℕ) × (k < n) × P k) → Decided ((k : ℕ) × (k < suc n) × P k)
    by (inl p) e = inl (n, omega arith, p)
    by (inr m) (inl h) = inl (h.0, (let l = h.1 in omega arith), h.2)
    by (inr m) (inr e) = inr (λ h. here h.0 h.1 h.2 (decide_equal h.0 n))
      where
        here : (k : ℕ) → k < suc n → P k → Decided (k ≡ n) → ⊥
        here k l p (inl q) = m (subst P q p)
        here k l p (inr q) = e (k, omega (arith, q), p)

-- some whole number of size below a bound
pub decide_whole : (n : ℕ) (P : ℤ → Type 0) → ((z : ℤ) → Decided (P z)) → Decided ((z : ℤ) × (unsigned_abs z < n) × P z)
decide_whole n P d = by (decide_below n (λ k. P (pos k)) (λ k. d (pos k))) (decide_below n (λ k. (suc k < n) × P (negsuc k)) (λ k. decide_both (decide_less (suc k) n) (d (negsuc k))))
  where
    by : Decided ((k : ℕ) × (k < n) × P (pos k)) → Decided ((k : ℕ) × (k < n) × ((suc k < n) × P (negsuc k))) → Decided ((z : ℤ) × (unsigned_abs z < n) × P z)
    by (inl h) e = inl (pos h.0, h.1, h.2)
    by (inr m) (inl h) = inl (negsuc h.0, h.2.0, h.2.1)
    by (inr m) (inr e) = inr (λ h. no h.0 h.1 h.2)
      where
        no : (z : ℤ) → unsigned_abs z < n → P z → ⊥
        no (pos k) l p = m (k, l, p)
        no (negsuc k) l p = e (k, omega arith, (l, p))

-- ---- what stands behind a word
pub decide_behind : {A : Type 0} (Fits : A → Type 0) (text : A → Bytes) → ((r : Bytes) → Decided ((x : A) × Fits x × (text x ≡ r))) → (w b : Bytes) → Decided ((x : A) × Fits x × (w ++ text x ≡ b))
decide_behind {A = A} Fits text d w b = by (decide_front w b)
  where
    at : (r : Bytes) → w ++ r ≡ b → Decided ((x : A) × Fits x × (text x ≡ r)) → Decided ((x : A) × Fits x × (w ++ text x ≡ b))
    at r e (inl h) = inl (h.0, h.1, ap (λ y. w ++ y) h.2 ∙ e)
    at r e (inr n) = inr (λ h. n (h.0, h.1, cancel w (text h.0) r (h.2 ∙ sym e)))

    by : Decided ((r : Bytes) × (w ++ r ≡ b)) → Decided ((x : A) × Fits x × (w ++ text x ≡ b))
    by (inl h) = at h.0 h.1 (d h.0)
    by (inr n) = inr (λ h. n (text h.0, h.2))

-- ---- lists with a space in front of each, where each one says what may follow
module _ {A : Type 0} (text : A → Bytes) (Fits : ℕ → A → Type 0) (next : A → ℕ) where
  abbrev pub Chain : ℕ → List A → Type 0
  Chain low [] = Unit {0}
  Chain low (x ∷ xs) = Fits low x × Chain (next x) xs

  pub record Spaced (m low : ℕ) (t : Bytes) : Type 0 where
    pub list : List A
    pub few : length list ≤ m
    pub chain : Chain low list
    pub is : spaced text list ≡ t

  nothing_left : (m low : ℕ) → Spaced m low []
  nothing_left m low = record { list = []; few = omega arith; chain = tt; is = refl }

  -- one is there, and then the rest
  record Next (m : ℕ) (t : Bytes) (x : A) : Type 0 where
    rest : Bytes
    cut : (32 ∷ text x) ++ rest ≡ t
    more : Spaced m (next x) rest

  decide_next : (m : ℕ) (t : Bytes) (x : A) → ((r : Bytes) → Decided (Spaced m (next x) r)) → Decided (Next m t x)
  decide_next m t x d = by (decide_front (32 ∷ text x) t)
    where
      at : (r : Bytes) → (32 ∷ text x) ++ r ≡ t → Decided (Spaced m (next x) r) → Decided (Next m t x)
      at r e (inl s) = inl (record { rest = r; cut = e; more = s })
      at r e (inr n) = inr (λ h. n (subst (Spaced m (next x)) (cancel (32 ∷ text x) h.rest r (h.cut ∙ sym e)) h.more))

      by : Decided ((r : Bytes) × ((32 ∷ text x) ++ r ≡ t)) → Decided (Next m t x)
      by (inl h) = at h.0 h.1 (d h.0)
      by (inr n) = inr (λ h. n (h.rest, h.cut))

  from_next : (m low : ℕ) (t : Bytes) → (x : A) × Fits low x × Next m t x → Spaced (suc m) low t
  from_next m low t h =
      record { list = h.0 ∷ h.2.more.list; few = (let k = h.2.more.few in omega arith); chain = (h.1, h.2.more.chain); is = ap (λ r. 32 ∷ (text h.0 ++ r)) h.2.more.is ∙ h.2.cut }

  to_next : (m low : ℕ) (y : ℕ) (t : Bytes) → Spaced (suc m) low (y ∷ t) → (x : A) × Fits low x × Next m (y ∷ t) x
  to_next m low y t s = by s.list s.few s.chain s.is
    where
      by : (xs : List A) → length xs ≤ suc m → Chain low xs → spaced text xs ≡ y ∷ t → (x : A) × Fits low x × Next m (y ∷ t) x
      by [] k c e = cc
      by (x ∷ xs) k c e = (x, c.0, record { rest = spaced text xs; cut = e; more = record { list = xs; few = omega arith; chain = c.1; is = refl } })

  none_left : (low y : ℕ) (t : Bytes) → ¬ Spaced 0 low (y ∷ t)
  none_left low y t s = by s.list s.few s.is
    where
      by : (xs : List A) → length xs ≤ 0 → ¬ (spaced text xs ≡ y ∷ t)
      by [] k e = cc
      by (x ∷ xs) k e = omega arith

  pub decide_spaced : ((low : ℕ) (Q : A → Type 0) → ((x : A) → Decided (Q x)) → Decided ((x : A) × Fits low x × Q x)) → (m low : ℕ) (t : Bytes) → Decided (Spaced m low t)
  decide_spaced d m low [] = inl (nothing_left m low)
  decide_spaced d zero low (y ∷ t) = inr (none_left low y t)
  decide_spaced d (suc m) low (y ∷ t) =
      decide_same (from_next m low (y ∷ t)) (to_next m low y t) (d low (Next m (y ∷ t)) (λ x. decide_next m (y ∷ t) x (λ r. decide_spaced d m (next x) r)))

  -- each takes a byte at least, so no list is longer than its text
  pub spaced_few : (xs : List A) → length xs ≤ length (spaced text xs)
  spaced_few [] = omega arith
  spaced_few (x ∷ xs) = (let q = spaced_few xs in let e = length-append (text x) (spaced text xs) in let f : length (32 ∷ (text x ++ spaced text xs)) ≡ suc (length (text x ++ spaced text xs)) = refl in omega arith)
