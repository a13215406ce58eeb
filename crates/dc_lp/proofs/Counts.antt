-- Tests and counts of numbers below a bound, and of cells.
use Rattle.std.proofs.Common.{◌≡◌, ◌≢◌, ℕ, zero, suc, ◌+◌, ◌<◌, ◌≤◌, Bool, true, false, cond, refl, sym, ◌∙◌, ap, ap₂, arith, inl, inr, nat_lt, ◌==◌}
use Rattle.std.proofs.lemmas.Bool.{cases_Bool, eqb-true, eqb-false, ltb-true, ltb-false}
use Rattle.dc_lp.specs.Meanings.{all_below}
use Rattle.dc_lp.specs.Fill.{count_below, count_cells}

-- what holds below m holds below n, where all between pass
pub all_below-on : (test : ℕ → Bool) (m n : ℕ) → m ≤ n → all_below m test ≡ true → ((k : ℕ) → m ≤ k → k < n → test k ≡ true) → all_below n test ≡ true
all_below-on test m zero le e h = refl
all_below-on test m (suc n) le e h =
    elim (cases_Bool (nat_lt n m)) [
      | inl b ↦ (let lt : n < m = ltb-true n m b in let same : m ≡ suc n = omega arith in ap (λ x. all_below x test) (sym same) ∙ e)
      | inr b ↦ (let up : m ≤ n = ltb-false n m b in rw (all_below-on test m n up e (λ k l u. h k l (omega arith)), h n up (omega arith)) refl)
    ]

pub count_below-on : (test : ℕ → Bool) (m n : ℕ) → m ≤ n → count_below m test ≤ count_below n test
count_below-on test m zero le = (let same : m ≡ 0 = omega arith in let e : count_below m test ≡ 0 = ap (λ x. count_below x test) same in omega arith)
count_below-on test m (suc n) le =
    elim (cases_Bool (nat_lt n m)) [
      | inl b ↦ (let lt : n < m = ltb-true n m b in let same : m ≡ suc n = omega arith in let e : count_below m test ≡ count_below (suc n) test = ap (λ x. count_below x test) same in omega arith)
      | inr b ↦ (let up : m ≤ n = ltb-false n m b in let r = count_below-on test m n up in omega arith)
    ]

pub count_below-same : (f g : ℕ → Bool) (n : ℕ) → ((k : ℕ) → k < n → f k ≡ g k) → count_below n f ≡ count_below n g
count_below-same f g zero e = refl
count_below-same f g (suc n) e = ap₂ ◌+◌ (count_below-same f g n (λ k l. e k (omega arith))) (ap (λ b. cond b 1 0) (e n (omega arith)))

pub count_cells-same : (f g : ℕ → ℕ → Bool) (m w : ℕ) → ((i k : ℕ) → i < m → k < w → f i k ≡ g i k) → count_cells m w f ≡ count_cells m w g
count_cells-same f g zero w e = refl
count_cells-same f g (suc m) w e = ap₂ ◌+◌ (count_cells-same f g m w (λ i k li lk. e i k (omega arith) lk)) (count_below-same (f m) (g m) w (λ k lk. e m k (omega arith) lk))

pub count_below-none : (test : ℕ → Bool) (m n : ℕ) → m ≤ n → ((k : ℕ) → m ≤ k → k < n → test k ≡ false) → count_below n test ≡ count_below m test
count_below-none test m zero le h = (let same : m ≡ 0 = omega arith in ap (λ x. count_below x test) (sym same))
count_below-none test m (suc n) le h =
    elim (cases_Bool (nat_lt n m)) [
      | inl b ↦ (let lt : n < m = ltb-true n m b in let same : suc n ≡ m = omega arith in ap (λ x. count_below x test) same)
      | inr b ↦ (let up : m ≤ n = ltb-false n m b in let r = count_below-none test m n up (λ k l u. h k l (omega arith)) in let z : cond {A = ℕ} (test n) 1 0 ≡ 0 = rw (h n up (omega arith)) refl in omega arith)
    ]

pub count_cells-on : (w : ℕ) (test : ℕ → ℕ → Bool) (m n : ℕ) → m ≤ n → count_cells m w test ≤ count_cells n w test
count_cells-on w test m zero le = (let same : m ≡ 0 = omega arith in let e : count_cells m w test ≡ 0 = ap (λ x. count_cells x w test) same in omega arith)
count_cells-on w test m (suc n) le =
    elim (cases_Bool (nat_lt n m)) [
      | inl b ↦ (let lt : n < m = ltb-true n m b in let same : m ≡ suc n = omega arith in let e : count_cells m w test ≡ count_cells (suc n) w test = ap (λ x. count_cells x w test) same in omega arith)
      | inr b ↦ (let up : m ≤ n = ltb-false n m b in let r = count_cells-on w test m n up in omega arith)
    ]

pub count_cells-none : (w : ℕ) (test : ℕ → ℕ → Bool) (m n : ℕ) → m ≤ n → ((i : ℕ) → m ≤ i → i < n → count_below w (test i) ≡ 0) → count_cells n w test ≡ count_cells m w test
count_cells-none w test m zero le h = (let same : m ≡ 0 = omega arith in ap (λ x. count_cells x w test) (sym same))
count_cells-none w test m (suc n) le h =
    elim (cases_Bool (nat_lt n m)) [
      | inl b ↦ (let lt : n < m = ltb-true n m b in let same : suc n ≡ m = omega arith in ap (λ x. count_cells x w test) same)
      | inr b ↦ (let up : m ≤ n = ltb-false n m b in let r = count_cells-none w test m n up (λ i l u. h i l (omega arith)) in let z = h n up (omega arith) in omega arith)
    ]

-- no cell passes
pub count_cells-empty : (test : ℕ → ℕ → Bool) (m w : ℕ) → ((i k : ℕ) → test i k ≡ false) → count_cells m w test ≡ 0
count_cells-empty test m w h = count_cells-none w test 0 m (omega arith) (λ i _ _. count_below-none (test i) 0 w (omega arith) (λ k _ _. h i k))

-- g passes one number more than f
count_below-more : (f g : ℕ → Bool) (n k : ℕ) → k < n → f k ≡ false → g k ≡ true → ((a : ℕ) → a ≢ k → g a ≡ f a) → count_below n g ≡ count_below n f + 1
count_below-more f g zero k l e h s = absurd (omega arith)
count_below-more f g (suc n) k l e h s = elim (cases_Bool (n == k)) [
  | inl q ↦
      (let same : n ≡ k = eqb-true n k q in
      let r = count_below-same g f n (λ a la. s a (λ z. absurd (omega arith))) in
      let p : cond {A = ℕ} (f n) 1 0 ≡ 0 = ap (λ x. cond {A = ℕ} (f x) 1 0) same ∙ ap (λ b. cond {A = ℕ} b 1 0) e in
      let t : cond {A = ℕ} (g n) 1 0 ≡ 1 = ap (λ x. cond {A = ℕ} (g x) 1 0) same ∙ ap (λ b. cond {A = ℕ} b 1 0) h in
      omega arith)
  | inr q ↦
      (let ne : n ≢ k = eqb-false n k q in
      let r = count_below-more f g n k (omega arith) e h s in
      let p : cond {A = ℕ} (g n) 1 0 ≡ cond (f n) 1 0 = ap (λ b. cond {A = ℕ} b 1 0) (s n ne) in
      omega arith)
]

-- g passes one cell more than f
pub count_cells-more : (f g : ℕ → ℕ → Bool) (m w i k : ℕ) → i < m → k < w → f i k ≡ false → g i k ≡ true
    → ((a b : ℕ) → (a ≡ i → b ≡ k → ⊥) → g a b ≡ f a b) → count_cells m w g ≡ count_cells m w f + 1
count_cells-more f g zero w i k li lk e h s = absurd (omega arith)
count_cells-more f g (suc m) w i k li lk e h s = elim (cases_Bool (m == i)) [
  | inl q ↦
      (let same : m ≡ i = eqb-true m i q in
      let r = count_cells-same g f m w (λ a b la lb. s a b (λ p _. absurd (omega arith))) in
      let t = count_below-more (f m) (g m) w k lk (ap (λ x. f x k) same ∙ e) (ap (λ x. g x k) same ∙ h) (λ b ne. s m b (λ _ z. ne z)) in
      omega arith)
  | inr q ↦
      (let ne : m ≢ i = eqb-false m i q in
      let r = count_cells-more f g m w i k (omega arith) lk e h s in
      let t = count_below-same (g m) (f m) w (λ b lb. s m b (λ p _. ne p)) in
      omega arith)
]

-- what passes f passes g
implied : (a b : Bool) → (a ≡ true → b ≡ true) → cond {A = ℕ} a 1 0 ≤ cond b 1 0
implied false b h = omega arith
implied true b h = rw (h refl) (omega arith)

count_below-least : (f g : ℕ → Bool) (n : ℕ) → ((k : ℕ) → k < n → f k ≡ true → g k ≡ true) → count_below n f ≤ count_below n g
count_below-least f g zero h = omega arith
count_below-least f g (suc n) h =
    let r = count_below-least f g n (λ k l. h k (omega arith)) in
    let t = implied (f n) (g n) (h n (omega arith)) in
    omega arith

pub count_cells-least : (f g : ℕ → ℕ → Bool) (m w : ℕ) → ((i k : ℕ) → i < m → k < w → f i k ≡ true → g i k ≡ true) → count_cells m w f ≤ count_cells m w g
count_cells-least f g zero w h = omega arith
count_cells-least f g (suc m) w h =
    let r = count_cells-least f g m w (λ i k li lk. h i k (omega arith) lk) in
    let t = count_below-least (f m) (g m) w (λ k lk. h m k (omega arith) lk) in
    omega arith

-- what passes f passes g or h
abbrev pub one_if : Bool → ℕ
one_if b = cond b 1 0

pub count_below-sum : (f g h : ℕ → Bool) (n : ℕ) → ((k : ℕ) → one_if (f k) ≤ one_if (g k) + one_if (h k)) → count_below n f ≤ count_below n g + count_below n h
count_below-sum f g h zero e = omega arith
count_below-sum f g h (suc n) e = omega (arith, count_below-sum f g h n e, e n)

pub count_cells-sum : (f g h : ℕ → ℕ → Bool) (m w : ℕ) → ((i k : ℕ) → one_if (f i k) ≤ one_if (g i k) + one_if (h i k)) → count_cells m w f ≤ count_cells m w g + count_cells m w h
count_cells-sum f g h zero w e = omega arith
count_cells-sum f g h (suc m) w e = omega (arith, count_cells-sum f g h m w e, count_below-sum (f m) (g m) (h m) w (e m))
