-- Ways to measure the brackets of a text by its parts: their number, and how deep they nest.
use Rattle.std.proofs.Common.{◌≡◌, ℕ, suc, ◌+◌, ◌-◌, ◌≤◌, Bool, true, false, ◌||◌, nat_eq, List, [], ◌∷◌, ◌++◌, refl, sym, ap, ◌∙◌, arith}
use Rattle.dc_printed.specs.Brackets.{opened}
use Rattle.std.specs.Prelude.{max, if◌then◌else◌}

pub record Measure : Type 1 where
  -- the brackets measure so much
  pub Sized : List ℕ → ℕ → Type 0
  -- of two parts, and of what stands in braces
  pub c : ℕ → ℕ → ℕ
  pub b : ℕ → ℕ
  pub c_mono : (i j m n : ℕ) → i ≤ j → m ≤ n → c i m ≤ c j n
  pub c_assoc : (i j m : ℕ) → c (c i j) m ≡ c i (c j m)
  pub c-left : (i : ℕ) → c 0 i ≡ i
  pub c-right : (i : ℕ) → c i 0 ≡ i
  pub b_mono : (i j : ℕ) → i ≤ j → b i ≤ b j
  -- an empty block beside another adds nothing
  pub b_empty : (i : ℕ) → c (b i) (b 0) ≤ b i
  pub empty : Sized [] 0
  pub join : (t u : List ℕ) (i j : ℕ) → Sized t i → Sized u j → Sized (t ++ u) (c i j)
  pub round : (t : List ℕ) (i : ℕ) → Sized t i → Sized (40 ∷ (t ++ 41 ∷ [])) (suc i)
  pub square : (t : List ℕ) (i : ℕ) → Sized t i → Sized (91 ∷ (t ++ 93 ∷ [])) (suc i)
  pub brace : (t : List ℕ) (i : ℕ) → Sized t i → Sized (123 ∷ (t ++ 125 ∷ [])) (b i)
  pub one : (t : List ℕ) (i j : ℕ) → Sized t i → Sized t j → i ≡ j

-- ---- their number: `(` and `[`

pub opened-append : (t u : List ℕ) → opened (t ++ u) ≡ opened t + opened u
opened-append [] u = omega arith
opened-append (x ∷ t) u = let h = opened-append t u in omega arith

abbrev pub number : Measure
number = record {
  Sized = λ t i. opened t ≡ i;
  c = λ i j. i + j;
  b = λ i. i;
  c_mono = λ i j m n h g. omega arith;
  c_assoc = λ i j m. omega arith;
  c-left = λ i. omega arith;
  c-right = λ i. omega arith;
  b_mono = λ i j h. h;
  b_empty = λ i. omega arith;
  empty = refl;
  join = λ t u i j h g. let e = opened-append t u in omega arith;
  round = λ t i h. let e = opened-append t (41 ∷ []) in omega arith;
  square = λ t i h. let e = opened-append t (93 ∷ []) in omega arith;
  brace = λ t i h. let e = opened-append t (125 ∷ []) in omega arith;
  one = λ t i j h g. sym h ∙ g;
}

-- ---- how deep they nest

-- how many are open after a bracket
abbrev pub opening : ℕ → Bool
opening x = nat_eq x 40 || (nat_eq x 91 || nat_eq x 123)

abbrev pub step : ℕ → ℕ → ℕ
step n x = if opening x then n + 1 else n - 1

-- after all of them, and at most
abbrev pub level : ℕ → List ℕ → ℕ
level n [] = n
level n (x ∷ t) = level (step n x) t

abbrev pub top : ℕ → List ℕ → ℕ
top n [] = n
top n (x ∷ t) = max n (top (step n x) t)

pub level-append : (n : ℕ) (t u : List ℕ) → level n (t ++ u) ≡ level (level n t) u
level-append n [] u = refl
level-append n (x ∷ t) u = level-append (step n x) t u

pub n-≤-top : (n : ℕ) (t : List ℕ) → n ≤ top n t
n-≤-top n [] = omega arith
n-≤-top n (x ∷ t) = omega arith

pub top-append : (n : ℕ) (t u : List ℕ) → top n (t ++ u) ≡ max (top n t) (top (level n t) u)
top-append n [] u = let h = n-≤-top n u in omega arith
top-append n (x ∷ t) u = let h = top-append (step n x) t u in omega arith

-- as many are open after it as before it, and it opens so many more
pub record IsFlat (t : List ℕ) (i : ℕ) : Type 0 where
  pub back : (n : ℕ) → level n t ≡ n
  pub high : (n : ℕ) → top n t ≡ n + i

pub flat-append : (t u : List ℕ) (i j : ℕ) → IsFlat t i → IsFlat u j → IsFlat (t ++ u) (max i j)
flat-append t u i j h g = record {
  back = λ n. level-append n t u ∙ (ap (λ m. level m u) (let f = h.back in f n) ∙ (let f = g.back in f n));
  high = λ n. top-append n t u ∙ (let f = h.back in let a = ap (λ m. top m u) (f n) in let x = h.high in let y = x n in let z = g.high in let w = z n in omega arith);
}

pub flat-in : (x y : ℕ) (t : List ℕ) (i : ℕ) → opening x ≡ true → opening y ≡ false → IsFlat t i → IsFlat (x ∷ (t ++ y ∷ [])) (suc i)
flat-in x y t i a b h = record { back = below; high = above }
  where
    up : (n : ℕ) → step n x ≡ n + 1
    up n = rw a refl

    down : (n : ℕ) → step (n + 1) y ≡ n
    down n = rw b (omega arith)

    below : (n : ℕ) → level n (x ∷ (t ++ y ∷ [])) ≡ n
    below n = level-append (step n x) t (y ∷ []) ∙ (ap (λ m. step m y) ((let f = h.back in f (step n x)) ∙ up n) ∙ down n)

    above : (n : ℕ) → top n (x ∷ (t ++ y ∷ [])) ≡ n + suc i
    above n =
        let e = top-append (step n x) t (y ∷ []) in
        let f : level (step n x) t ≡ n + 1 = (let f = h.back in f (step n x)) ∙ up n in
        let g : top (level (step n x) t) (y ∷ []) ≡ max (n + 1) n = ap (λ m. top m (y ∷ [])) f ∙ ap (λ m. max (n + 1) m) (down n) in
        let k : top (step n x) t ≡ n + 1 + i = (let q = h.high in q (step n x)) ∙ ap (λ m. m + i) (up n) in
        omega arith

abbrev pub depth : Measure
depth = record {
  Sized = IsFlat;
  c = max;
  b = suc;
  c_mono = λ i j m n h g. omega arith;
  c_assoc = λ i j m. omega arith;
  c-left = λ i. omega arith;
  c-right = λ i. omega arith;
  b_mono = λ i j h. omega arith;
  b_empty = λ i. omega arith;
  empty = record { back = λ n. refl; high = λ n. omega arith };
  join = flat-append;
  round = λ t i h. flat-in 40 41 t i refl refl h;
  square = λ t i h. flat-in 91 93 t i refl refl h;
  brace = λ t i h. flat-in 123 125 t i refl refl h;
  one = λ t i j h g. let f = h.high in let k = g.high in let x = f 0 in let y = k 0 in omega arith;
}
