-- Sets of columns are counted.
use Rattle.std.proofs.Common.{◌≡◌, ◌≢◌, ℕ, zero, suc, ◌+◌, ◌-◌, ◌<◌, ◌≤◌, inl, inr, ◌==◌, ◌||◌, Bool, true, false, cond, nat_lt, refl, sym, ◌∙◌, ap, arith, eq-eqb}
use Rattle.std.proofs.lemmas.Bool.{ne_eqb, cases_Bool, cases_eq, eqb-true, or_from, or_left, or_right, ltb-true, ltb-false, false_from_ne_true}
use Rattle.dc_pivots.specs.FieldLaws.{choose}
use Rattle.dc_pivots.proofs.Segment.{Has}

pub count : (ℕ → Bool) → ℕ → ℕ
count f zero = 0
count f (suc n) = count f n + cond (f n) 1 0

-- the number of the set f with k members among the numbers below n
pub rank : (ℕ → Bool) → ℕ → ℕ → ℕ
rank f zero k = 0
rank f (suc n) zero = 0
rank f (suc n) (suc k) = cond (f n) (choose n (suc k) + rank f n k) (rank f n (suc k))

count-here : (f : ℕ → Bool) (n : ℕ) → f n ≡ true → count f (suc n) ≡ suc (count f n)
unfolding count
count-here f n e = rw e (omega arith)

count-not : (f : ℕ → Bool) (n : ℕ) → f n ≡ false → count f (suc n) ≡ count f n
unfolding count
count-not f n e = rw e (omega arith)

count-zero : (f : ℕ → Bool) → count f zero ≡ 0
unfolding count
count-zero f = refl

rank-here : (f : ℕ → Bool) (n k : ℕ) → f n ≡ true → rank f (suc n) (suc k) ≡ choose n (suc k) + rank f n k
unfolding rank
rank-here f n k e = rw e refl

rank-not : (f : ℕ → Bool) (n k : ℕ) → f n ≡ false → rank f (suc n) (suc k) ≡ rank f n (suc k)
unfolding rank
rank-not f n k e = rw e refl

rank-none : (f : ℕ → Bool) (n : ℕ) → rank f n zero ≡ 0
unfolding rank
rank-none f zero = refl
rank-none f (suc n) = refl

pub choose-none : (n : ℕ) → choose n zero ≡ 1
unfolding choose
choose-none n = refl

pub choose-more : (n k : ℕ) → choose (suc n) (suc k) ≡ choose n k + choose n (suc k)
unfolding choose
choose-more n k = refl

pub rank-below : (f : ℕ → Bool) (n k : ℕ) → count f n ≡ k → rank f n k < choose n k
rank-below f n zero e = (let a : rank f n zero ≡ 0 = rank-none f n in let b : choose n zero ≡ 1 = choose-none n in omega arith)
rank-below f zero (suc k) e = (let z : count f zero ≡ 0 = count-zero f in absurd (omega arith))
rank-below f (suc n) (suc k) e = elim (cases_Bool (f n)) [
  | inl h ↦ (let c : count f (suc n) ≡ suc (count f n) = count-here f n h in let d : count f n ≡ k = omega arith in
      let r : rank f (suc n) (suc k) ≡ choose n (suc k) + rank f n k = rank-here f n k h in let m : choose (suc n) (suc k) ≡ choose n k + choose n (suc k) = choose-more n k in
      let lt : rank f n k < choose n k = rank-below f n k d in omega arith)
  | inr h ↦ (let c : count f (suc n) ≡ count f n = count-not f n h in let d : count f n ≡ suc k = omega arith in
      let r : rank f (suc n) (suc k) ≡ rank f n (suc k) = rank-not f n k h in let m : choose (suc n) (suc k) ≡ choose n k + choose n (suc k) = choose-more n k in
      let lt : rank f n (suc k) < choose n (suc k) = rank-below f n (suc k) d in omega arith)
]

count-empty : (f : ℕ → Bool) (n p : ℕ) → count f n ≡ 0 → p < n → f p ≡ false
count-empty f zero p e l = absurd (omega arith)
count-empty f (suc n) p e l = elim (cases_Bool (f n)) [
  | inl h ↦ (let c : count f (suc n) ≡ suc (count f n) = count-here f n h in absurd (omega arith))
  | inr h ↦ elim (cases_eq p n) [
    | inl same ↦ ap f same ∙ h
    | inr ne ↦ (let c : count f (suc n) ≡ count f n = count-not f n h in count-empty f n p (omega arith) (omega arith))
  ]
]

-- sets of one size with one rank are one set
pub rank-same : (f g : ℕ → Bool) (n k : ℕ) → count f n ≡ k → count g n ≡ k → rank f n k ≡ rank g n k → (p : ℕ) → p < n → f p ≡ g p
rank-same f g n zero e h s p l = count-empty f n p e l ∙ sym (count-empty g n p h l)
rank-same f g zero (suc k) e h s p l = absurd (omega arith)
rank-same f g (suc n) (suc k) e h s p l = elim (cases_Bool (f n)) [
  | inl a ↦ elim (cases_Bool (g n)) [
    | inl b ↦ elim (cases_eq p n) [
      | inl same ↦ ap f same ∙ a ∙ sym b ∙ ap g (sym same)
      | inr ne ↦ (let c : count f (suc n) ≡ suc (count f n) = count-here f n a in let d : count g (suc n) ≡ suc (count g n) = count-here g n b in
          let x : rank f (suc n) (suc k) ≡ choose n (suc k) + rank f n k = rank-here f n k a in let y : rank g (suc n) (suc k) ≡ choose n (suc k) + rank g n k = rank-here g n k b in
          rank-same f g n k (omega arith) (omega arith) (omega arith) p (omega arith))
    ]
    | inr b ↦ (let c : count g (suc n) ≡ count g n = count-not g n b in let d : count g n ≡ suc k = omega arith in
        let x : rank f (suc n) (suc k) ≡ choose n (suc k) + rank f n k = rank-here f n k a in let y : rank g (suc n) (suc k) ≡ rank g n (suc k) = rank-not g n k b in
        let lt : rank g n (suc k) < choose n (suc k) = rank-below g n (suc k) d in absurd (omega arith))
  ]
  | inr a ↦ elim (cases_Bool (g n)) [
    | inl b ↦ (let c : count f (suc n) ≡ count f n = count-not f n a in let d : count f n ≡ suc k = omega arith in
        let x : rank g (suc n) (suc k) ≡ choose n (suc k) + rank g n k = rank-here g n k b in let y : rank f (suc n) (suc k) ≡ rank f n (suc k) = rank-not f n k a in
        let lt : rank f n (suc k) < choose n (suc k) = rank-below f n (suc k) d in absurd (omega arith))
    | inr b ↦ elim (cases_eq p n) [
      | inl same ↦ ap f same ∙ a ∙ sym b ∙ ap g (sym same)
      | inr ne ↦ (let c : count f (suc n) ≡ count f n = count-not f n a in let d : count g (suc n) ≡ count g n = count-not g n b in
          let x : rank f (suc n) (suc k) ≡ rank f n (suc k) = rank-not f n k a in let y : rank g (suc n) (suc k) ≡ rank g n (suc k) = rank-not g n k b in
          rank-same f g n (suc k) (omega arith) (omega arith) (omega arith) p (omega arith))
    ]
  ]
]

-- different numbers below b, k of them
pub pigeonhole : (k b : ℕ) (f : ℕ → ℕ) → ((x : ℕ) → x < k → f x < b) → ((x y : ℕ) → x < y → y < k → f x ≢ f y) → k ≤ b
pigeonhole zero b f below apart = omega arith
pigeonhole (suc k) zero f below apart = (let l : f k < 0 = below k (omega arith) in absurd (omega arith))
pigeonhole (suc k) (suc b) f below apart =
    let last : f k < suc b = below k (omega arith) in
    let ih : k ≤ b = pigeonhole k b (λ x. cond (nat_lt (f k) (f x)) (f x - 1) (f x))
    (λ x l. (let lx : f x < suc b = below x (omega arith) in let ne : f x ≢ f k = apart x k l (omega arith) in elim (cases_Bool (nat_lt (f k) (f x))) [
      | inl h ↦ (let up : f k < f x = ltb-true (f k) (f x) h in rw h (omega arith))
      | inr h ↦ (let le : f x ≤ f k = ltb-false (f k) (f x) h in rw h (omega arith))
    ]))
    (λ x y l ly. (let a : f x ≢ f y = apart x y l (omega arith) in let nx : f x ≢ f k = apart x k (omega arith) (omega arith) in let ny : f y ≢ f k = apart y k ly (omega arith) in
    elim (cases_Bool (nat_lt (f k) (f x))) [
      | inl h ↦ (let up : f k < f x = ltb-true (f k) (f x) h in elim (cases_Bool (nat_lt (f k) (f y))) [
        | inl i ↦ (let uq : f k < f y = ltb-true (f k) (f y) i in rw (h, i) (omega arith))
        | inr i ↦ (let uq : f y ≤ f k = ltb-false (f k) (f y) i in rw (h, i) (omega arith))
      ])
      | inr h ↦ (let up : f x ≤ f k = ltb-false (f k) (f x) h in elim (cases_Bool (nat_lt (f k) (f y))) [
        | inl i ↦ (let uq : f k < f y = ltb-true (f k) (f y) i in rw (h, i) (omega arith))
        | inr i ↦ (let uq : f y ≤ f k = ltb-false (f k) (f y) i in rw (h, i) (omega arith))
      ])
    ])) in
    omega arith

-- the set of the first k values of b
pub member : (ℕ → ℕ) → ℕ → ℕ → Bool
member b zero p = false
member b (suc k) p = member b k p || (b k == p)

pub member-has : (b : ℕ → ℕ) (k p : ℕ) → member b k p ≡ true → Has b k p
unfolding member
member-has b zero p e = absurd (cc)
member-has b (suc k) p e = elim (cases_Bool (member b k p)) [
  | inl h ↦ (let r : Has b k p = member-has b k p h in (r.0, (let l : r.0 < k = r.1 in omega arith), r.2))
  | inr h ↦ (k, omega arith, eqb-true (b k) p (rw h at e))
]

pub has-member : (b : ℕ → ℕ) (k p : ℕ) → Has b k p → member b k p ≡ true
unfolding member
has-member b zero p h = absurd (let l : h.0 < 0 = h.1 in omega arith)
has-member b (suc k) p h = elim (cases_eq h.0 k) [
  | inl same ↦ or_right (member b k p) (b k == p) (eq-eqb (b k) p (ap b (sym same) ∙ h.2))
  | inr ne ↦ or_left (member b k p) (b k == p) (has-member b k p (h.0, (let l : h.0 < suc k = h.1 in omega arith), h.2))
]

count-same : (f g : ℕ → Bool) (n : ℕ) → ((p : ℕ) → p < n → f p ≡ g p) → count f n ≡ count g n
unfolding count
count-same f g zero h = refl
count-same f g (suc n) h = rw (count-same f g n (λ p l. h p (omega arith)), h n (omega arith)) refl

-- one more member
count-insert : (f : ℕ → Bool) (c n : ℕ) → c < n → f c ≡ false → count (λ p. f p || (c == p)) n ≡ suc (count f n)
count-insert f c zero l e = absurd (omega arith)
count-insert f c (suc n) l e = elim (cases_eq c n) [
  | inl same ↦ (let old : f n ≡ false = ap f (sym same) ∙ e in
      let new : (f n || (c == n)) ≡ true = or_right (f n) (c == n) (eq-eqb c n same) in
      let rest : count (λ p. f p || (c == p)) n ≡ count f n = count-same (λ p. f p || (c == p)) f n (λ p lp. (let ne : c ≢ p = omega arith in rw (ne_eqb c p ne) (or_none (f p)))) in
      let a : count (λ p. f p || (c == p)) (suc n) ≡ suc (count (λ p. f p || (c == p)) n) = count-here (λ p. f p || (c == p)) n new in
      let b : count f (suc n) ≡ count f n = count-not f n old in omega arith)
  | inr ne ↦ (let ih : count (λ p. f p || (c == p)) n ≡ suc (count f n) = count-insert f c n (omega arith) e in
      elim (cases_Bool (f n)) [
        | inl h ↦ (let a : count (λ p. f p || (c == p)) (suc n) ≡ suc (count (λ p. f p || (c == p)) n) = count-here (λ p. f p || (c == p)) n (or_left (f n) (c == n) h) in
            let b : count f (suc n) ≡ suc (count f n) = count-here f n h in omega arith)
        | inr h ↦ (let a : count (λ p. f p || (c == p)) (suc n) ≡ count (λ p. f p || (c == p)) n = count-not (λ p. f p || (c == p)) n (or_from (f n) (c == n) h (ne_eqb c n ne)) in
            let b : count f (suc n) ≡ count f n = count-not f n h in omega arith)
      ])
]
  where
    or_none : (x : Bool) → (x || false) ≡ x
    or_none true = refl
    or_none false = refl

count-none : (b : ℕ → ℕ) (n : ℕ) → count (member b zero) n ≡ 0
unfolding count member
count-none b zero = refl
count-none b (suc n) = rw (count-none b n) refl

member-more : (b : ℕ → ℕ) (k n : ℕ) → count (member b (suc k)) n ≡ count (λ p. member b k p || (b k == p)) n
unfolding member
member-more b k n = refl

-- different values below n make a set of k
pub count-member : (b : ℕ → ℕ) (k n : ℕ) → ((i : ℕ) → i < k → b i < n) → ((i h : ℕ) → i < k → h < k → b i ≡ b h → i ≡ h) → count (member b k) n ≡ k
count-member b zero n below apart = count-none b n
count-member b (suc k) n below apart =
    let ih : count (member b k) n ≡ k = count-member b k n (λ i l. below i (omega arith)) (λ i h l lh e. apart i h (omega arith) (omega arith) e) in
    let new : member b k (b k) ≡ false = false_from_ne_true (member b k (b k)) (λ e. (let h : Has b k (b k) = member-has b k (b k) e in let l : h.0 < k = h.1 in let same : h.0 ≡ k = apart h.0 k (omega arith) (omega arith) h.2 in omega arith)) in
    member-more b k n ∙ count-insert (member b k) (b k) n (below k (omega arith)) new ∙ ap suc ih
