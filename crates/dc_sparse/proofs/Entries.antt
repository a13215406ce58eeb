-- The entries that an arena holds, by its nodes.
use Rattle.std.proofs.Common.{◌≡◌, ◌≢◌, ℕ, zero, suc, ◌<◌, Bool, true, false, cond, not, ◌&&◌, ◌==◌, pos, List, [], ◌∷◌, ◌++◌, length, refl, sym, ◌∙◌, ap, ap₂, subst, arith, inl, inr, eq-eqb}
use Rattle.std.proofs.lemmas.Bool.{cases_Bool, ne_eqb, eqb-true, eqb-false}
use Rattle.std.proofs.Math.Bool.{and-false}
use Rattle.dc_math.specs.Rational.{ℚ, ◌+ℚ◌, of_ℤ, +ℚ-zero, zero-+ℚ}
use Rattle.dc_math.specs.Tests.{is_zero, eq_ℚ_true, eq_ℚ-true}
use Rattle.dc_frac.specs.Value.{value}
use Rattle.dc_sparse.specs.declared.web.Node.{Node}
use Rattle.dc_sparse.specs.Lines.{AreApart}
use Rattle.dc_sparse.specs.Nodes.{row_at, col_at, item, is_live, by_rows}
use Rattle.dc_sparse.specs.Webs.{IsVacant, ChangesAt, IsSeated, IsCleared}
use Rattle.dc_sparse.specs.Entries.{share, entry_at, StandsAt, IsPut, KeepsAll, takes}

-- what the node at an index gives
abbrev pub gives : List Node → ℕ → ℕ → ℕ → ℚ
gives xs a i k = cond (row_at xs a == i && col_at xs a == k) (item xs a) (of_ℤ (pos 0))

pub entry_same : (xs ys : List Node) (i k : ℕ) → length ys ≡ length xs → ((a : ℕ) → gives ys a i k ≡ gives xs a i k) → entry_at ys i k ≡ entry_at xs i k
unfolding entry_at row_at col_at item
entry_same [] [] i k l h = refl
entry_same [] (y ∷ ys) i k l h = absurd (omega arith)
entry_same (x ∷ xs) [] i k l h = absurd (omega arith)
entry_same (x ∷ xs) (y ∷ ys) i k l h = ap₂ ◌+ℚ◌ (h 0) (entry_same xs ys i k (omega arith) (λ a. h (suc a)))

pub entry_none : (xs : List Node) (i k : ℕ) → ((a : ℕ) → gives xs a i k ≡ of_ℤ (pos 0)) → entry_at xs i k ≡ of_ℤ (pos 0)
unfolding entry_at row_at col_at item
entry_none [] i k h = refl
entry_none (x ∷ xs) i k h = ap₂ ◌+ℚ◌ (h 0) (entry_none xs i k (λ a. h (suc a))) ∙ zero-+ℚ (of_ℤ (pos 0))

pub entry_one : (xs : List Node) (n i k : ℕ) → n < length xs → ((a : ℕ) → a ≢ n → gives xs a i k ≡ of_ℤ (pos 0)) → entry_at xs i k ≡ gives xs n i k
unfolding entry_at row_at col_at item
entry_one [] n i k lt h = absurd (omega arith)
entry_one (x ∷ xs) zero i k lt h = ap (λ z. share x i k +ℚ z) (entry_none xs i k (λ a. h (suc a) (λ e. absurd (omega arith)))) ∙ +ℚ-zero (share x i k)
entry_one (x ∷ xs) (suc n) i k lt h = ap₂ ◌+ℚ◌ (h 0 (λ e. absurd (omega arith))) (entry_one xs n i k (omega arith) (λ a ne. h (suc a) (λ e. ne (let q : suc a ≡ suc n = e in omega arith)))) ∙ zero-+ℚ (gives xs n i k)

-- ---- what free nodes and nodes elsewhere give

pub item-dead : (xs : List Node) (a : ℕ) → is_live xs a ≡ false → item xs a ≡ of_ℤ (pos 0)
item-dead xs a e = by (is_zero (item xs a)) refl e
  where
    by : (b : Bool) → is_zero (item xs a) ≡ b → not b ≡ false → item xs a ≡ of_ℤ (pos 0)
    by true q e = eq_ℚ_true (item xs a) (of_ℤ (pos 0)) q
    by false q e = absurd (cc)

pub item-live : (xs : List Node) (a : ℕ) → is_live xs a ≡ true → is_zero (item xs a) ≡ false
item-live xs a e = by (is_zero (item xs a)) e
  where
    by : (b : Bool) → not b ≡ true → b ≡ false
    by true e = absurd (cc)
    by false e = refl

either_way : (b : Bool) (x : ℚ) → x ≡ of_ℤ (pos 0) → cond b x (of_ℤ (pos 0)) ≡ of_ℤ (pos 0)
either_way true x e = e
either_way false x e = refl

pub gives-dead : (xs : List Node) (a i k : ℕ) → is_live xs a ≡ false → gives xs a i k ≡ of_ℤ (pos 0)
gives-dead xs a i k e = either_way (row_at xs a == i && col_at xs a == k) (item xs a) (item-dead xs a e)

pub gives-elsewhere : (xs : List Node) (a i k : ℕ) → (row_at xs a ≡ i → col_at xs a ≡ k → ⊥) → gives xs a i k ≡ of_ℤ (pos 0)
gives-elsewhere xs a i k ne = elim (cases_Bool (row_at xs a == i)) [
  | inl e ↦
      (let f : (col_at xs a == k) ≡ false = ne_eqb (col_at xs a) k (ne (eqb-true (row_at xs a) i e)) in
      rw (f, and-false (row_at xs a == i)) refl)
  | inr e ↦ rw e refl
]

pub gives-here : (xs : List Node) (a i k : ℕ) → row_at xs a ≡ i → col_at xs a ≡ k → gives xs a i k ≡ item xs a
gives-here xs a i k e f = rw (eq-eqb (row_at xs a) i e, eq-eqb (col_at xs a) k f) refl

-- ---- the entry at a cell

pub entry-vacant : (xs : List Node) (i k : ℕ) → IsVacant xs i k → entry_at xs i k ≡ of_ℤ (pos 0)
entry-vacant xs i k vacant = entry_none xs i k (λ a. elim (cases_Bool (is_live xs a)) [
  | inl e ↦ gives-elsewhere xs a i k (vacant a e)
  | inr e ↦ gives-dead xs a i k e
])

pub entry-node : (xs : List Node) (n i k : ℕ) → n < length xs → AreApart (by_rows xs) → StandsAt xs n i k → entry_at xs i k ≡ item xs n
entry-node xs n i k lt apart h =
    entry_one xs n i k lt (λ a ne. elim (cases_Bool (is_live xs a)) [
      | inl e ↦ gives-elsewhere xs a i k (λ p q. ne (apart a n e h.live (p ∙ sym h.row) (q ∙ sym h.col)))
      | inr e ↦ gives-dead xs a i k e
    ])
    ∙ gives-here xs n i k h.row h.col

-- ---- what a change at one index does

module _ (old new : List Node) (n i k : ℕ) (h : ChangesAt old new n) where
  gives_same : (a b c : ℕ) → a ≢ n → gives new a b c ≡ gives old a b c
  gives_same a b c ne = rw (h.row a ne, h.col a ne, h.item a ne) refl

  stays_other : (a b c : ℕ) → a ≢ n → StandsAt old a b c → StandsAt new a b c
  stays_other a b c ne s = record { live = ap (λ q. not (is_zero q)) (h.item a ne) ∙ s.live; row = h.row a ne ∙ s.row; col = h.col a ne ∙ s.col }

  stood_other : (a b c : ℕ) → a ≢ n → StandsAt new a b c → StandsAt old a b c
  stood_other a b c ne s = record { live = ap (λ q. not (is_zero q)) (sym (h.item a ne)) ∙ s.live; row = sym (h.row a ne) ∙ s.row; col = sym (h.col a ne) ∙ s.col }

  -- before and after n stands at (i, k) or nowhere
  abbrev StandsHere : List Node → Type 0
  StandsHere xs = (b c : ℕ) → StandsAt xs n b c → (b ≡ i) × (c ≡ k)

  gives_none : (xs : List Node) → StandsHere xs → (b c : ℕ) → (b ≡ i → c ≡ k → ⊥) → gives xs n b c ≡ of_ℤ (pos 0)
  gives_none xs s b c ne = elim (cases_Bool (is_live xs n)) [
    | inl e ↦ gives-elsewhere xs n b c (λ p q. (let w = s b c (record { live = e; row = p; col = q }) in ne w.0 w.1))
    | inr e ↦ gives-dead xs n b c e
  ]

  pub put_by : (v : ℚ) → StandsHere old → StandsHere new → entry_at new i k ≡ v → IsPut old new i k v
  put_by v so sn e = record {
    here = e;
    others = λ b c ne. entry_same old new b c h.long (λ a. elim (cases_Bool (a == n)) [
      | inl q ↦ (let same : a ≡ n = eqb-true a n q in
          ap (λ x. gives new x b c) same ∙ gives_none new sn b c ne ∙ sym (gives_none old so b c ne) ∙ ap (λ x. gives old x b c) (sym same))
      | inr q ↦ gives_same a b c (eqb-false a n q)
    ]);
    stays = λ a b c ne s. stays_other a b c (λ q. (let w = so b c (subst (λ x. StandsAt old x b c) q s) in ne w.0 w.1)) s;
    stood = λ a b c ne s. stood_other a b c (λ q. (let w = sn b c (subst (λ x. StandsAt new x b c) q s) in ne w.0 w.1)) s;
  }

-- a node is seated where none was
pub put_seated : (old new : List Node) (n i k : ℕ) (v : ℚ) → n < length new → AreApart (by_rows new) → is_zero v ≡ false → IsSeated old new n i k v → IsPut old new i k v
put_seated old new n i k v lt apart nz h =
    let live : is_live new n ≡ true = ap (λ q. not (is_zero q)) h.item ∙ ap not nz in
    put_by old new n i k h.others v
    (λ b c s. (let e = s.live in let f = h.was in absurd (let r : ⊥ = cc in r)))
    (λ b c s. (sym s.row ∙ h.row, sym s.col ∙ h.col))
    (entry-node new n i k lt apart (record { live = live; row = h.row; col = h.col }) ∙ h.item)

-- a node is cleared
pub put_cleared : (old new : List Node) (n i k : ℕ) → AreApart (by_rows old) → StandsAt old n i k → is_live new n ≡ false → IsCleared old new n → IsPut old new i k (of_ℤ (pos 0))
put_cleared old new n i k apart at dead h =
    put_by old new n i k h.others (of_ℤ (pos 0))
    (λ b c s. (sym s.row ∙ at.row, sym s.col ∙ at.col))
    (λ b c s. (let e = s.live in absurd (let r : ⊥ = cc in r)))
    (entry-vacant new i k (λ a la p q.
    let ne : a ≢ n = (λ e. (let u : is_live new a ≡ is_live new n = ap (is_live new) e in cc)) in
    ne (apart a n (ap (λ z. not (is_zero z)) (sym (h.others.item a ne)) ∙ la) at.live (sym (h.others.row a ne) ∙ p ∙ sym at.row) (sym (h.others.col a ne) ∙ q ∙ sym at.col))))

-- nothing happens
pub put_same : (xs : List Node) (i k : ℕ) (v : ℚ) → entry_at xs i k ≡ v → IsPut xs xs i k v
put_same xs i k v e = record { here = e; others = λ a b ne. refl; stays = λ n a b ne s. s; stood = λ n a b ne s. s }

cond_false : (b : Bool) → cond {A = ℕ} (b && false) 1 0 ≡ 0
cond_false true = refl
cond_false false = refl

-- what becomes 0 takes none, and where an entry stands none is taken
pub takes-zero : (x y : ℚ) → is_zero y ≡ true → takes x y ≡ 0
takes-zero x y e = ap (λ b. cond {A = ℕ} (is_zero x && not b) 1 0) e ∙ cond_false (is_zero x)

pub takes-entry : (x y : ℚ) → is_zero x ≡ false → takes x y ≡ 0
takes-entry x y e = ap (λ b. cond {A = ℕ} (b && not (is_zero y)) 1 0) e

pub takes-both : (x y : ℚ) → is_zero x ≡ true → is_zero y ≡ false → takes x y ≡ 1
takes-both x y e f = ap (λ b. cond {A = ℕ} (b && not (is_zero y)) 1 0) e ∙ ap (λ b. cond {A = ℕ} (not b) 1 0) f

pub vacant-zero : (xs : List Node) (i k : ℕ) → IsVacant xs i k → is_zero (entry_at xs i k) ≡ true
vacant-zero xs i k vacant = ap is_zero (entry-vacant xs i k vacant) ∙ eq_ℚ-true (of_ℤ (pos 0)) (of_ℤ (pos 0)) refl

pub stands-nonzero : (xs : List Node) (n i k : ℕ) → n < length xs → AreApart (by_rows xs) → StandsAt xs n i k → is_zero (entry_at xs i k) ≡ false
stands-nonzero xs n i k lt apart s = ap is_zero (entry-node xs n i k lt apart s) ∙ item-live xs n s.live

-- an entry that comes takes a free node
pub takes_one : (xs : List Node) (i k : ℕ) (v : ℚ) → IsVacant xs i k → is_zero v ≡ false → takes (entry_at xs i k) v ≡ 1
takes_one xs i k v vacant nz = takes-both (entry_at xs i k) v (vacant-zero xs i k vacant) nz

pub keeps_refl : (xs : List Node) → KeepsAll xs xs
keeps_refl xs = record { entries = λ a b. refl; stays = λ n a b s. s; stood = λ n a b s. s }

pub keeps_on : (xs ys zs : List Node) → KeepsAll xs ys → KeepsAll ys zs → KeepsAll xs zs
keeps_on xs ys zs h k = record { entries = λ a b. k.entries a b ∙ h.entries a b; stays = λ n a b s. k.stays n a b (h.stays n a b s); stood = λ n a b s. h.stood n a b (k.stood n a b s) }

-- an arena with one free node more
pub entry_appended : (xs : List Node) (x : Node) (i k : ℕ) → value x.value ≡ of_ℤ (pos 0) → entry_at (xs ++ x ∷ []) i k ≡ entry_at xs i k
unfolding entry_at
entry_appended [] x i k e = ap (λ z. z +ℚ of_ℤ (pos 0)) (either_way (x.row == i && x.col == k) (value x.value) e) ∙ zero-+ℚ (of_ℤ (pos 0))
entry_appended (y ∷ ys) x i k e = ap (λ z. share y i k +ℚ z) (entry_appended ys x i k e)
