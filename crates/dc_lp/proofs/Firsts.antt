-- The first of several that is there, and the first index that passes.
use Rattle.std.proofs.Common.{◌≡◌, ℕ, zero, suc, ◌+◌, ◌<◌, ◌≤◌, ◌⊎◌, inl, inr, Bool, true, false, nat_lt, Option, Some, None, refl, sym, ◌∙◌, ap, arith, add-one}
use Rattle.std.specs.Option.{option_or}
use Rattle.std.proofs.lemmas.Bool.{cases_Bool, cases_eq, ltb-true, ltb-false}
use Rattle.dc_lp.specs.Tables.{first_some, first_index}
use Rattle.dc_lp.specs.Folds.{checked}

checked-some : (b : Bool) (x a : ℕ) → checked b x ≡ Some a → (b ≡ true) × (x ≡ a)
checked-some true x a e = (refl, cc)
checked-some false x a e = absurd (cc)

checked-none : (b : Bool) (x : ℕ) → checked b x ≡ None → b ≡ false
checked-none true x e = absurd (cc)
checked-none false x e = refl

or-none : {A : Type 0} (a b : Option A) → option_or a b ≡ None → (a ≡ None) × (b ≡ None)
or-none None b e = (refl, e)
or-none (Some a) b e = absurd (cc)

or-some : {A : Type 0} (a b : Option A) (x : A) → option_or a b ≡ Some x → (a ≡ Some x) ⊎ ((a ≡ None) × (b ≡ Some x))
or-some None b x e = inr (refl, e)
or-some (Some a) b x e = inl e

pub first_some-all : {A : Type 0} (f : ℕ → Option A) (n : ℕ) → first_some f n ≡ None → (k : ℕ) → k < n → f k ≡ None
first_some-all f zero e k l = absurd (omega arith)
first_some-all f (suc n) e k l =
    let h = or-none (first_some f n) (f n) e in
    elim (cases_eq k n) [ inl same ↦ ap f same ∙ h.1 | inr ne ↦ first_some-all f n h.0 k (omega arith) ]

pub first_some-is : {A : Type 0} (f : ℕ → Option A) (n : ℕ) (x : A) → first_some f n ≡ Some x → (k : ℕ) × (k < n) × (f k ≡ Some x) × ((l : ℕ) → l < k → f l ≡ None)
first_some-is f zero x e = absurd (cc)
first_some-is f (suc n) x e = elim (or-some (first_some f n) (f n) x e) [
  | inl h ↦ (let r : (k : ℕ) × (k < n) × (f k ≡ Some x) × ((l : ℕ) → l < k → f l ≡ None) = first_some-is f n x h in (r.0, (let l : r.0 < n = r.1 in omega arith), r.2, r.3))
  | inr h ↦ (n, omega arith, h.1, first_some-all f n h.0)
]

pub index-none : (test : ℕ → Bool) (n : ℕ) → first_index test n ≡ None → (k : ℕ) → k < n → test k ≡ false
index-none test n e k l = checked-none (test k) k (first_some-all (λ x. checked (test x) x) n e k l)

pub index-some : (test : ℕ → Bool) (n j : ℕ) → first_index test n ≡ Some j → (j < n) × (test j ≡ true) × ((k : ℕ) → k < j → test k ≡ false)
index-some test n j e =
    let r : (k : ℕ) × (k < n) × (checked (test k) k ≡ Some j) × ((l : ℕ) → l < k → checked (test l) l ≡ None) = first_some-is (λ x. checked (test x) x) n j e in
    let c = checked-some (test r.0) r.0 j r.2 in
    let same : r.0 ≡ j = c.1 in
    let below : r.0 < n = r.1 in
    (omega arith, ap test (sym same) ∙ c.0, λ k l. checked-none (test k) k (r.3 k (omega arith)))

-- one index more, and the first that is there
pub first_some-none : {A : Type 0} (f : ℕ → Option A) (i : ℕ) → first_some f i ≡ None → f i ≡ None → first_some f (i + 1) ≡ None
first_some-none f i e h = rw (add-one, e) h

pub first_some-found : {A : Type 0} (f : ℕ → Option A) (i n : ℕ) (a : A) → first_some f i ≡ None → f i ≡ Some a → i < n → first_some f n ≡ Some a
first_some-found f i zero a e h lt = absurd (omega arith)
first_some-found f i (suc n) a e h lt =
    elim (cases_Bool (nat_lt i n)) [
      | inl b ↦ ap (λ o. option_or o (f n)) (first_some-found f i n a e h (ltb-true i n b))
      | inr b ↦ let same : i ≡ n = (let up : n ≤ i = ltb-false i n b in omega arith) in
          ap (λ o. option_or o (f n)) (ap (first_some f) (sym same) ∙ e) ∙ ap f (sym same) ∙ h
    ]

-- the other way round: an index that passes, none before it; and none at all
pub none-index : (test : ℕ → Bool) (n : ℕ) → ((k : ℕ) → k < n → test k ≡ false) → first_index test n ≡ None
none-index test zero h = refl
none-index test (suc n) h = rw (none-index test n (λ k l. h k (omega arith)), h n (omega arith)) refl

pub some-index : (test : ℕ → Bool) (n j : ℕ) → j < n → test j ≡ true → ((k : ℕ) → k < j → test k ≡ false) → first_index test n ≡ Some j
some-index test n j l e h = first_some-found (λ k. checked (test k) k) j n j (none-index test j h) (rw e refl) l
