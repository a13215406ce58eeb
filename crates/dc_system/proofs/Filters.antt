-- What stands in a filtered list, its length, and counts.
use Rattle.std.specs.Prelude.{◌≡◌, ◌⊎◌, ℕ, zero, suc, ◌+◌, ◌≤◌, ◌<◌, Bool, true, false, not, cond, ltb, eqb, List, [], ◌∷◌, ◌++◌, length, filter, refl}
use Rattle.std.proofs.Common.{sym, ◌∙◌, ap, ap₂, subst, arith, inl, inr, add-one}
use Rattle.std.proofs.lemmas.Bool.{ltb-true, ltb-false, le-ltb, eqb-true, eqb-false, eq-eqb, ne_eqb}
use Rattle.std.proofs.lemmas.Bool.{cases_order}
use Rattle.std.proofs.lemmas.List.{length_push}
use Rattle.dc_math.specs.Members.{Among, head, tail, among-one, among-left, among-right, among-++, among_cons}
use Rattle.dc_system.specs.Folded.{number_in, numbers_below, without}
use Rattle.dc_system.specs.Spots.{times_in, IsLast}

pub record InBoth {A : Type 0} (p : A → Bool) (x : A) (xs : List A) : Type 0 where
  pub among : Among x xs
  pub passes : p x ≡ true

pub in_kept : {A : Type 0} (p : A → Bool) (x : A) (xs : List A) → Among x (filter p xs) → InBoth p x xs
in_kept p x [] i = elim i [ ]
in_kept p x (y ∷ xs) i = by (p y) refl (in_kept p x xs) i
  where
    behind : InBoth p x xs → InBoth p x (y ∷ xs)
    behind r = record { among = tail r.among; passes = r.passes }

    here : p y ≡ true → (x ≡ y) ⊎ Among x (filter p xs) → (Among x (filter p xs) → InBoth p x xs) → InBoth p x (y ∷ xs)
    here q (inl e) r = record { among = subst (λ z. Among x (z ∷ xs)) e head; passes = ap p e ∙ q }
    here q (inr i) r = behind (r i)

    by : (b : Bool) → p y ≡ b → (Among x (filter p xs) → InBoth p x xs) → Among x (cond b (y ∷ filter p xs) (filter p xs)) → InBoth p x (y ∷ xs)
    by true q r i = here q (among_cons i) r
    by false q r i = behind (r i)

pub length-filter : {A : Type 0} (p : A → Bool) (xs : List A) → length (filter p xs) ≤ length xs
length-filter p [] = omega arith
length-filter p (x ∷ xs) = by (p x) (length-filter p xs)
  where
    by : (b : Bool) → length (filter p xs) ≤ length xs → length (cond b (x ∷ filter p xs) (filter p xs)) ≤ suc (length xs)
    by true h = omega arith
    by false h = omega arith

-- an item that does not pass is gone
pub length-filter_less : {A : Type 0} (p : A → Bool) (x : A) (xs : List A) → p x ≡ false → Among x xs → length (filter p xs) < length xs
length-filter_less p x [] h i = elim i [ ]
length-filter_less p x (y ∷ xs) h i = by (p y) refl (among_cons i) (length-filter p xs) (λ j. length-filter_less p x xs h j)
  where
    by : (b : Bool) → p y ≡ b → (x ≡ y) ⊎ Among x xs → length (filter p xs) ≤ length xs → (Among x xs → length (filter p xs) < length xs) → length (cond b (y ∷ filter p xs) (filter p xs)) < suc (length xs)
    by true q (inl e) l r = let o : true ≡ false = sym q ∙ ap p (sym e) ∙ h in cc
    by true q (inr i) l r = let o = r i in omega arith
    by false q i l r = omega arith

-- ---- how many of a list are below a number
pub number_rises : (left : List ℕ) (j k : ℕ) → j ≤ k → number_in left j ≤ number_in left k
number_rises [] j k h = omega arith
number_rises (i ∷ left) j k h = by (ltb i j) refl (ltb i k) refl (number_rises left j k h)
  where
    by : (b : Bool) → ltb i j ≡ b → (c : Bool) → ltb i k ≡ c → number_in left j ≤ number_in left k → cond b 1 0 + number_in left j ≤ cond c 1 0 + number_in left k
    by true p true q r = omega arith
    by true p false q r = let x = ltb-true i j p in let y = ltb-false i k q in absurd (omega arith)
    by false p true q r = omega arith
    by false p false q r = omega arith

pub number_more : (left : List ℕ) (j k : ℕ) → j < k → Among j left → number_in left j < number_in left k
number_more [] j k h i = elim i [ ]
number_more (y ∷ left) j k h i = by (ltb y j) refl (ltb y k) refl (among_cons i) (number_rises left j k (omega arith)) (λ m. number_more left j k h m)
  where
    by : (b : Bool) → ltb y j ≡ b → (c : Bool) → ltb y k ≡ c → (j ≡ y) ⊎ Among j left → number_in left j ≤ number_in left k → (Among j left → number_in left j < number_in left k) → cond b 1 0 + number_in left j < cond c 1 0 + number_in left k
    by true p true q (inl e) l r = let x = ltb-true y j p in absurd (omega arith)
    by true p true q (inr i) l r = let o = r i in omega arith
    by true p false q i l r = let x = ltb-true y j p in let z = ltb-false y k q in absurd (omega arith)
    by false p true q i l r = omega arith
    by false p false q (inl e) l r = let z = ltb-false y k q in absurd (omega arith)
    by false p false q (inr i) l r = let o = r i in omega arith

pub number_same : (left : List ℕ) (j k : ℕ) → Among j left → Among k left → number_in left j ≡ number_in left k → j ≡ k
number_same left j k a b e = by (cases_order j k)
  where
    by : (j ≡ k) ⊎ ((j < k) ⊎ (k < j)) → j ≡ k
    by (inl q) = q
    by (inr (inl q)) = let r = number_more left j k q a in absurd (omega arith)
    by (inr (inr q)) = let r = number_more left k j q b in absurd (omega arith)

pub number_none : (left : List ℕ) → number_in left 0 ≡ 0
number_none [] = refl
number_none (i ∷ left) = rw (le-ltb i 0 (omega arith)) (let r = number_none left in omega arith)

-- ---- the last one
below_or : (left : List ℕ) (x : ℕ) → ((k : ℕ) → Among k left → k ≤ x) → number_in left x + times_in left x ≡ length left
below_or [] x h = refl
below_or (j ∷ left) x h = by (ltb j x) refl (eqb j x) refl (h j head) (below_or left x (λ k i. h k (tail i)))
  where
    by : (b : Bool) → ltb j x ≡ b → (c : Bool) → eqb j x ≡ c → j ≤ x → number_in left x + times_in left x ≡ length left → (cond b 1 0 + number_in left x) + (cond c 1 0 + times_in left x) ≡ suc (length left)
    by true p true q l r = let a = ltb-true j x p in let b = eqb-true j x q in absurd (omega arith)
    by true p false q l r = omega arith
    by false p true q l r = omega arith
    by false p false q l r = let a = ltb-false j x p in let b = eqb-false j x q in absurd (b (omega arith))

pub last_number : (left : List ℕ) (x : ℕ) → IsLast left x → number_in left x + 1 ≡ length left
last_number left x h = let a = below_or left x h.greatest in let b = h.once in omega arith

times_without : (l x : ℕ) (left : List ℕ) → (l ≡ x → ⊥) → times_in (without l left) x ≡ times_in left x
times_without l x [] h = refl
times_without l x (j ∷ left) h = by (eqb j l) refl (times_without l x left h)
  where
    by : (b : Bool) → eqb j l ≡ b → times_in (without l left) x ≡ times_in left x → times_in (cond (not b) (j ∷ without l left) (without l left)) x ≡ cond (eqb j x) 1 0 + times_in left x
    by true q r = rw (ne_eqb j x (λ e. let a = eqb-true j l q in h (omega arith))) (omega arith)
    by false q r = ap (λ y. cond (eqb j x) 1 0 + y) r

pub last_without : (l x : ℕ) (left : List ℕ) → (l ≡ x → ⊥) → IsLast left x → IsLast (without l left) x
last_without l x left h k = record {
  greatest = λ j i. k.greatest j (in_kept (λ i. not (eqb i l)) j left i).among;
  once = times_without l x left h ∙ k.once;
}

-- ---- the numbers below one
pub in_numbers : (k n : ℕ) → k < n → Among k (numbers_below n)
in_numbers k zero h = absurd (omega arith)
in_numbers k (suc n) h = by (cases_order k n) (λ q. in_numbers k n q)
  where
    by : (k ≡ n) ⊎ ((k < n) ⊎ (n < k)) → (k < n → Among k (numbers_below n)) → Among k (numbers_below n ++ n ∷ [])
    by (inl q) r = among-right (numbers_below n) (subst (λ z. Among k (z ∷ [])) q head)
    by (inr (inl q)) r = among-left (n ∷ []) (r q)
    by (inr (inr q)) r = absurd (omega arith)

pub numbers_in : (k n : ℕ) → Among k (numbers_below n) → k < n
numbers_in k zero i = elim i [ ]
numbers_in k (suc n) i = by (among-++ (numbers_below n) i) (λ j. numbers_in k n j)
  where
    by : Among k (numbers_below n) ⊎ Among k (n ∷ []) → (Among k (numbers_below n) → k < n) → k < suc n
    by (inl j) r = let a = r j in omega arith
    by (inr j) r = let a = among-one j in omega arith

pub length-numbers : (n : ℕ) → length (numbers_below n) ≡ n
length-numbers zero = refl
length-numbers (suc n) = length_push (numbers_below n) n ∙ add-one (length (numbers_below n)) ∙ ap suc (length-numbers n)

times-++ : (a b : List ℕ) (x : ℕ) → times_in (a ++ b) x ≡ times_in a x + times_in b x
times-++ [] b x = omega arith
times-++ (j ∷ a) b x = let r = times-++ a b x in omega arith

times_none : (n x : ℕ) → n ≤ x → times_in (numbers_below n) x ≡ 0
times_none zero x h = refl
times_none (suc n) x h = times-++ (numbers_below n) (n ∷ []) x ∙ ap₂ (λ a b. a + (cond b 1 0 + 0)) (times_none n x (omega arith)) (ne_eqb n x (λ e. omega arith))

pub last_numbers : (x : ℕ) → IsLast (numbers_below (suc x)) x
last_numbers x = record {
  greatest = λ k i. let a = numbers_in k (suc x) i in omega arith;
  once = times-++ (numbers_below x) (x ∷ []) x ∙ ap₂ (λ a b. a + (cond b 1 0 + 0)) (times_none x x (omega arith)) (eq-eqb x x refl);
}
