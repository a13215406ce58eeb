-- The literals rise, and are the numbers that were put in.
use Rattle.std.specs.Prelude.{◌≡◌, ◌⊎◌, ◌↔◌, ℕ, ◌<◌, ◌≤◌, Bool, true, false, ltb, eqb, if◌then◌else◌, List, [], ◌∷◌, refl}
use Rattle.std.specs.List.{AllByRecursion}
use Rattle.std.proofs.Common.{subst, arith, inl, inr}
use Rattle.std.proofs.lemmas.Bool.{ltb-true, ltb-false, eqb-true, eqb-false}
use Rattle.dc_math.specs.Members.{Among, head, tail, each-weaker}
use Rattle.dc_syntax.specs.declared.tree.Stmt.{Stmt}
use Rattle.dc_system.specs.Literals.{with_number, with_numbers, numbers_of, literals_of}
use Rattle.dc_system.specs.Laws.{Rising}

pub with_number_each : (P : ℕ → Type 0) (k : ℕ) (xs : List ℕ) → P k → AllByRecursion P xs → AllByRecursion P (with_number k xs)
with_number_each P k [] p h = (p, tt)
with_number_each P k (x ∷ xs) p h = by (with_number_each P k xs p h.1) (ltb k x) (eqb k x)
  where
    by : AllByRecursion P (with_number k xs) → (b c : Bool) → AllByRecursion P (if b then k ∷ x ∷ xs else (if c then x ∷ xs else x ∷ with_number k xs))
    by r true c = (p, h)
    by r false true = h
    by r false false = (h.0, r)

pub with_numbers_each : (P : ℕ → Type 0) (out ks : List ℕ) → AllByRecursion P out → AllByRecursion P ks → AllByRecursion P (with_numbers out ks)
with_numbers_each P out [] h g = h
with_numbers_each P out (k ∷ ks) h g = with_numbers_each P (with_number k out) ks (with_number_each P k out g.0 h) g.1

-- ---- they rise
rising_with : (k : ℕ) (xs : List ℕ) → Rising xs → Rising (with_number k xs)
rising_with k [] h = (tt, tt)
rising_with k (x ∷ xs) h = by (rising_with k xs h.1) (ltb k x) refl (eqb k x) refl
  where
    by : Rising (with_number k xs) → (b : Bool) → ltb k x ≡ b → (c : Bool) → eqb k x ≡ c → Rising (if b then k ∷ x ∷ xs else (if c then x ∷ xs else x ∷ with_number k xs))
    by r true p c q = let l = ltb-true k x p in ((l, each-weaker (λ y. x < y) (λ y. k < y) (λ y m. omega arith) xs h.0), h)
    by r false p true q = h
    by r false p false q =
        let l = ltb-false k x p in
        let n = eqb-false k x q in
        let m : x < k = more k x l n in
        (with_number_each (λ y. x < y) k xs m h.0, r)
      where
        more : (k x : ℕ) → x ≤ k → (k ≡ x → ⊥) → x < k
        more k x l n = omega arith

rising_all : (out ks : List ℕ) → Rising out → Rising (with_numbers out ks)
rising_all out [] h = h
rising_all out (k ∷ ks) h = rising_all (with_number k out) ks (rising_with k out h)

-- ---- they are the numbers
first : {j k : ℕ} {ys : List ℕ} → Among j (k ∷ ys) → (j ≡ k) ⊎ Among j ys
first head = inl refl
first (tail i) = inr i

with_in : (j k : ℕ) (xs : List ℕ) → (j ≡ k) ⊎ Among j xs → Among j (with_number k xs)
with_in j k [] (inl e) = subst (λ i. Among j (i ∷ [])) e head
with_in j k [] (inr i) = elim i [ ]
with_in j k (x ∷ xs) h = by (with_in j k xs) (ltb k x) (eqb k x) refl h
  where
    by : ((j ≡ k) ⊎ Among j xs → Among j (with_number k xs)) → (b c : Bool) → eqb k x ≡ c → (j ≡ k) ⊎ Among j (x ∷ xs) → Among j (if b then k ∷ x ∷ xs else (if c then x ∷ xs else x ∷ with_number k xs))
    by r true c q (inl e) = subst (λ i. Among j (i ∷ x ∷ xs)) e head
    by r true c q (inr i) = tail i
    by r false true q (inl e) = let o = eqb-true k x q in let m : j ≡ x = omega arith in subst (λ i. Among j (i ∷ xs)) m head
    by r false true q (inr i) = i
    by r false false q (inl e) = tail (r (inl e))
    by r false false q (inr i) = elim (first i) [ inl e ↦ subst (λ y. Among j (y ∷ with_number k xs)) e head | inr m ↦ tail (r (inr m)) ]

in_with : (j k : ℕ) (xs : List ℕ) → Among j (with_number k xs) → (j ≡ k) ⊎ Among j xs
in_with j k [] head = inl refl
in_with j k [] (tail i) = elim i [ ]
in_with j k (x ∷ xs) h = by (in_with j k xs) (ltb k x) (eqb k x) h
  where
    later : (j ≡ x) ⊎ Among j (with_number k xs) → (Among j (with_number k xs) → (j ≡ k) ⊎ Among j xs) → (j ≡ k) ⊎ Among j (x ∷ xs)
    later (inl e) r = inr (subst (λ i. Among j (i ∷ xs)) e head)
    later (inr i) r = elim (r i) [ inl e ↦ inl e | inr m ↦ inr (tail m) ]

    by : (Among j (with_number k xs) → (j ≡ k) ⊎ Among j xs) → (b c : Bool) → Among j (if b then k ∷ x ∷ xs else (if c then x ∷ xs else x ∷ with_number k xs)) → (j ≡ k) ⊎ Among j (x ∷ xs)
    by r true c i = first i
    by r false true i = inr i
    by r false false i = later (first i) r

gathered_in : (j : ℕ) (out ks : List ℕ) → Among j out ⊎ Among j ks → Among j (with_numbers out ks)
gathered_in j out [] (inl i) = i
gathered_in j out [] (inr i) = elim i [ ]
gathered_in j out (k ∷ ks) (inl i) = gathered_in j (with_number k out) ks (inl (with_in j k out (inr i)))
gathered_in j out (k ∷ ks) (inr head) = gathered_in j (with_number k out) ks (inl (with_in j k out (inl refl)))
gathered_in j out (k ∷ ks) (inr (tail i)) = gathered_in j (with_number k out) ks (inr i)

in_gathered : (j : ℕ) (out ks : List ℕ) → Among j (with_numbers out ks) → Among j out ⊎ Among j ks
in_gathered j out [] i = inl i
in_gathered j out (k ∷ ks) i = by (in_gathered j (with_number k out) ks i)
  where
    by : Among j (with_number k out) ⊎ Among j ks → Among j out ⊎ Among j (k ∷ ks)
    by (inl m) = elim (in_with j k out m) [ inl e ↦ inr (subst (λ i. Among j (i ∷ ks)) e head) | inr o ↦ inl o ]
    by (inr m) = inr (tail m)

only_new : (j : ℕ) (ks : List ℕ) → Among j [] ⊎ Among j ks → Among j ks
only_new j ks (inl i) = elim i [ ]
only_new j ks (inr i) = i

pub literals_are : (A : List Stmt) → Rising (literals_of A) × ((k : ℕ) → Among k (literals_of A) ↔ Among k (numbers_of A))
literals_are A = (rising_all [] (numbers_of A) tt, λ k. ((λ i. only_new k (numbers_of A) (in_gathered k [] (numbers_of A) i)), λ i. gathered_in k [] (numbers_of A) (inr i)))
