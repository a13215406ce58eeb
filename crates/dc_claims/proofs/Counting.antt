-- How many items of a list pass a test.
use Rattle.std.specs.Prelude.{◌≡◌, ℕ, zero, suc, ◌+◌, ◌≤◌, ◌<◌, Bool, true, false, cond, eqb, List, [], ◌∷◌, ◌++◌, map, flat_map}
use Rattle.std.specs.List.{range_with_len}
use Rattle.std.proofs.Common.{refl, ap₂, arith}
use Rattle.std.proofs.lemmas.Bool.{ne_eqb}
use Rattle.dc_claims.proofs.Totals.{eqb_is}

abbrev pub passing : {A : Type 0} → (A → Bool) → List A → ℕ
passing test [] = 0
passing test (x ∷ xs) = cond (test x) 1 0 + passing test xs

pub passing-++ : {A : Type 0} (test : A → Bool) (xs ys : List A) → passing test (xs ++ ys) ≡ passing test xs + passing test ys
passing-++ test [] ys = omega arith
passing-++ test (x ∷ xs) ys = let h = passing-++ test xs ys in omega arith

-- the images pass where their numbers do
pub passing-map : {A B : Type 0} (test : B → Bool) (g : A → B) (key : A → Bool) (xs : List A) → ((x : A) → test (g x) ≡ key x) → passing test (map g xs) ≡ passing key xs
passing-map test g key [] h = refl
passing-map test g key (x ∷ xs) h = ap₂ (λ b j. cond b 1 0 + j) (h x) (passing-map test g key xs h)

pub none_mapped : {A B : Type 0} (test : B → Bool) (g : A → B) (xs : List A) → ((x : A) → test (g x) ≡ false) → passing test (map g xs) ≡ 0
none_mapped test g [] h = refl
none_mapped test g (x ∷ xs) h = ap₂ (λ b j. cond b 1 0 + j) (h x) (none_mapped test g xs h)

pub none_flat : {A B : Type 0} (test : B → Bool) (f : A → List B) (xs : List A) → ((x : A) → passing test (f x) ≡ 0) → passing test (flat_map f xs) ≡ 0
none_flat test f [] h = refl
none_flat test f (x ∷ xs) h = let e = passing-++ test (f x) (flat_map f xs) in let a = h x in let r = none_flat test f xs h in omega arith

-- where only the items of one key have passing images, at most one each
pub flat_at_most : {A B : Type 0} (test : B → Bool) (f : A → List B) (key : A → Bool) (xs : List A) → ((x : A) → passing test (f x) ≤ cond (key x) 1 0) → passing test (flat_map f xs) ≤ passing key xs
flat_at_most test f key [] h = omega arith
flat_at_most test f key (x ∷ xs) h = let e = passing-++ test (f x) (flat_map f xs) in let a = h x in let r = flat_at_most test f key xs h in omega arith

-- ---- numbers
pub range_past : (n a m : ℕ) → n < a → passing (eqb n) (range_with_len a m) ≡ 0
range_past n a zero h = refl
range_past n a (suc m) h = ap₂ (λ b j. cond b 1 0 + j) (ne_eqb n a (λ e. omega arith)) (range_past n (a + 1) m (omega arith))

pub range_once : (n a m : ℕ) → passing (eqb n) (range_with_len a m) ≤ 1
range_once n a zero = omega arith
range_once n a (suc m) = by (range_once n (a + 1) m) (range_past n (a + 1) m) (eqb n a) refl
  where
    by : passing (eqb n) (range_with_len (a + 1) m) ≤ 1 → (n < a + 1 → passing (eqb n) (range_with_len (a + 1) m) ≡ 0) → (b : Bool) → eqb n a ≡ b → cond b 1 0 + passing (eqb n) (range_with_len (a + 1) m) ≤ 1
    by r z true q = let e = eqb_is n a q in let i = z (omega arith) in omega arith
    by r z false q = omega arith
