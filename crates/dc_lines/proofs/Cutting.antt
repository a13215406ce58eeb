-- Texts that are cut at the first byte of a value.
use Rattle.std.specs.Prelude.{◌≡◌, ℕ, suc, Bool, true, false, eqb, cond, List, [], ◌∷◌, ◌++◌, length, refl}
use Rattle.std.proofs.Common.{sym, ◌∙◌, ap, arith, append_assoc}
use Rattle.std.proofs.lemmas.Bool.{eq-eqb, eqb-true, eqb-false, ne_eqb}
use Rattle.dc_lines.specs.Bytes.{Bytes, spaced}
use Rattle.dc_lines.specs.Cuts.{until, onward, Lacks, Starts}

pub tail_of : (x : ℕ) (u v : Bytes) → x ∷ u ≡ x ∷ v → u ≡ v
tail_of x u v e = cc

pub nil_not : (x : ℕ) (u v : Bytes) → x ∷ u ≡ v → v ≡ [] → ⊥
nil_not x u v e f = cc

-- what follows the same word is the same
pub cancel : (k x y : Bytes) → k ++ x ≡ k ++ y → x ≡ y
cancel [] x y e = e
cancel (a ∷ k) x y e = cancel k x y (tail_of a (k ++ x) (k ++ y) e)

pub until-append : (b : ℕ) (w r : Bytes) → Lacks b w → Starts b r → until b (w ++ r) ≡ w
until-append b [] [] h s = refl
until-append b [] (x ∷ r) h s = ap (λ t. cond t [] (x ∷ until b r)) (eq-eqb x b s)
until-append b (x ∷ w) r h s = ap (λ t. cond t [] (x ∷ until b (w ++ r))) (ne_eqb x b h.0) ∙ ap (λ l. x ∷ l) (until-append b w r h.1 s)

pub onward-append : (b : ℕ) (w r : Bytes) → Lacks b w → Starts b r → onward b (w ++ r) ≡ r
onward-append b [] [] h s = refl
onward-append b [] (x ∷ r) h s = ap (λ t. cond t (x ∷ r) (onward b r)) (eq-eqb x b s)
onward-append b (x ∷ w) r h s = ap (λ t. cond t (x ∷ (w ++ r)) (onward b (w ++ r))) (ne_eqb x b h.0) ∙ onward-append b w r h.1 s

pub cut_whole : (b : ℕ) (xs : Bytes) → until b xs ++ onward b xs ≡ xs
cut_whole b [] = refl
cut_whole b (x ∷ xs) = by (cut_whole b xs) (eqb x b)
  where
    by : until b xs ++ onward b xs ≡ xs → (t : Bool) → cond t [] (x ∷ until b xs) ++ cond t (x ∷ xs) (onward b xs) ≡ x ∷ xs
    by r true = refl
    by r false = ap (λ l. x ∷ l) r

pub until-lacks : (b : ℕ) (xs : Bytes) → Lacks b (until b xs)
until-lacks b [] = tt
until-lacks b (x ∷ xs) = by (until-lacks b xs) (eqb x b) refl
  where
    by : Lacks b (until b xs) → (t : Bool) → eqb x b ≡ t → Lacks b (cond t [] (x ∷ until b xs))
    by r true e = tt
    by r false e = (eqb-false x b e, r)

pub onward-starts : (b : ℕ) (xs : Bytes) → Starts b (onward b xs)
onward-starts b [] = tt
onward-starts b (x ∷ xs) = by (onward-starts b xs) (eqb x b) refl
  where
    by : Starts b (onward b xs) → (t : Bool) → eqb x b ≡ t → Starts b (cond t (x ∷ xs) (onward b xs))
    by r true e = eqb-true x b e
    by r false e = r

pub lacks-append : (b : ℕ) (xs ys : Bytes) → Lacks b xs → Lacks b ys → Lacks b (xs ++ ys)
lacks-append b [] ys h k = k
lacks-append b (x ∷ xs) ys h k = (h.0, lacks-append b xs ys h.1 k)

-- two texts that are cut at the same byte are equal piece by piece
pub same_cut : (b : ℕ) (v w r s : Bytes) → Lacks b v → Lacks b w → Starts b r → Starts b s → v ++ r ≡ w ++ s → (v ≡ w) × (r ≡ s)
same_cut b v w r s h k i j e =
    (sym (until-append b v r h i) ∙ ap (until b) e ∙ until-append b w s k j, sym (onward-append b v r h i) ∙ ap (onward b) e ∙ onward-append b w s k j)

-- ---- lists with a space in front of each
pub spaced-starts : {A : Type 0} (f : A → Bytes) (xs : List A) → Starts 32 (spaced f xs)
spaced-starts f [] = tt
spaced-starts f (x ∷ xs) = refl

pub spaced-append : {A : Type 0} (f : A → Bytes) (xs ys : List A) → spaced f (xs ++ ys) ≡ spaced f xs ++ spaced f ys
spaced-append f [] ys = refl
spaced-append f (x ∷ xs) ys = ap (λ l. 32 ∷ l) (ap (λ l. f x ++ l) (spaced-append f xs ys) ∙ sym (append_assoc (f x) (spaced f xs) (spaced f ys)))

-- ---- whether a text is empty
pub empty_is : (xs : Bytes) → true ≡ eqb (length xs) 0 → xs ≡ []
empty_is [] e = refl
empty_is (x ∷ xs) e = absurd (eqb-false (suc (length xs)) 0 (ne_eqb (suc (length xs)) 0 (λ q. omega arith)) (eqb-true (suc (length xs)) 0 (sym e)))

pub some_is : (xs : Bytes) → false ≡ eqb (length xs) 0 → ¬ (xs ≡ [])
some_is xs e q = eqb-false (length xs) 0 (sym e) (ap length q)

-- ---- lists with one more
pub length-more : {A : Type 0} (xs : List A) (x : A) → length (xs ++ x ∷ []) ≡ suc (length xs)
length-more [] x = refl
length-more (y ∷ xs) x = ap suc (length-more xs x)

-- ---- a word that is written out lacks a line feed
unfoldable pub lacks : Bytes → Bool
lacks [] = true
lacks (x ∷ xs) = cond (eqb x 10) false (lacks xs)

pub word-lacks : (xs : Bytes) → lacks xs ≡ true → Lacks 10 xs
unfolding lacks
word-lacks [] h = tt
word-lacks (x ∷ xs) h = by (eqb x 10) refl h (word-lacks xs)
  where
    by : (t : Bool) → eqb x 10 ≡ t → cond t false (lacks xs) ≡ true → (lacks xs ≡ true → Lacks 10 xs) → (¬ (x ≡ 10)) × Lacks 10 xs
    by true e h r = (let q : false ≡ true = h in cc)
    by false e h r = (eqb-false x 10 e, r h)
