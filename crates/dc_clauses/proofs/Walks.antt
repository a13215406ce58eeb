-- Walks over the tests of a clause.
use Rattle.std.specs.Prelude.{◌≡◌, ℕ, zero, suc, ◌+◌, ◌*◌, ◌≤◌, ◌<◌, Bool, true, false, cond, eqb, leb, min, List, [], ◌∷◌, ◌++◌, map, length, Option, Some, None}
use Rattle.std.proofs.Common.{refl, sym, ◌∙◌, ap, ap₂, subst, arith, drop, drop-cons, get_or, add-one, length-append}
use Rattle.std.specs.List.{range_with_len}
use Rattle.std.proofs.lemmas.Bool.{eqb-true, eqb-false, leb-true, leb-false}
use Rattle.std.proofs.lemmas.List.{drop_all}
use Rattle.dc_clauses.proofs.Tests.{Passed, passed_none, passed_more}
use Rattle.dc_clauses.specs.declared.step.Step.{Step}
use Rattle.dc_clauses.specs.Steps.{Test, is_true, step, counted, first_failure, AllHold}
use Rattle.dc_clauses.specs.Sides.{paired, joined}

-- ---- steps after steps
pub first_failure-++ : (a b : List Step) → None ≡ first_failure a → first_failure (a ++ b) ≡ first_failure b
first_failure-++ [] b e = refl
first_failure-++ (s ∷ a) b e = by (is_true s.test) e (λ f. first_failure-++ a b f)
  where
    by : (t : Bool) → None ≡ cond t (first_failure a) (Some s) → (None ≡ first_failure a → first_failure (a ++ b) ≡ first_failure b) → cond t (first_failure (a ++ b)) (Some s) ≡ first_failure b
    by true e r = r e
    by false e r = absurd cc

pub first_failure-stops : (a b : List Step) (x : Step) → Some x ≡ first_failure a → Some x ≡ first_failure (a ++ b)
first_failure-stops [] b x e = absurd cc
first_failure-stops (s ∷ a) b x e = by (is_true s.test) e (λ f. first_failure-stops a b x f)
  where
    by : (t : Bool) → Some x ≡ cond t (first_failure a) (Some s) → (Some x ≡ first_failure a → Some x ≡ first_failure (a ++ b)) → Some x ≡ cond t (first_failure (a ++ b)) (Some s)
    by true e r = r e
    by false e r = e

pub counted-++ : (c k : ℕ) (ts us : List Test) → counted c k (ts ++ us) ≡ counted c k ts ++ counted c (k + length ts) us
counted-++ c k [] us = ap (λ i. counted c i us) (let e : k ≡ k + 0 = omega arith in e)
counted-++ c k (t ∷ ts) us = ap (λ ss. step c k t ∷ ss) (counted-++ c (suc k) ts us ∙ ap (λ i. counted c (suc k) ts ++ counted c i us) (let e : suc k + length ts ≡ k + suc (length ts) = omega arith in e))

-- ---- all hold exactly where there is no first that does not
pub all_hold : (ss : List Step) → None ≡ first_failure ss → AllHold ss
all_hold [] e = tt
all_hold (s ∷ ss) e = by s.test refl e (λ f. all_hold ss f)
  where
    by : (t : Test) → s.test ≡ t → None ≡ cond (is_true t) (first_failure ss) (Some s) → (None ≡ first_failure ss → AllHold ss) → (s.test ≡ Some true) × AllHold ss
    by (Some true) q e r = (q, r e)
    by (Some false) q e r = absurd cc
    by None q e r = absurd cc

-- ---- one test
one_passed : (c k : ℕ) (t : Test) (us : List Test) → None ≡ first_failure (counted c k (t ∷ [])) → first_failure (counted c k (t ∷ us)) ≡ first_failure (counted c (suc k) us)
one_passed c k (Some true) us e = refl
one_passed c k (Some false) us e = absurd cc
one_passed c k None us e = absurd cc

one_stops : (c k : ℕ) (t : Test) (us : List Test) (x : Step) → Some x ≡ first_failure (counted c k (t ∷ [])) → Some x ≡ first_failure (counted c k (t ∷ us))
one_stops c k (Some true) us x e = absurd cc
one_stops c k (Some false) us x e = e
one_stops c k None us x e = e

-- a walk over tests, of which the first i were passed
pub test_passed : (c i j : ℕ) (t : Test) (us vs : List Test) (r : Option Step) → us ≡ t ∷ vs → j ≡ i + 1 → None ≡ first_failure (counted c i (t ∷ [])) → first_failure (counted c i us) ≡ r → first_failure (counted c j vs) ≡ r
test_passed c i j t us vs r e q n h =
    ap (λ k. first_failure (counted c k vs)) (let f : j ≡ suc i = omega arith in f) ∙ sym (one_passed c i t vs n) ∙ ap (λ ts. first_failure (counted c i ts)) (sym e) ∙ h

pub test_stops : (c i : ℕ) (t : Test) (us vs : List Test) (x : Step) (r : Option Step) → us ≡ t ∷ vs → Some x ≡ first_failure (counted c i (t ∷ [])) → first_failure (counted c i us) ≡ r → Some x ≡ r
test_stops c i t us vs x r e n h = one_stops c i t vs x n ∙ ap (λ ts. first_failure (counted c i ts)) (sym e) ∙ h

-- and over lists of tests
pub tests_passed : (c i j : ℕ) (ts us vs : List Test) (r : Option Step) → us ≡ ts ++ vs → j ≡ i + length ts → None ≡ first_failure (counted c i ts) → first_failure (counted c i us) ≡ r → first_failure (counted c j vs) ≡ r
tests_passed c i j ts us vs r e q n h =
    ap (λ k. first_failure (counted c k vs)) q ∙ sym (first_failure-++ (counted c i ts) (counted c (i + length ts) vs) n) ∙ ap first_failure (sym (counted-++ c i ts vs))
    ∙ ap (λ xs. first_failure (counted c i xs)) (sym e) ∙ h

pub tests_stop : (c i : ℕ) (ts us vs : List Test) (x : Step) (r : Option Step) → us ≡ ts ++ vs → Some x ≡ first_failure (counted c i ts) → first_failure (counted c i us) ≡ r → Some x ≡ r
tests_stop c i ts us vs x r e n h =
    first_failure-stops (counted c i ts) (counted c (i + length ts) vs) x n ∙ ap first_failure (sym (counted-++ c i ts vs)) ∙ ap (λ xs. first_failure (counted c i xs)) (sym e) ∙ h

-- ---- lists in pairs
module _ {A B C : Type 0} (f : A → B → C) where
  pub paired-drop : (xs : List A) (ys : List B) (k : ℕ) (x : A) (y : B) → k < length xs → k < length ys → x ≡ get_or xs k x → y ≡ get_or ys k y
      → paired f (drop k xs) (drop k ys) ≡ f x y ∷ paired f (drop (k + 1) xs) (drop (k + 1) ys)
  paired-drop xs ys k x y l g e q =
      ap₂ (paired f) (drop-cons xs k x l ∙ ap₂ (λ a i. a ∷ drop i xs) (sym e) (sym (add-one k))) (drop-cons ys k y g ∙ ap₂ (λ a i. a ∷ drop i ys) (sym q) (sym (add-one k)))

  pub paired-left : (xs : List A) (ys : List B) (k : ℕ) → length xs ≤ k → paired f (drop k xs) ys ≡ []
  paired-left xs ys k l = ap (λ zs. paired f zs ys) (drop_all k xs l)

  pub paired-right : (xs : List A) (ys : List B) (k : ℕ) → length ys ≤ k → paired f xs (drop k ys) ≡ []
  paired-right xs ys k l = ap (paired f xs) (drop_all k ys l) ∙ none xs
    where
      none : (xs : List A) → paired f xs [] ≡ []
      none [] = refl
      none (x ∷ xs) = refl

  pub length-paired : (xs : List A) (ys : List B) → length ys ≤ length xs → length (paired f xs ys) ≡ length ys
  length-paired [] [] l = refl
  length-paired [] (y ∷ ys) l = absurd (omega arith)
  length-paired (x ∷ xs) [] l = refl
  length-paired (x ∷ xs) (y ∷ ys) l = ap suc (length-paired xs ys (omega arith))

-- ---- numbered tests
one_of : (c k : ℕ) (f : ℕ → Test) (m : ℕ) → first_failure (counted c k (map f (range_with_len k (suc m)))) ≡ cond (is_true (f k)) (first_failure (counted c (k + 1) (map f (range_with_len (k + 1) m)))) (Some (step c k (f k)))
one_of c k f m = ap (λ i. cond (is_true (f k)) (first_failure (counted c i (map f (range_with_len (k + 1) m)))) (Some (step c k (f k)))) (sym (add-one k))

numbered_from : (c : ℕ) (f : ℕ → Test) (k m : ℕ) → ((j : ℕ) → k ≤ j → j < k + m → f j ≡ Some true) → None ≡ first_failure (counted c k (map f (range_with_len k m)))
numbered_from c f k zero h = refl
numbered_from c f k (suc m) h =
    numbered_from c f (k + 1) m (λ j l g. h j (omega arith) (omega arith))
    ∙ sym (one_of c k f m ∙ ap (λ t. cond (is_true t) (first_failure (counted c (k + 1) (map f (range_with_len (k + 1) m)))) (Some (step c k t))) (h k (omega arith) (omega arith)))

pub numbered_passed : (c n : ℕ) (f : ℕ → Test) → Passed f n → None ≡ first_failure (counted c 0 (map f (range_with_len 0 n)))
numbered_passed c n f p = numbered_from c f 0 n (λ j l g. p.each j (omega arith))

-- the step of one test
failing : (c i : ℕ) (t : Test) (x : Step) (r : Option Step) → Some x ≡ first_failure (counted c i (t ∷ [])) → Some x ≡ cond (is_true t) r (Some (step c i t))
failing c i (Some true) x r e = absurd cc
failing c i (Some false) x r e = e
failing c i None x r e = e

numbered_stops_from : (c : ℕ) (f : ℕ → Test) (k m i : ℕ) (x : Step) → k ≤ i → i < k + m → ((j : ℕ) → k ≤ j → j < i → f j ≡ Some true) → Some x ≡ first_failure (counted c i (f i ∷ []))
    → Some x ≡ first_failure (counted c k (map f (range_with_len k m)))
numbered_stops_from c f k zero i x l g h e = absurd (omega arith)
numbered_stops_from c f k (suc m) i x l g h e = by (eqb k i) refl (λ d. numbered_stops_from c f (k + 1) m i x d (omega arith) (λ j a b. h j (omega arith) b) e) ∙ sym (one_of c k f m)
  where
    by : (b : Bool) → eqb k i ≡ b → (k + 1 ≤ i → Some x ≡ first_failure (counted c (k + 1) (map f (range_with_len (k + 1) m))))
        → Some x ≡ cond (is_true (f k)) (first_failure (counted c (k + 1) (map f (range_with_len (k + 1) m)))) (Some (step c k (f k)))
    by true q r =
        subst (λ z. Some x ≡ cond (is_true (f z)) (first_failure (counted c (k + 1) (map f (range_with_len (k + 1) m)))) (Some (step c z (f z)))) (sym (eqb-true k i q)) (failing c i (f i) x _ e)
    by false q r =
        let d = eqb-false k i q in
        r (omega (arith, d)) ∙ ap (λ t. cond (is_true t) (first_failure (counted c (k + 1) (map f (range_with_len (k + 1) m)))) (Some (step c k t))) (sym (h k (omega arith) (omega (arith, d))))

pub numbered_stops : (c n i : ℕ) (f : ℕ → Test) (t : Test) (x : Step) → Passed f i → i < n → t ≡ f i → Some x ≡ first_failure (counted c i (t ∷ [])) → Some x ≡ first_failure (counted c 0 (map f (range_with_len 0 n)))
numbered_stops c n i f t x p l q e = numbered_stops_from c f 0 n i x (omega arith) (omega arith) (λ j a b. p.each j b) (e ∙ ap (λ u. first_failure (counted c i (u ∷ []))) q)

-- a test that has no step passes
pub no_step : (c i : ℕ) (t : Test) → None ≡ first_failure (counted c i (t ∷ [])) → t ≡ Some true
no_step c i (Some true) e = refl
no_step c i (Some false) e = absurd cc
no_step c i None e = absurd cc

pub numbered_more : (c i : ℕ) (f : ℕ → Test) (t : Test) → Passed f i → t ≡ f i → None ≡ first_failure (counted c i (t ∷ [])) → Passed f (i + 1)
numbered_more c i f t p q e = passed_more f i p (sym (no_step c i t e) ∙ q)

pub ruleset numbering = (passed_none, numbered_more, numbered_stops, numbered_passed)

-- ---- a walk over pairs, from index s on
module _ {A B : Type 0} (f : A → B → Test) (xs : List A) (ys : List B) (c s k : ℕ) (r : Option Step) (h : first_failure (counted c (s + k) (paired f (drop k xs) (drop k ys))) ≡ r) where
  module _ (x : A) (y : B) (t : Test) (l : k < length xs) (g : k < length ys) (e : x ≡ get_or xs k x) (q : y ≡ get_or ys k y) (w : t ≡ f x y) where
    one_pair : paired f (drop k xs) (drop k ys) ≡ t ∷ paired f (drop (k + 1) xs) (drop (k + 1) ys)
    one_pair = paired-drop f xs ys k x y l g e q ∙ ap (λ u. u ∷ paired f (drop (k + 1) xs) (drop (k + 1) ys)) (sym w)

    pub pair_passed : None ≡ first_failure (counted c (s + k) (t ∷ [])) → first_failure (counted c (s + (k + 1)) (paired f (drop (k + 1) xs) (drop (k + 1) ys))) ≡ r
    pair_passed n = test_passed c (s + k) (s + (k + 1)) t (paired f (drop k xs) (drop k ys)) (paired f (drop (k + 1) xs) (drop (k + 1) ys)) r one_pair (omega arith) n h

    pub pair_stops : (z : Step) → Some z ≡ first_failure (counted c (s + k) (t ∷ [])) → Some z ≡ r
    pair_stops z n = test_stops c (s + k) t (paired f (drop k xs) (drop k ys)) (paired f (drop (k + 1) xs) (drop (k + 1) ys)) z r one_pair n h

  pub pairs_end : length xs ≤ k → None ≡ r
  pairs_end l = ap (λ ts. first_failure (counted c (s + k) ts)) (sym (paired-left f xs (drop k ys) k l)) ∙ h

  pub pairs_end_right : length ys ≤ k → None ≡ r
  pairs_end_right l = ap (λ ts. first_failure (counted c (s + k) ts)) (sym (paired-right f (drop k xs) ys k l)) ∙ h

-- ---- a walk over pairs of which each has a list of tests, at index i
module _ {A B : Type 0} (f : A → B → List Test) (xs : List A) (ys : List B) (c i k : ℕ) (r : Option Step) (h : first_failure (counted c i (joined (paired f (drop k xs) (drop k ys)))) ≡ r) where
  module _ (x : A) (y : B) (l : k < length xs) (g : k < length ys) (e : x ≡ get_or xs k x) (q : y ≡ get_or ys k y) where
    one_list : joined (paired f (drop k xs) (drop k ys)) ≡ f x y ++ joined (paired f (drop (k + 1) xs) (drop (k + 1) ys))
    one_list = ap joined (paired-drop f xs ys k x y l g e q)

    pub list_passed : (j : ℕ) → j ≡ i + length (f x y) → None ≡ first_failure (counted c i (f x y)) → first_failure (counted c j (joined (paired f (drop (k + 1) xs) (drop (k + 1) ys)))) ≡ r
    list_passed j p n = tests_passed c i j (f x y) (joined (paired f (drop k xs) (drop k ys))) (joined (paired f (drop (k + 1) xs) (drop (k + 1) ys))) r one_list p n h

    pub list_stops : (z : Step) → Some z ≡ first_failure (counted c i (f x y)) → Some z ≡ r
    list_stops z n = tests_stop c i (f x y) (joined (paired f (drop k xs) (drop k ys))) (joined (paired f (drop (k + 1) xs) (drop (k + 1) ys))) z r one_list n h

  pub lists_end : length xs ≤ k → None ≡ r
  lists_end l = ap (λ tss. first_failure (counted c i (joined tss))) (sym (paired-left f xs (drop k ys) k l)) ∙ h

-- ---- where such a walk stands before pair k: the index is `next`, and each pair had at most 1,024 tests
pub record Walking {A B : Type 0} (f : A → B → List Test) (xs : List A) (ys : List B) (c start k next : ℕ) : Type 0 where
  pub so_far : first_failure (counted c next (joined (paired f (drop k xs) (drop k ys)))) ≡ first_failure (counted c start (joined (paired f xs ys)))
  pub counts : next + length (joined (paired f (drop k xs) (drop k ys))) ≡ start + length (joined (paired f xs ys))
  pub few : next ≤ start + k * 1024

module _ {A B : Type 0} (f : A → B → List Test) (xs : List A) (ys : List B) (c start k next : ℕ) where
  pub walk_starts : Walking f xs ys c start 0 start
  walk_starts = record { so_far = refl; counts = refl; few = omega arith }

  module _ (w : Walking f xs ys c start k next) where
    module _ (x : A) (y : B) (l : k < length xs) (g : k < length ys) (e : x ≡ get_or xs k x) (q : y ≡ get_or ys k y) where
      pub walk_more : (n : ℕ) → n ≡ length (f x y) → n ≤ 1024 → None ≡ first_failure (counted c next (f x y)) → Walking f xs ys c start (k + 1) (next + n)
      walk_more n p m h = record {
        so_far = list_passed f xs ys c next k (first_failure (counted c start (joined (paired f xs ys)))) w.so_far x y l g e q (next + n) (ap (λ i. next + i) p) h;
        counts = (let a = ap length (one_list f xs ys c next k (first_failure (counted c start (joined (paired f xs ys)))) w.so_far x y l g e q) in let b = length-append (f x y) (joined (paired f (drop (k + 1) xs) (drop (k + 1) ys))) in let d = w.counts in omega arith);
        few = (let d = w.few in omega arith);
      }

      pub walk_stops : (z : Step) → Some z ≡ first_failure (counted c next (f x y)) → first_failure (counted c start (joined (paired f xs ys))) ≡ Some z
      walk_stops z h = sym (list_stops f xs ys c next k (first_failure (counted c start (joined (paired f xs ys)))) w.so_far x y l g e q z h)

    ended : (joined (paired f (drop k xs) (drop k ys)) ≡ []) → (first_failure (counted c start (joined (paired f xs ys))) ≡ None) × (next ≡ start + length (joined (paired f xs ys)))
    ended e = (sym w.so_far ∙ ap (λ ts. first_failure (counted c next ts)) e, (let a = ap length e in let d = w.counts in omega arith))

    pub walk_ends : length xs ≤ k → (first_failure (counted c start (joined (paired f xs ys))) ≡ None) × (next ≡ start + length (joined (paired f xs ys)))
    walk_ends l = ended (ap joined (paired-left f xs (drop k ys) k l))

    pub walk_ends_right : length ys ≤ k → (first_failure (counted c start (joined (paired f xs ys))) ≡ None) × (next ≡ start + length (joined (paired f xs ys)))
    walk_ends_right l = ended (ap joined (paired-right f (drop k xs) ys k l))

    pub walk_ends_least : min (length xs) (length ys) ≤ k → (first_failure (counted c start (joined (paired f xs ys))) ≡ None) × (next ≡ start + length (joined (paired f xs ys)))
    walk_ends_least l = by (leb (length xs) k) refl
      where
        by : (b : Bool) → leb (length xs) k ≡ b → (first_failure (counted c start (joined (paired f xs ys))) ≡ None) × (next ≡ start + length (joined (paired f xs ys)))
        by true e = walk_ends (leb-true (length xs) k e)
        by false e = walk_ends_right (let d = leb-false (length xs) k e in omega arith)

-- ---- tests after tests
pub joined_passed : (c k i : ℕ) (a b : List Test) (r : Option Step) → None ≡ first_failure (counted c k a) → i ≡ k + length a → r ≡ first_failure (counted c i b) → r ≡ first_failure (counted c k (a ++ b))
joined_passed c k i a b r n e h =
    h ∙ ap (λ j. first_failure (counted c j b)) e ∙ sym (first_failure-++ (counted c k a) (counted c (k + length a) b) n) ∙ ap first_failure (sym (counted-++ c k a b))

pub joined_stops : (c k : ℕ) (a b : List Test) (x : Step) → Some x ≡ first_failure (counted c k a) → Some x ≡ first_failure (counted c k (a ++ b))
joined_stops c k a b x h = first_failure-stops (counted c k a) (counted c (k + length a) b) x h ∙ ap first_failure (sym (counted-++ c k a b))
