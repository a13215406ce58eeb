-- Tests in order.
use Rattle.std.specs.Prelude.{◌≡◌, ℕ, zero, suc, ◌+◌, ◌≤◌, ◌<◌, ◌&&◌, Bool, true, false, eqb, cond, List, [], ◌∷◌, ◌++◌, map, Some, None, IsFalse, IsTrue}
use Rattle.std.specs.List.{range_with_len, list_all}
use Rattle.std.proofs.Common.{refl, sym, ◌∙◌, ap, arith}
use Rattle.std.proofs.lemmas.Bool.{eqb-true, eqb-false}
use Rattle.dc_clauses.specs.Steps.{Test, is_true, all_of}

-- ---- parts in order
pub all_of-++ : (ts us : List Test) → all_of ts ≡ Some true → all_of (ts ++ us) ≡ all_of us
all_of-++ [] us e = refl
all_of-++ (t ∷ ts) us e = by t e (λ f. all_of-++ ts us f)
  where
    by : (t : Test) → cond (is_true t) (all_of ts) t ≡ Some true → (all_of ts ≡ Some true → all_of (ts ++ us) ≡ all_of us) → cond (is_true t) (all_of (ts ++ us)) t ≡ all_of us
    by (Some true) e r = r e
    by (Some false) e r = absurd cc
    by None e r = absurd cc

pub all_of-stops : (ts us : List Test) (t : Test) → all_of ts ≡ t → IsFalse (is_true t) → all_of (ts ++ us) ≡ t
all_of-stops [] us t e h = absurd (let f : IsTrue (is_true t) = ap is_true (sym e) in cc)
all_of-stops (s ∷ ts) us t e h = by s e (λ f. all_of-stops ts us t f h)
  where
    by : (s : Test) → cond (is_true s) (all_of ts) s ≡ t → (all_of ts ≡ t → all_of (ts ++ us) ≡ t) → cond (is_true s) (all_of (ts ++ us)) s ≡ t
    by (Some true) e r = r e
    by (Some false) e r = e
    by None e r = e

-- one part after others
pub after_passed : (ts us : List Test) (t : Test) → all_of ts ≡ Some true → t ≡ all_of us → t ≡ all_of (ts ++ us)
after_passed ts us t e h = h ∙ sym (all_of-++ ts us e)

pub at_stop : (ts us : List Test) (t : Test) → t ≡ all_of ts → IsFalse (is_true t) → t ≡ all_of (ts ++ us)
at_stop ts us t e h = sym (all_of-stops ts us t (sym e) h)

pub all_of-one : (t : Test) → all_of (t ∷ []) ≡ t
all_of-one (Some true) = refl
all_of-one (Some false) = refl
all_of-one None = refl

-- ---- tests that are never None
pub all_true : {A : Type 0} (p : A → Bool) (xs : List A) → list_all p xs ≡ true → all_of (map (λ x. Some (p x)) xs) ≡ Some true
all_true p [] e = refl
all_true p (x ∷ xs) e = by (p x) e (λ f. all_true p xs f)
  where
    by : (b : Bool) → (b && list_all p xs) ≡ true → (list_all p xs ≡ true → all_of (map (λ x. Some (p x)) xs) ≡ Some true) → cond (is_true (Some b)) (all_of (map (λ x. Some (p x)) xs)) (Some b) ≡ Some true
    by true e r = r e
    by false e r = absurd cc

pub some_false : {A : Type 0} (p : A → Bool) (xs : List A) → list_all p xs ≡ false → all_of (map (λ x. Some (p x)) xs) ≡ Some false
some_false p [] e = absurd cc
some_false p (x ∷ xs) e = by (p x) e (λ f. some_false p xs f)
  where
    by : (b : Bool) → (b && list_all p xs) ≡ false → (list_all p xs ≡ false → all_of (map (λ x. Some (p x)) xs) ≡ Some false) → cond (is_true (Some b)) (all_of (map (λ x. Some (p x)) xs)) (Some b) ≡ Some false
    by true e r = r e
    by false e r = refl

-- ---- numbered tests
pub record Passed (f : ℕ → Test) (n : ℕ) : Type 0 where
  pub each : (k : ℕ) → k < n → f k ≡ Some true

pub passed_none : (f : ℕ → Test) → Passed f 0
passed_none f = record { each = λ k l. absurd (omega arith) }

pub passed_more : (f : ℕ → Test) (n : ℕ) → Passed f n → Some true ≡ f n → Passed f (n + 1)
passed_more f n p e = record { each = λ k l. by k l (eqb k n) refl }
  where
    by : (k : ℕ) → k < n + 1 → (b : Bool) → eqb k n ≡ b → f k ≡ Some true
    by k l true q = ap f (eqb-true k n q) ∙ sym e
    by k l false q = p.each k (let d = eqb-false k n q in omega (arith, d))

passed_from : (f : ℕ → Test) (k m : ℕ) → ((j : ℕ) → k ≤ j → j < k + m → f j ≡ Some true) → all_of (map f (range_with_len k m)) ≡ Some true
passed_from f k zero h = refl
passed_from f k (suc m) h = ap (λ t. cond (is_true t) (all_of (map f (range_with_len (k + 1) m))) t) (h k (omega arith) (omega arith)) ∙ passed_from f (k + 1) m (λ j l g. h j (omega arith) (omega arith))

pub passed_all : (f : ℕ → Test) (n : ℕ) → Passed f n → all_of (map f (range_with_len 0 n)) ≡ Some true
passed_all f n p = passed_from f 0 n (λ j l g. p.each j (omega arith))

stops_from : (f : ℕ → Test) (k m i : ℕ) (t : Test) → k ≤ i → i < k + m → ((j : ℕ) → k ≤ j → j < i → f j ≡ Some true) → f i ≡ t → IsFalse (is_true t) → all_of (map f (range_with_len k m)) ≡ t
stops_from f k zero i t l g h e n = absurd (omega arith)
stops_from f k (suc m) i t l g h e n = by (eqb k i) refl (λ d. stops_from f (k + 1) m i t d (omega arith) (λ j a b. h j (omega arith) b) e n)
  where
    here : (s : Test) → s ≡ t → cond (is_true s) (all_of (map f (range_with_len (k + 1) m))) s ≡ t
    here (Some true) q = absurd (let y : IsTrue (is_true t) = ap is_true (sym q) in cc)
    here (Some false) q = q
    here None q = q

    by : (b : Bool) → eqb k i ≡ b → (k + 1 ≤ i → all_of (map f (range_with_len (k + 1) m)) ≡ t) → cond (is_true (f k)) (all_of (map f (range_with_len (k + 1) m))) (f k) ≡ t
    by true q r = here (f k) (ap f (eqb-true k i q) ∙ e)
    by false q r =
        let d = eqb-false k i q in
        ap (λ s. cond (is_true s) (all_of (map f (range_with_len (k + 1) m))) s) (h k (omega arith) (omega (arith, d))) ∙ r (omega (arith, d))

pub passed_stop : (f : ℕ → Test) (n i : ℕ) (t : Test) → Passed f i → i < n → t ≡ f i → IsFalse (is_true t) → t ≡ all_of (map f (range_with_len 0 n))
passed_stop f n i t p l e h = sym (stops_from f 0 n i t (omega arith) (omega arith) (λ j a b. p.each j b) (sym e) h)

-- ---- a line's parts: the signs, parts in between, numbered ones, and a last
module _ (signs more : List Test) (f : ℕ → Test) (n : ℕ) (last : Test) where
  abbrev pub whole_line : List Test
  whole_line = signs ++ (more ++ (map f (range_with_len 0 n) ++ last ∷ []))

  pub line_sign : all_of signs ≡ Some false → Some false ≡ all_of whole_line
  line_sign e = at_stop signs (more ++ (map f (range_with_len 0 n) ++ last ∷ [])) (Some false) (sym e) refl

  pub line_more : all_of signs ≡ Some true → all_of more ≡ Some false → Some false ≡ all_of whole_line
  line_more e h = after_passed signs (more ++ (map f (range_with_len 0 n) ++ last ∷ [])) (Some false) e (at_stop more (map f (range_with_len 0 n) ++ last ∷ []) (Some false) (sym h) refl)

  pub line_numbered : (t : Test) → all_of signs ≡ Some true → all_of more ≡ Some true → t ≡ all_of (map f (range_with_len 0 n)) → IsFalse (is_true t) → t ≡ all_of whole_line
  line_numbered t e h g i =
      after_passed signs (more ++ (map f (range_with_len 0 n) ++ last ∷ [])) t e
      (after_passed more (map f (range_with_len 0 n) ++ last ∷ []) t h (at_stop (map f (range_with_len 0 n)) (last ∷ []) t g i))

  pub line_last : (t u : Test) → all_of signs ≡ Some true → all_of more ≡ Some true → t ≡ all_of (map f (range_with_len 0 n)) → is_true t ≡ true → u ≡ last → u ≡ all_of whole_line
  line_last t u e h g i q =
      after_passed signs (more ++ (map f (range_with_len 0 n) ++ last ∷ [])) u e
      (after_passed more (map f (range_with_len 0 n) ++ last ∷ []) u h
      (after_passed (map f (range_with_len 0 n)) (last ∷ []) u (sym g ∙ is_some t i) (q ∙ sym (all_of-one last))))
    where
      is_some : (t : Test) → is_true t ≡ true → t ≡ Some true
      is_some (Some true) e = refl
      is_some (Some false) e = absurd cc
      is_some None e = absurd cc
