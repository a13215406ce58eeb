-- Problems that are asked row by row.
use Rattle.std.specs.Prelude.{◌≡◌, ℕ, zero, suc, ◌+◌, ◌-◌, ◌<◌, Bool, true, false, cond, if◌then◌else◌, ◌&&◌, List, [], ◌∷◌, ◌++◌, map, filter, flat_map}
use Rattle.std.specs.List.{range_with_len}
use Rattle.std.proofs.Common.{refl, sym, ◌∙◌, ap, subst, inl, inr, arith, append_assoc, append-nil}
use Rattle.std.proofs.lemmas.Grind.{flat_map-append}
use Rattle.dc_entail.specs.Asked.{Asked, AllDone, Refuses}
use Rattle.dc_entail.specs.declared.answer.Site.{Site}
use Rattle.dc_simplex.specs.Limits.{Answer}
use Rattle.dc_entail.proofs.Refusals.{refusals_join}
use Rattle.dc_greatest.specs.declared.family.InvFault.{InvFault}
use Rattle.dc_greatest.specs.Answers.{IsFault}
use Rattle.dc_greatest.proofs.Faults.{fault_from}
use Rattle.dc_greatest.proofs.Unchanged.{both_done}

-- ---- filtered lists as joined ones
abbrev pub one_if : {A B : Type 0} → (A → Bool) → (A → B) → A → List B
one_if p f x = if p x then f x ∷ [] else []

map_filter : {A B : Type 0} (p : A → Bool) (f : A → B) (xs : List A) → map f (filter p xs) ≡ flat_map (one_if p f) xs
map_filter p f [] = refl
map_filter p f (x ∷ xs) = by (p x) (map_filter p f xs)
  where
    by : (b : Bool) → map f (filter p xs) ≡ flat_map (one_if p f) xs → map f (cond b (x ∷ filter p xs) (filter p xs)) ≡ cond b (f x ∷ []) [] ++ flat_map (one_if p f) xs
    by true e = ap (λ ys. f x ∷ ys) e
    by false e = e

filter_twice : {A : Type 0} (p q : A → Bool) (xs : List A) → filter q (filter p xs) ≡ filter (λ x. p x && q x) xs
filter_twice p q [] = refl
filter_twice p q (x ∷ xs) = by (p x) (q x) (filter_twice p q xs)
  where
    by : (b d : Bool) → filter q (filter p xs) ≡ filter (λ x. p x && q x) xs → filter q (cond b (x ∷ filter p xs) (filter p xs)) ≡ cond (b && q x) (x ∷ filter (λ x. p x && q x) xs) (filter (λ x. p x && q x) xs)
    by true d e = inner (q x) e
      where
        inner : (d : Bool) → filter q (filter p xs) ≡ filter (λ x. p x && q x) xs → cond d (x ∷ filter q (filter p xs)) (filter q (filter p xs)) ≡ cond d (x ∷ filter (λ x. p x && q x) xs) (filter (λ x. p x && q x) xs)
        inner true e = ap (λ ys. x ∷ ys) e
        inner false e = e
    by false d e = e

pub map_filter_twice : {A B : Type 0} (p q : A → Bool) (f : A → B) (xs : List A) → map f (filter q (filter p xs)) ≡ flat_map (one_if (λ x. p x && q x) f) xs
map_filter_twice p q f xs = ap (map f) (filter_twice p q xs) ∙ map_filter (λ x. p x && q x) f xs

pub map_filter_once : {A B : Type 0} (p : A → Bool) (f : A → B) (xs : List A) → map f (filter p xs) ≡ flat_map (one_if p f) xs
map_filter_once p f xs = map_filter p f xs

-- ---- the first rows
range_join : (a n m : ℕ) → range_with_len a (n + m) ≡ range_with_len a n ++ range_with_len (a + n) m
range_join a zero m = let e : a ≡ a + 0 = omega arith in let z : 0 + m ≡ m = omega arith in ap (range_with_len a) z ∙ ap (λ b. range_with_len b m) e
range_join a (suc n) m =
    let z : suc n + m ≡ suc (n + m) = omega arith in
    let e : a + 1 + n ≡ a + suc n = omega arith in
    ap (range_with_len a) z ∙ ap (λ xs. a ∷ xs) (range_join (a + 1) n m ∙ ap (λ b. range_with_len (a + 1) n ++ range_with_len b m) e)

module _ (g : ℕ → List Asked) where
  abbrev pub first_asked : ℕ → List Asked
  first_asked n = flat_map g (range_with_len 0 n)

  first_split : (n k : ℕ) → k < n → first_asked n ≡ first_asked k ++ (g k ++ flat_map g (range_with_len (k + 1) (n - k - 1)))
  first_split n k h =
      let z : n ≡ k + suc (n - k - 1) = omega arith in
      let e : 0 + k ≡ k = omega arith in
      ap first_asked z ∙ ap (flat_map g) (range_join 0 k (suc (n - k - 1)) ∙ ap (λ b. range_with_len 0 k ++ range_with_len b (suc (n - k - 1))) e)
      ∙ flat_map-append g (range_with_len 0 k) (range_with_len k (suc (n - k - 1)))

  first_next : (k : ℕ) → first_asked (suc k) ≡ first_asked k ++ g k
  first_next k =
      let z : suc k - k - 1 ≡ 0 = omega arith in
      first_split (suc k) k (omega arith) ∙ ap (λ m. first_asked k ++ (g k ++ flat_map g (range_with_len (k + 1) m))) z ∙ ap (λ xs. first_asked k ++ xs) (append-nil (g k))

  pub first_done : (budget k : ℕ) → AllDone budget (first_asked k) → AllDone budget (g k) → AllDone budget (first_asked (suc k))
  first_done budget k d e = subst (AllDone budget) (sym (first_next k)) (both_done budget (first_asked k) (g k) d e)

  pub first_refused : (budget n k : ℕ) (site : Site) (a : Answer) → k < n → AllDone budget (first_asked k) → Refuses budget (g k) site a → Refuses budget (first_asked n) site a
  first_refused budget n k site a h d r =
      let rest = flat_map g (range_with_len (k + 1) (n - k - 1)) in
      subst (λ xs. Refuses budget xs site a) (sym (first_split n k h))
      ((refusals_join budget (first_asked k) (g k ++ rest) site a).1 (inr (d, (refusals_join budget (g k) rest site a).1 (inl r))))

  -- of a list that is asked for so many rows
  pub all_done : (budget n k : ℕ) (whole : List Asked) → whole ≡ first_asked n → k ≡ n → AllDone budget (first_asked k) → AllDone budget whole
  all_done budget n k whole e s d = subst (AllDone budget) (sym e) (subst (λ j. AllDone budget (first_asked j)) s d)

  pub all_refused : (budget n k : ℕ) (whole : List Asked) → whole ≡ first_asked n → k < n → AllDone budget (first_asked k) → (f : InvFault) → IsFault budget (λ asked. asked ≡ g k) f → IsFault budget (λ asked. asked ≡ whole) f
  all_refused budget n k whole e h d = fault_from budget _ _ (λ asked q p a r. (whole, refl, subst (λ xs. Refuses budget xs p a) (sym e) (first_refused budget n k p a h d (subst (λ xs. Refuses budget xs p a) q r))))
