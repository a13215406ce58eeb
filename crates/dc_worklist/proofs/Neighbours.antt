-- Neighbours by a test, when one number more, or the least no more, passes it.
use Rattle.std.proofs.Common.{◌≡◌, ◌≢◌, ℕ, suc, ◌<◌, ◌≤◌, inl, inr, Bool, true, false, Option, Some, None, sym, ◌∙◌, arith}
use Rattle.std.proofs.lemmas.Bool.{cases_lt, cases_eq, both_ways}
use Rattle.dc_worklist.specs.Links.{IsNext, IsLast, behind}

-- ---- one number more
module _ (T U : ℕ → Bool) (e : ℕ) (at : U e ≡ true) (other : (i : ℕ) → i ≢ e → U i ≡ T i) where
  stays : (i : ℕ) → T i ≡ true → U i ≡ true
  stays i h = elim (cases_eq i e) [ inl s ↦ let f : U i ≡ U e = cc in f ∙ at | inr n ↦ other i n ∙ h ]

  -- nothing changes where the new number isn't in between
  pub next_kept : (k : ℕ) (o : Option ℕ) → e < k → IsNext T k o → IsNext U k o
  next_kept k None l h = λ i a. let n : i ≢ e = omega arith in other i n ∙ h i a
  next_kept k (Some j) l h = (h.0, stays j h.1, λ i a b. let n : i ≢ e = omega arith in other i n ∙ h.2 i a b)

  pub next_before : (k j : ℕ) → j < e → IsNext T k (Some j) → IsNext U k (Some j)
  next_before k j l h = (h.0, stays j h.1, λ i a b. let n : i ≢ e = omega arith in other i n ∙ h.2 i a b)

  pub last_kept : (k : ℕ) (o : Option ℕ) → k ≤ e → IsLast T k o → IsLast U k o
  last_kept k None l h = λ i a. let n : i ≢ e = omega arith in other i n ∙ h i a
  last_kept k (Some j) l h = (h.0, stays j h.1, λ i a b. let n : i ≢ e = omega arith in other i n ∙ h.2 i a b)

  pub last_behind : (k j : ℕ) → e < j → IsLast T k (Some j) → IsLast U k (Some j)
  last_behind k j l h = (h.0, stays j h.1, λ i a b. let n : i ≢ e = omega arith in other i n ∙ h.2 i a b)

  -- the neighbours of the new number
  pub next_new : (o : Option ℕ) → IsLast T e o → IsNext U (behind o) (Some e)
  next_new None h = (omega arith, at, λ i a b. let n : i ≢ e = omega arith in other i n ∙ h i b)
  next_new (Some j) h = let l = h.0 in (omega arith, at, λ i a b. let n : i ≢ e = omega arith in other i n ∙ h.2 i (omega arith) b)

  pub last_new : (b : Option ℕ) (a : ℕ) → IsLast T e b → T e ≡ false → IsNext T (behind b) (Some a) → e < a → IsLast U a (Some e)
  last_new b a h f m l = (l, at, λ i c d. let n : i ≢ e = omega arith in other i n ∙ m.2 i (low b h i c) d)
    where
      low : (b : Option ℕ) → IsLast T e b → (i : ℕ) → e < i → behind b ≤ i
      low None h i c = omega arith
      low (Some j) h i c = let l = h.0 in omega arith

  -- from the one before the new number to the one behind it
  pub next_on : (b : Option ℕ) (o : Option ℕ) → IsLast T e b → T e ≡ false → IsNext T (behind b) o → IsNext U (suc e) o
  next_on b None h f m = λ i a. let n : i ≢ e = omega arith in other i n ∙ m i (low b h i a)
    where
      low : (b : Option ℕ) → IsLast T e b → (i : ℕ) → suc e ≤ i → behind b ≤ i
      low None h i c = omega arith
      low (Some j) h i c = let l = h.0 in omega arith
  next_on b (Some a) h f m = (above b h m, stays a m.1, λ i c d. let n : i ≢ e = omega arith in other i n ∙ m.2 i (low b h i c) d)
    where
      low : (b : Option ℕ) → IsLast T e b → (i : ℕ) → suc e ≤ i → behind b ≤ i
      low None h i c = omega arith
      low (Some j) h i c = let l = h.0 in omega arith

      above : (b : Option ℕ) → IsLast T e b → IsNext T (behind b) (Some a) → suc e ≤ a
      above None h m = elim (cases_lt a e) [
        | inl l ↦ absurd (both_ways (T a) (h a l) m.1)
        | inr l ↦ elim (cases_eq a e) [ inl s ↦ let t : T a ≡ false = cc in absurd (both_ways (T a) t m.1) | inr n ↦ omega arith ]
      ]
      above (Some j) h m = let x = m.0 in elim (cases_lt a e) [
        | inl l ↦ absurd (both_ways (T a) (h.2 a (omega arith) l) m.1)
        | inr l ↦ elim (cases_eq a e) [ inl s ↦ let t : T a ≡ false = cc in absurd (both_ways (T a) t m.1) | inr n ↦ omega arith ]
      ]

  -- a number before the new one that isn't its neighbour has a follower before it
  pub next_other : (k : ℕ) (o b : Option ℕ) → T k ≡ true → k ≢ e → IsLast T e b → Some k ≢ b → IsNext T (suc k) o → IsNext U (suc k) o
  next_other k o b t n h d m = elim (cases_lt e (suc k)) [ inl l ↦ next_kept (suc k) o l m | inr l ↦ by b h d l ]
    where
      by : (b : Option ℕ) → IsLast T e b → Some k ≢ b → suc k ≤ e → IsNext U (suc k) o
      by None h d z = absurd (both_ways (T k) (h k (omega arith)) t)
      by (Some j) h d z = elim (cases_lt k j) [
        | inl l ↦ at_most o m j l h
        | inr l ↦ elim (cases_eq j k) [ inl s ↦ absurd (d (cc)) | inr x ↦ absurd (both_ways (T k) (h.2 k (omega arith) (omega arith)) t) ]
      ]
        where
          at_most : (o : Option ℕ) → IsNext T (suc k) o → (j : ℕ) → k < j → IsLast T e (Some j) → IsNext U (suc k) o
          at_most None m j l h = absurd (both_ways (T j) (m j (omega arith)) h.1)
          at_most (Some a) m j l h = let x = h.0 in elim (cases_lt j a) [
            | inl y ↦ absurd (both_ways (T j) (m.2 j (omega arith) y) h.1)
            | inr y ↦ next_before (suc k) a (omega arith) m
          ]

  -- the same from the start
  pub next_first : (o : Option ℕ) (j : ℕ) → IsLast T e (Some j) → IsNext T 0 o → IsNext U 0 o
  next_first None j h m = absurd (both_ways (T j) (m j (omega arith)) h.1)
  next_first (Some a) j h m = let x = h.0 in elim (cases_lt j a) [
    | inl y ↦ absurd (both_ways (T j) (m.2 j (omega arith) y) h.1)
    | inr y ↦ next_before 0 a (omega arith) m
  ]

  -- and a number behind the new one that isn't its neighbour has one before it that is behind the new one
  pub last_other : (k : ℕ) (o a : Option ℕ) → T k ≡ true → k ≢ e → IsNext U (suc e) a → Some k ≢ a → IsLast T k o → IsLast U k o
  last_other k o a t n h d m = elim (cases_lt k e) [ inl l ↦ last_kept k o (omega arith) m | inr l ↦ by a h d (omega arith) ]
    where
      by : (a : Option ℕ) → IsNext U (suc e) a → Some k ≢ a → e < k → IsLast U k o
      by None h d l = absurd (both_ways (U k) (h k (omega arith)) (stays k t))
      by (Some j) h d l = elim (cases_lt j k) [
        | inl x ↦ at_least o m j x h
        | inr x ↦ elim (cases_eq j k) [ inl s ↦ absurd (d (cc)) | inr y ↦ absurd (both_ways (U k) (h.2 k (omega arith) (omega arith)) (stays k t)) ]
      ]
        where
          at_least : (o : Option ℕ) → IsLast T k o → (j : ℕ) → j < k → IsNext U (suc e) (Some j) → IsLast U k o
          at_least None m j x h = let y = h.0 in let n : j ≢ e = omega arith in absurd (both_ways (T j) (m j x) (sym (other j n) ∙ h.1))
          at_least (Some b) m j x h = let y = h.0 in let n : j ≢ e = omega arith in elim (cases_lt b j) [
            | inl z ↦ absurd (both_ways (T j) (m.2 j z x) (sym (other j n) ∙ h.1))
            | inr z ↦ last_behind k b (omega arith) m
          ]

-- ---- the least number no more
module _ (T U : ℕ → Bool) (f : ℕ) (least : IsNext T 0 (Some f)) (at : U f ≡ false) (other : (i : ℕ) → i ≢ f → U i ≡ T i) where
  below : (i : ℕ) → i ≤ f → U i ≡ false
  below i l = elim (cases_eq i f) [ inl s ↦ let e : U i ≡ U f = cc in e ∙ at | inr n ↦ other i n ∙ least.2 i (omega arith) (omega arith) ]

  pub next_past : (k : ℕ) (o : Option ℕ) → f < k → IsNext T k o → IsNext U k o
  next_past k None l h = λ i a. let n : i ≢ f = omega arith in other i n ∙ h i a
  next_past k (Some j) l h = let x = h.0 in let m : j ≢ f = omega arith in (h.0, other j m ∙ h.1, λ i a b. let n : i ≢ f = omega arith in other i n ∙ h.2 i a b)

  -- the one behind the least is now the least
  pub next_least : (o : Option ℕ) → IsNext T (suc f) o → IsNext U 0 o
  next_least None h = λ i a. elim (cases_lt f i) [ inl l ↦ let n : i ≢ f = omega arith in other i n ∙ h i (omega arith) | inr l ↦ below i l ]
  next_least (Some j) h = let x = h.0 in let m : j ≢ f = omega arith in (
    omega arith,
    other j m ∙ h.1,
    λ i a b. elim (cases_lt f i) [ inl l ↦ let n : i ≢ f = omega arith in other i n ∙ h.2 i (omega arith) b | inr l ↦ below i l ],
  )

  pub past_least : (k : ℕ) → T k ≡ true → k ≢ f → f < k
  past_least k t n = elim (cases_lt f k) [ inl l ↦ l | inr l ↦ absurd (both_ways (T k) (least.2 k (omega arith) (omega arith)) t) ]

  -- nothing stands before it
  pub last_least : (j : ℕ) → IsNext T (suc f) (Some j) → IsLast U j None
  last_least j h i l = elim (cases_lt f i) [ inl x ↦ let n : i ≢ f = omega arith in other i n ∙ h.2 i (omega arith) l | inr x ↦ below i x ]

  pub last_past : (k : ℕ) (o a : Option ℕ) → T k ≡ true → k ≢ f → IsNext T (suc f) a → Some k ≢ a → IsLast T k o → IsLast U k o
  last_past k o a t n h d m = by o m
    where
      by : (o : Option ℕ) → IsLast T k o → IsLast U k o
      by None m = absurd (both_ways (T f) (m f (past_least k t n)) least.1)
      by (Some j) m = elim (cases_lt f j) [
        | inl l ↦ let x : j ≢ f = omega arith in (m.0, other j x ∙ m.1, λ i p q. let y : i ≢ f = omega arith in other i y ∙ m.2 i p q)
        | inr l ↦ between a h d l
      ]
        where
          -- the least alone is before k, so k is the one behind it
          between : (a : Option ℕ) → IsNext T (suc f) a → Some k ≢ a → j ≤ f → IsLast U k (Some j)
          between None h d l = absurd (both_ways (T k) (h k (past_least k t n)) t)
          between (Some b) h d l = let x = h.0 in elim (cases_lt b k) [
            | inl z ↦ absurd (both_ways (T b) (m.2 b (omega arith) z) h.1)
            | inr z ↦ elim (cases_eq b k) [ inl s ↦ absurd (d (cc)) | inr y ↦ absurd (both_ways (T k) (h.2 k (past_least k t n) (omega arith)) t) ]
          ]
