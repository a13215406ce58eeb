-- A walk along monomials in graded order and the terms of a polynomial that has no others.
use Rattle.std.specs.Prelude.{◌≡◌, ◌⊎◌, ℕ, zero, suc, ◌+◌, ◌<◌, ◌≤◌, Bool, true, false, cond, List, [], ◌∷◌, ◌++◌, map, length, take, drop, slice_index_or, ℤ, pos, negsuc, ◌+ℤ◌}
use Rattle.std.specs.List.{AllByRecursion}
use Rattle.std.proofs.Common.{refl, sym, ◌∙◌, ap, subst, arith, inl, inr}
use Rattle.std.proofs.lemmas.Int.{ints}
use Rattle.std.proofs.lemmas.List.{append_assoc, append-nil, get_or_default, length-map, length-take-le, map_push}
use Rattle.dc_math.specs.Members.{Among, head, tail, each_among, among_cons}
use Rattle.dc_math.specs.OrderedLists.{Ordered}
use Rattle.dc_lp.specs.declared.Entry.{Entry}
use Rattle.dc_poly.specs.declared.monomial.Term.{Term}
use Rattle.dc_poly.specs.Terms.{Exponents, TermList, Before, Ahead, Canonical, same_mono, coef}
use Rattle.dc_poly.proofs.Graded.{Before-not, Ahead-more}
use Rattle.dc_poly.proofs.Canon.{same_mono_refl, same_mono_is, coef_ahead}
use Rattle.dc_coefficients.specs.Entries.{entry, entry_at, entries_from}
use Rattle.dc_coefficients.proofs.Rows.{entries_from-++}
use Rattle.dc_coefficients.proofs.Lists.{take_there, drop_there}

-- the terms p are left for the monomials ms: they have no others, and the coefficients of the whole at these
pub record IsLeft (f : TermList) (ms : List Exponents) (p : TermList) : Type 0 where
  pub in_order : Ordered Before ms
  pub canonical : Canonical p
  pub listed : AllByRecursion (λ (t : Term). Among t.mono ms) p
  pub same : (m : Exponents) → Among m ms → coef f m ≡ coef p m

-- ---- coefficients
pub coef-head : (t : Term) (p : TermList) (m : Exponents) → t.mono ≡ m → Ahead t.mono p → coef (t ∷ p) m ≡ t.coef
coef-head t p m e h = rw (subst (λ k. same_mono t.mono k ≡ true) e (same_mono_refl t.mono)) (let z = subst (λ k. coef p k ≡ pos 0) e (coef_ahead t.mono p h) in omega (arith, ints))

pub coef-other : (t : Term) (p : TermList) (m : Exponents) → ¬ (t.mono ≡ m) → coef (t ∷ p) m ≡ coef p m
coef-other t p m h = by (same_mono t.mono m) refl
  where
    by : (b : Bool) → same_mono t.mono m ≡ b → cond b t.coef (pos 0) +ℤ coef p m ≡ coef p m
    by true q = absurd (h (same_mono_is t.mono m q))
    by false q = omega (arith, ints)

-- ---- the terms behind a monomial stand among those behind it
narrowed : (m : Exponents) (ms : List Exponents) (p : TermList) → Ahead m p → AllByRecursion (λ (t : Term). Among t.mono (m ∷ ms)) p → AllByRecursion (λ (t : Term). Among t.mono ms) p
narrowed m ms [] a h = tt
narrowed m ms (t ∷ p) a h = elim (among_cons h.0) [
  | inl e ↦ absurd (Before-not m (subst (λ k. Before m k) e a.0))
  | inr i ↦ (i, narrowed m ms p a.1 h.1)
]

not_later : (m k : Exponents) (ms : List Exponents) → AllByRecursion (Before m) ms → Among k ms → ¬ (m ≡ k)
not_later m k ms b i e = Before-not m (subst (λ x. Before m x) (sym e) (each_among (Before m) b i))

-- ---- one monomial
pub hit : (f : TermList) (m : Exponents) (ms : List Exponents) (t : Term) (p : TermList) → IsLeft f (m ∷ ms) (t ∷ p) → t.mono ≡ m → IsLeft f ms p × (coef f m ≡ t.coef)
hit f m ms t p h e = (
  record {
    in_order = h.in_order.1;
    canonical = h.canonical.2;
    listed = narrowed m ms p (subst (λ k. Ahead k p) e h.canonical.1) h.listed.1;
    same = λ k i. h.same k (tail i) ∙ coef-other t p k (λ q. not_later m k ms h.in_order.0 i (sym e ∙ q));
  },
  h.same m head ∙ coef-head t p m e h.canonical.1,
)

pub miss : (f : TermList) (m : Exponents) (ms : List Exponents) (t : Term) (p : TermList) → IsLeft f (m ∷ ms) (t ∷ p) → ¬ (t.mono ≡ m) → IsLeft f ms (t ∷ p) × (coef f m ≡ pos 0)
miss f m ms t p h n = by (among_cons h.listed.0)
  where
    by : (t.mono ≡ m) ⊎ Among t.mono ms → IsLeft f ms (t ∷ p) × (coef f m ≡ pos 0)
    by (inl e) = absurd (n e)
    by (inr i) =
        let b : Before m t.mono = each_among (Before m) h.in_order.0 i in
        let a : Ahead m (t ∷ p) = (b, Ahead-more m t.mono p b h.canonical.1) in (
          record { in_order = h.in_order.1; canonical = h.canonical; listed = narrowed m ms (t ∷ p) a h.listed; same = λ k j. h.same k (tail j) },
          h.same m head ∙ coef_ahead m (t ∷ p) a,
        )

pub none : (f : TermList) (m : Exponents) (ms : List Exponents) → IsLeft f (m ∷ ms) [] → IsLeft f ms [] × (coef f m ≡ pos 0)
none f m ms h = (
  record { in_order = h.in_order.1; canonical = tt; listed = tt; same = λ k j. h.same k (tail j) },
  h.same m head,
)

-- ---- by index
-- the entries so far, and what is left
pub record IsWalked (f : TermList) (ms : List Exponents) (r i j : ℕ) (before now : List Entry) : Type 0 where
  pub inside : j ≤ length f
  pub left : IsLeft f (drop i ms) (drop j f)
  pub entries : now ≡ before ++ entries_from r (map (coef f) (take i ms))

-- the entries of one number more
one_entry : (g : Exponents → ℤ) (ms : List Exponents) (r i : ℕ) (m : Exponents) (z : ℤ) → i < length ms → m ≡ slice_index_or ms i m → g m ≡ z
    → entries_from r (map g (take (i + 1) ms)) ≡ entries_from r (map g (take i ms)) ++ entry_at (r + i) z
one_entry g ms r i m z l e v =
    ap (λ q. entries_from r q) (ap (map g) (take_there ms i m l e) ∙ map_push g (take i ms) m)
    ∙ entries_from-++ r (map g (take i ms)) (g m ∷ [])
    ∙ ap (λ q. entries_from r (map g (take i ms)) ++ q) (last (r + length (map g (take i ms))) (g m) ∙ ap (λ k. entry_at k (g m)) (ap (λ k. r + k) (length-map (take i ms) g ∙ length-take-le i ms (omega arith))) ∙ ap (entry_at (r + i)) v)
  where
    last : (k : ℕ) (y : ℤ) → entries_from k (y ∷ []) ≡ entry_at k y
    last k (pos zero) = refl
    last k (pos (suc n)) = refl
    last k (negsuc n) = refl

entry_there : (r : ℕ) (z : ℤ) → ¬ (z ≡ pos 0) → entry_at r z ≡ entry r z ∷ []
entry_there r (pos zero) n = absurd (n refl)
entry_there r (pos (suc k)) n = refl
entry_there r (negsuc k) n = refl

pub walk_starts : (f : TermList) (ms : List Exponents) (r : ℕ) (es : List Entry) → Ordered Before ms → Canonical f → AllByRecursion (λ (t : Term). Among t.mono ms) f → IsWalked f ms r 0 0 es es
walk_starts f ms r es o c h = record { inside = omega arith; left = record { in_order = o; canonical = c; listed = h; same = λ m i. refl }; entries = sym (append-nil es) }

module _ (f : TermList) (ms : List Exponents) (r i j : ℕ) (before now : List Entry) (h : IsWalked f ms r i j before now) (m : Exponents) (l : i < length ms) (is : m ≡ slice_index_or ms i m) where
  left_here : IsLeft f (m ∷ drop (i + 1) ms) (drop j f)
  left_here = subst (λ q. IsLeft f q (drop j f)) (drop_there ms i m l is) h.left

  pub walk_hits : (t : Term) → j < length f → t ≡ slice_index_or f j t → t.mono ≡ m → IsWalked f ms r (i + 1) (j + 1) before (now ++ entry (r + i) t.coef ∷ [])
  walk_hits t k e s =
      let q = subst (λ p. IsLeft f (m ∷ drop (i + 1) ms) p) (drop_there f j t k e) left_here in
      let s = hit f m (drop (i + 1) ms) t (drop (j + 1) f) q s in
      record {
        inside = omega arith;
        left = s.0;
        entries = ap (λ z. z ++ entry (r + i) t.coef ∷ []) h.entries ∙ append_assoc before _ _
            ∙ ap (λ z. before ++ z) (sym (one_entry (coef f) ms r i m t.coef l is s.1 ∙ ap (λ z. entries_from r (map (coef f) (take i ms)) ++ z) (entry_there (r + i) t.coef q.canonical.0)));
      }

  passed : coef f m ≡ pos 0 → now ≡ before ++ entries_from r (map (coef f) (take (i + 1) ms))
  passed z = h.entries ∙ ap (λ q. before ++ q) (sym (one_entry (coef f) ms r i m (pos 0) l is z ∙ append-nil (entries_from r (map (coef f) (take i ms)))))

  pub walk_misses : (t : Term) → j < length f → t ≡ slice_index_or f j t → ¬ (t.mono ≡ m) → IsWalked f ms r (i + 1) j before now
  walk_misses t k e n =
      let d = drop_there f j t k e in
      let q = subst (λ p. IsLeft f (m ∷ drop (i + 1) ms) p) d left_here in
      let s = miss f m (drop (i + 1) ms) t (drop (j + 1) f) q n in
      record { inside = h.inside; left = subst (IsLeft f (drop (i + 1) ms)) (sym d) s.0; entries = passed s.1 }

  past_end : {A : Type 0} (xs : List A) (k : ℕ) → length xs ≤ k → drop k xs ≡ []
  past_end [] zero l = refl
  past_end [] (suc k) l = refl
  past_end (x ∷ xs) zero l = absurd (omega arith)
  past_end (x ∷ xs) (suc k) l = past_end xs k (omega arith)

  pub walk_ended : length f ≤ j → IsWalked f ms r (i + 1) j before now
  walk_ended k =
      let d = past_end f j k in
      let q = subst (λ p. IsLeft f (m ∷ drop (i + 1) ms) p) d left_here in
      let s = none f m (drop (i + 1) ms) q in
      record { inside = h.inside; left = subst (IsLeft f (drop (i + 1) ms)) (sym d) s.0; entries = passed s.1 }

pub walk_ends : (f : TermList) (ms : List Exponents) (r i j : ℕ) (before now : List Entry) → IsWalked f ms r i j before now → length ms ≤ i → now ≡ before ++ entries_from r (map (coef f) ms)
walk_ends f ms r i j before now h l = h.entries ∙ ap (λ q. before ++ entries_from r (map (coef f) q)) (take_past ms i l)
  where
    take_past : {A : Type 0} (xs : List A) (k : ℕ) → length xs ≤ k → take k xs ≡ xs
    take_past [] zero l = refl
    take_past [] (suc k) l = refl
    take_past (x ∷ xs) zero l = absurd (omega arith)
    take_past (x ∷ xs) (suc k) l = ap (λ q. x ∷ q) (take_past xs k (omega arith))

pub walk_becomes : (f : TermList) (ms : List Exponents) (r i j k : ℕ) (before now after : List Entry) → IsWalked f ms r i j before now → k ≡ j → after ≡ now → IsWalked f ms r i k before after
walk_becomes f ms r i j k before now after h e g = subst (λ n. IsWalked f ms r i n before after) (sym e) (subst (λ es. IsWalked f ms r i j before es) (sym g) h)

-- ---- as the code goes: the slice of terms, and its elements at an index
module _ (f : TermList) (ms : List Exponents) (r i j : ℕ) (before now : List Entry) (h : IsWalked f ms r i j before now) (m : Exponents) (l : i < length ms) (is : m ≡ slice_index_or ms i m)
    (k : ℕ) (after : List Entry) where
  pub step_hits : (ts : TermList) → ts ≡ f → j < length ts → (t u : Term) → t ≡ slice_index_or ts j t → u ≡ slice_index_or ts j u → t.mono ≡ m → k ≡ j + 1 → after ≡ now ++ entry (r + i) u.coef ∷ []
      → IsWalked f ms r (i + 1) k before after
  step_hits ts e = subst
      (λ ts. j < length ts → (t u : Term) → t ≡ slice_index_or ts j t → u ≡ slice_index_or ts j u → t.mono ≡ m → k ≡ j + 1 → after ≡ now ++ entry (r + i) u.coef ∷ [] → IsWalked f ms r (i + 1) k before after)
      (sym e)
      (λ b t u a c s n q. walk_becomes f ms r (i + 1) (j + 1) k before (now ++ entry (r + i) t.coef ∷ []) after (walk_hits f ms r i j before now h m l is t b a s) n
      (q ∙ ap (λ (v : Term). now ++ entry (r + i) v.coef ∷ []) (c ∙ get_or_default f j u t b ∙ sym a)))

  pub step_misses : (ts : TermList) → ts ≡ f → j < length ts → (t : Term) → t ≡ slice_index_or ts j t → ¬ (t.mono ≡ m) → k ≡ j → after ≡ now → IsWalked f ms r (i + 1) k before after
  step_misses ts e = subst
      (λ ts. j < length ts → (t : Term) → t ≡ slice_index_or ts j t → ¬ (t.mono ≡ m) → k ≡ j → after ≡ now → IsWalked f ms r (i + 1) k before after) (sym e)
      (λ b t a s n q. walk_becomes f ms r (i + 1) j k before now after (walk_misses f ms r i j before now h m l is t b a s) n q)

  pub step_ended : (ts : TermList) → ts ≡ f → length ts ≤ j → k ≡ j → after ≡ now → IsWalked f ms r (i + 1) k before after
  step_ended ts e = subst (λ ts. length ts ≤ j → k ≡ j → after ≡ now → IsWalked f ms r (i + 1) k before after) (sym e)
      (λ b n q. walk_becomes f ms r (i + 1) j k before now after (walk_ended f ms r i j before now h m l is b) n q)
