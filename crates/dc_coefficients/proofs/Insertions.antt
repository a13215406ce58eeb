-- Monomials that are put into a list in graded order.
use Rattle.std.specs.Prelude.{◌≡◌, ◌⊎◌, ℕ, zero, suc, ◌+◌, ◌<◌, ◌≤◌, List, [], ◌∷◌, ◌++◌, length, drop, insert, slice_index_or}
use Rattle.std.specs.List.{AllByRecursion}
use Rattle.std.proofs.lemmas.Bool.{cases_lt}
use Rattle.std.specs.declared.cmp.Ordering.{Ordering}
use Rattle.std.specs.declared.cmp.Ordering.TheVariants.{Less, Equal, Greater}
use Rattle.std.proofs.Common.{refl, sym, ◌∙◌, ap, subst, arith, inl, inr}
use Rattle.dc_math.specs.Members.{Among, head, tail, none_among, among_first, among_cons}
use Rattle.dc_math.specs.OrderedLists.{Ordered, pairs_ordered}
use Rattle.dc_poly.specs.declared.monomial.Term.{Term}
use Rattle.dc_poly.specs.Terms.{Exponents, TermList, Before, Polynomial}
use Rattle.dc_poly.specs.Order.{graded, Told}
use Rattle.dc_poly.proofs.Graded.{Before-not, Before-trans, graded_told}
use Rattle.dc_coefficients.specs.Monomials.{with_mono, with_monos, with_all, all_terms}

-- ---- the order by its test
pub graded_less : (m k : Exponents) → Before m k → graded m k ≡ Less
graded_less m k h = by (graded m k) (graded_told m k)
  where
    by : (o : Ordering) → Told m k o → o ≡ Less
    by Less t = refl
    by Equal t = absurd (Before-not m (subst (λ x. Before m x) (sym t) h))
    by Greater t = absurd (Before-not m (Before-trans m k m h t))

pub graded_greater : (m k : Exponents) → Before k m → graded m k ≡ Greater
graded_greater m k h = by (graded m k) (graded_told m k)
  where
    by : (o : Ordering) → Told m k o → o ≡ Greater
    by Less t = absurd (Before-not m (Before-trans m k m t h))
    by Equal t = absurd (Before-not m (subst (λ x. Before x m) (sym t) h))
    by Greater t = refl

pub graded_same : (m k : Exponents) → m ≡ k → graded m k ≡ Equal
graded_same m k e = by (graded m k) (graded_told m k)
  where
    by : (o : Ordering) → Told m k o → o ≡ Equal
    by Less t = absurd (Before-not m (subst (λ x. Before m x) (sym e) t))
    by Equal t = refl
    by Greater t = absurd (Before-not m (subst (λ x. Before x m) (sym e) t))

abbrev inserted : Exponents → Exponents → List Exponents → Ordering → List Exponents
inserted m k ks o = elim o [ Less ↦ m ∷ k ∷ ks | Equal ↦ k ∷ ks | Greater ↦ k ∷ with_mono m ks ]

inserted_is : (m k : Exponents) (ks : List Exponents) (o : Ordering) → graded m k ≡ o → with_mono m (k ∷ ks) ≡ inserted m k ks o
inserted_is m k ks o e = ap (inserted m k ks) e

-- ---- where a monomial goes
pub with_mono-there : (ms : List Exponents) (m : Exponents) (i : ℕ) → Ordered Before ms → i < length ms → slice_index_or ms i [] ≡ m → with_mono m ms ≡ ms
with_mono-there [] m i o l e = absurd (omega arith)
with_mono-there (k ∷ ks) m zero o l e = inserted_is m k ks Equal (graded_same m k (sym e))
with_mono-there (k ∷ ks) m (suc i) o l e =
    let b : Before k m = subst (λ x. Before k x) e (index_each (Before k) ks i o.0 (omega arith)) in
    inserted_is m k ks Greater (graded_greater m k b) ∙ ap (λ z. k ∷ z) (with_mono-there ks m i o.1 (omega arith) e)
  where
    index_each : (P : Exponents → Type 0) (ks : List Exponents) (i : ℕ) → AllByRecursion P ks → i < length ks → P (slice_index_or ks i [])
    index_each P [] i h l = absurd (omega arith)
    index_each P (k ∷ ks) zero h l = h.0
    index_each P (k ∷ ks) (suc i) h l = index_each P ks i h.1 (omega arith)

-- all before an index are before it, and it is before the one at the index
pub with_mono-at : (ms : List Exponents) (m : Exponents) (i : ℕ) → i ≤ length ms
    → ((k : ℕ) → k < i → Before (slice_index_or ms k []) m) → (i < length ms → Before m (slice_index_or ms i [])) → with_mono m ms ≡ insert ms i m
with_mono-at [] m zero l b a = refl
with_mono-at [] m (suc i) l b a = absurd (omega arith)
with_mono-at (k ∷ ks) m zero l b a = inserted_is m k ks Less (graded_less m k (a (omega arith)))
with_mono-at (k ∷ ks) m (suc i) l b a =
    inserted_is m k ks Greater (graded_greater m k (b 0 (omega arith)))
    ∙ ap (λ z. k ∷ z) (with_mono-at ks m i (omega arith) (λ j h. b (suc j) (omega arith)) (λ h. a (omega arith)))

-- ---- the order stays
pub each-with_mono : (P : Exponents → Type 0) (ms : List Exponents) (m : Exponents) → P m → AllByRecursion P ms → AllByRecursion P (with_mono m ms)
each-with_mono P [] m p h = (p, tt)
each-with_mono P (k ∷ ks) m p h = by (each-with_mono P ks m p h.1) (graded m k)
  where
    by : AllByRecursion P (with_mono m ks) → (o : Ordering) → AllByRecursion P (inserted m k ks o)
    by r Less = (p, h)
    by r Equal = h
    by r Greater = (h.0, r)

later : (m k : Exponents) (ks : List Exponents) → Before m k → AllByRecursion (Before k) ks → AllByRecursion (Before m) ks
later m k [] b h = tt
later m k (l ∷ ks) b h = (Before-trans m k l b h.0, later m k ks b h.1)

pub ordered-with_mono : (ms : List Exponents) (m : Exponents) → Ordered Before ms → Ordered Before (with_mono m ms)
ordered-with_mono [] m o = (tt, tt)
ordered-with_mono (k ∷ ks) m o = by (ordered-with_mono ks m o.1) (graded m k) (graded_told m k)
  where
    by : Ordered Before (with_mono m ks) → (q : Ordering) → Told m k q → Ordered Before (inserted m k ks q)
    by r Less t = ((t, later m k ks t o.0), o)
    by r Equal t = o
    by r Greater t = (each-with_mono (Before k) ks m t o.0, r)

pub ordered-with_monos : (p : TermList) (ms : List Exponents) → Ordered Before ms → Ordered Before (with_monos p ms)
ordered-with_monos [] ms o = o
ordered-with_monos (t ∷ p) ms o = ordered-with_mono (with_monos p ms) t.mono (ordered-with_monos p ms o)

pub ordered-with_all : (ps : List TermList) (ms : List Exponents) → Ordered Before ms → Ordered Before (with_all ps ms)
ordered-with_all [] ms o = o
ordered-with_all (p ∷ ps) ms o = ordered-with_monos p (with_all ps ms) (ordered-with_all ps ms o)

-- ---- members
pub in-with_mono_old : (m k : Exponents) (ms : List Exponents) → Among k ms → Among k (with_mono m ms)
in-with_mono_old m k (l ∷ ks) h = by (in-with_mono_old m k ks) (graded m l) h
  where
    by : (Among k ks → Among k (with_mono m ks)) → (o : Ordering) → Among k (l ∷ ks) → Among k (inserted m l ks o)
    by r Less h = tail h
    by r Equal h = h
    by r Greater h = elim (among_cons h) [ inl e ↦ among_first e | inr i ↦ tail (r i) ]
in-with_mono_old m k [] h = none_among h

pub in-with_mono_new : (m : Exponents) (ms : List Exponents) → Among m (with_mono m ms)
in-with_mono_new m [] = head
in-with_mono_new m (l ∷ ks) = by (in-with_mono_new m ks) (graded m l) (graded_told m l)
  where
    by : Among m (with_mono m ks) → (o : Ordering) → Told m l o → Among m (inserted m l ks o)
    by r Less t = head
    by r Equal t = among_first t
    by r Greater t = tail r

pub in_with_mono : (m k : Exponents) (ms : List Exponents) → Among k (with_mono m ms) → (k ≡ m) ⊎ Among k ms
in_with_mono m k [] h = among_cons h
in_with_mono m k (l ∷ ks) h = by (in_with_mono m k ks) (graded m l) h
  where
    by : (Among k (with_mono m ks) → (k ≡ m) ⊎ Among k ks) → (o : Ordering) → Among k (inserted m l ks o) → (k ≡ m) ⊎ Among k (l ∷ ks)
    by r Less h = among_cons h
    by r Equal h = inr h
    by r Greater h = elim (among_cons h) [
      | inl e ↦ inr (among_first e)
      | inr i ↦ elim (r i) [ inl e ↦ inl e | inr j ↦ inr (tail j) ]
    ]

-- ---- halving
index-before : (ms : List Exponents) (i j : ℕ) → Ordered Before ms → i < j → j < length ms → Before (slice_index_or ms i []) (slice_index_or ms j [])
index-before ms i j o h l = pairs_ordered Before ms o i j [] h l

pub all_below : (ms : List Exponents) (m : Exponents) (i : ℕ) → Ordered Before ms → i < length ms → Before (slice_index_or ms i []) m
    → (k : ℕ) → k < i + 1 → Before (slice_index_or ms k []) m
all_below ms m i o l b k h = elim (cases_lt k i) [
  | inl a ↦ Before-trans _ (slice_index_or ms i []) m (index-before ms k i o a l) b
  | inr a ↦ subst (λ j. Before (slice_index_or ms j []) m) (let e : i ≡ k = omega arith in e) b
]

pub all_above : (ms : List Exponents) (m : Exponents) (i : ℕ) → Ordered Before ms → Before m (slice_index_or ms i [])
    → (k : ℕ) → i ≤ k → k < length ms → Before m (slice_index_or ms k [])
all_above ms m i o b k h l = elim (cases_lt i k) [
  | inl a ↦ Before-trans m (slice_index_or ms i []) _ b (index-before ms i k o a l)
  | inr a ↦ subst (λ j. Before m (slice_index_or ms j [])) (let e : i ≡ k = omega arith in e) b
]

-- ---- one more
pub more_terms : (p : TermList) (i : ℕ) (t : Term) (ms : List Exponents) → i < length p → t ≡ slice_index_or p i t
    → with_mono t.mono (with_monos (drop (i + 1) p) ms) ≡ with_monos (drop i p) ms
more_terms [] i t ms l e = absurd (omega arith)
more_terms (u ∷ p) zero t ms l e = ap (λ (w : Term). with_mono w.mono (with_monos p ms)) e
more_terms (u ∷ p) (suc i) t ms l e = ap (λ k. with_mono t.mono (with_monos (drop k (u ∷ p)) ms)) (let q : suc i + 1 ≡ suc (i + 1) = omega arith in q) ∙ more_terms p i t ms (omega arith) e

pub more_forms : (ps : List Polynomial) (i : ℕ) (q : Polynomial) (ms : List Exponents) → i < length ps → q ≡ slice_index_or ps i q
    → with_monos q.terms (with_all (all_terms (drop (i + 1) ps)) ms) ≡ with_all (all_terms (drop i ps)) ms
more_forms [] i q ms l e = absurd (omega arith)
more_forms (u ∷ ps) zero q ms l e = ap (λ (w : Polynomial). with_monos w.terms (with_all (all_terms ps) ms)) e
more_forms (u ∷ ps) (suc i) q ms l e =
    ap (λ k. with_monos q.terms (with_all (all_terms (drop k (u ∷ ps))) ms)) (let r : suc i + 1 ≡ suc (i + 1) = omega arith in r) ∙ more_forms ps i q ms (omega arith) e

pub with_all-++ : (ps qs : List TermList) (ms : List Exponents) → with_all (ps ++ qs) ms ≡ with_all ps (with_all qs ms)
with_all-++ [] qs ms = refl
with_all-++ (p ∷ ps) qs ms = ap (with_monos p) (with_all-++ ps qs ms)

-- within a list the value for what is missing does not matter
